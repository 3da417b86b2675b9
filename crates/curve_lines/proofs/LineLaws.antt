-- The first line of a text, and the lines after it.
use Rattle.std.proofs.Common.{◌≡◌, ◌∙◌, ℕ, suc, ◌-◌, ◌==◌, nat_lt, Bool, true, false, ◌&&◌, List, [], ◌∷◌, length, take, slice_index, refl, ap, sym, subst, arith, rules, if◌then◌else◌}
use Rattle.std.specs.Io.BufRead.{take_through, drop_through, strip_last}
use Rattle.curve_lines.specs.Formats.{lines_in, onto_first}

chosen-cons : (t u e : Bool) (x : ℕ) (p q : List ℕ) → t ≡ true → u ≡ true → (if t && e then x ∷ p else x ∷ q) ≡ x ∷ (if u && e then p else q)
chosen-cons t u true x p q one two = rw (one, two) refl
chosen-cons t u false x p q one two = rw (one, two) refl

-- the end of a list stays after one more element in front
strip_last-cons : (b x y : ℕ) (ys : List ℕ) → strip_last b (x ∷ y ∷ ys) ≡ x ∷ strip_last b (y ∷ ys)
strip_last-cons b x y ys =
    let both : suc (suc (length ys)) - 1 ≡ suc (length ys) = omega arith in
    let one : suc (length ys) - 1 ≡ length ys = omega arith in
    let some : nat_lt 0 (suc (suc (length ys))) ≡ true = search rules in
    let still : nat_lt 0 (suc (length ys)) ≡ true = search rules in
    rw (both, one) (chosen-cons (nat_lt 0 (suc (suc (length ys)))) (nat_lt 0 (suc (length ys))) (slice_index (y ∷ ys) (length ys) == b) x (take (length ys) (y ∷ ys)) (y ∷ ys) some still)

-- what is taken through a byte begins as the list does
pub take_through-cons : (b y : ℕ) (ys : List ℕ) → (rest : List ℕ) × (take_through b (y ∷ ys) ≡ y ∷ rest)
take_through-cons b y ys = go (y == b) refl
  where
    go : (test : Bool) → y == b ≡ test → (rest : List ℕ) × (take_through b (y ∷ ys) ≡ y ∷ rest)
    go true is = ([], rw is refl)
    go false is = (take_through b ys, rw is refl)

strip_feed : (x : ℕ) → x == 10 ≡ true → strip_last 10 (x ∷ []) ≡ []
strip_feed x is = rw is refl

strip_other : (x : ℕ) → x == 10 ≡ false → strip_last 10 (x ∷ []) ≡ x ∷ []
strip_other x is = rw is refl

alone : (x : ℕ) (test : Bool) → x == 10 ≡ test → lines_in (x ∷ []) ≡ strip_last 10 (take_through 10 (x ∷ [])) ∷ lines_in (drop_through 10 (x ∷ []))
alone x true is = rw is (ap (λ l. l ∷ []) (sym (strip_feed x is)))
alone x false is = rw is (ap (λ l. l ∷ []) (sym (strip_other x is)))

before_more : (x y : ℕ) (ys : List ℕ) (test : Bool) → x == 10 ≡ test
    → lines_in (y ∷ ys) ≡ strip_last 10 (take_through 10 (y ∷ ys)) ∷ lines_in (drop_through 10 (y ∷ ys))
    → lines_in (x ∷ y ∷ ys) ≡ strip_last 10 (take_through 10 (x ∷ y ∷ ys)) ∷ lines_in (drop_through 10 (x ∷ y ∷ ys))
before_more x y ys true is first = rw is (ap (λ l. l ∷ lines_in (y ∷ ys)) (sym (strip_feed x is)))
before_more x y ys false is first =
    let begins = take_through-cons 10 y ys in
    let kept : strip_last 10 (x ∷ take_through 10 (y ∷ ys)) ≡ x ∷ strip_last 10 (take_through 10 (y ∷ ys)) =
    subst (λ (t : List ℕ). strip_last 10 (x ∷ t) ≡ x ∷ strip_last 10 t) (sym begins.1) (strip_last-cons 10 x y begins.0) in
    rw is (ap (onto_first x) first ∙ ap (λ l. l ∷ lines_in (drop_through 10 (y ∷ ys))) (sym kept))

-- the first line is what is before the first line feed
pub lines_in-first : (x : ℕ) (xs : List ℕ) → lines_in (x ∷ xs) ≡ strip_last 10 (take_through 10 (x ∷ xs)) ∷ lines_in (drop_through 10 (x ∷ xs))
lines_in-first x [] = alone x (x == 10) refl
lines_in-first x (y ∷ ys) = before_more x y ys (x == 10) refl (lines_in-first y ys)
