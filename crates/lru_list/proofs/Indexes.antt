-- Lists of indexes: who is among them, and what is left without one.
use Rattle.std.proofs.Common.{◌≡◌, ◌≢◌, ℕ, zero, suc, true, false, cond, ◌<◌, ◌⊎◌, eqb, inl, inr, List, [], ◌∷◌, ◌++◌, length, get_or, sym, refl, ap, ◌∙◌, arith}
use Rattle.std.proofs.lemmas.Bool.{cases_eq, eq-eqb, ne_eqb, true≢false, false≢true}
use Rattle.lru_list.specs.Slots.{has, without, Apart}

pub has_here : (i : ℕ) (is : List ℕ) → has (i ∷ is) i ≡ true
has_here i is = rw (eq-eqb i i refl)

pub has_rest : (x : ℕ) (is : List ℕ) (i : ℕ) → has is i ≡ true → has (x ∷ is) i ≡ true
has_rest x is i h = elim (cases_eq x i) [ inl e ↦ rw (eq-eqb x i e) | inr n ↦ rw (ne_eqb x i n) h ]

pub has_cases : (x : ℕ) (is : List ℕ) (i : ℕ) → has (x ∷ is) i ≡ true → (x ≡ i) ⊎ (has is i ≡ true)
has_cases x is i h = elim (cases_eq x i) [ inl e ↦ inl e | inr n ↦ inr (rw (ne_eqb x i n) at h) ]

-- what is not among x and the rest is not x, and not among the rest
pub has_not : (x : ℕ) (is : List ℕ) (i : ℕ) → has (x ∷ is) i ≡ false → (x ≢ i) × (has is i ≡ false)
has_not x is i h = elim (cases_eq x i) [
  | inl e ↦ absurd (true≢false (rw (eq-eqb x i e) at h))
  | inr n ↦ (n, rw (ne_eqb x i n) at h)
]

pub has_none : (x : ℕ) (is : List ℕ) (i : ℕ) → x ≢ i → has is i ≡ false → has (x ∷ is) i ≡ false
has_none x is i n h = rw (ne_eqb x i n) h

-- one that is among them and one that isn't are two
pub has_apart : (is : List ℕ) (i j : ℕ) → has is i ≡ true → has is j ≡ false → i ≢ j
has_apart is i j h n e = true≢false (sym h ∙ ap (has is) e ∙ n)

pub cases_has : (is : List ℕ) (i : ℕ) → (has is i ≡ true) ⊎ (has is i ≡ false)
cases_has is i = elim (has is i) as (λ b. (b ≡ true) ⊎ (b ≡ false)) [ true ↦ inl refl | false ↦ inr refl ]

pub has-append : (xs ys : List ℕ) (i : ℕ) → has (xs ++ ys) i ≡ cond (has xs i) true (has ys i)
has-append [] ys i = refl
has-append (x ∷ xs) ys i = elim (cases_eq x i) [
  | inl e ↦ rw (eq-eqb x i e)
  | inr n ↦ rw (ne_eqb x i n) (has-append xs ys i)
]

pub has_push_here : (is : List ℕ) (i : ℕ) → has (is ++ i ∷ []) i ≡ true
has_push_here [] i = has_here i []
has_push_here (x ∷ is) i = has_rest x (is ++ i ∷ []) i (has_push_here is i)

pub has_more : (is : List ℕ) (i j : ℕ) → has is j ≡ true → has (is ++ i ∷ []) j ≡ true
has_more is i j h = rw (has-append is (i ∷ []) j, h)

pub has_push_cases : (is : List ℕ) (i j : ℕ) → has (is ++ i ∷ []) j ≡ true → (has is j ≡ true) ⊎ (i ≡ j)
has_push_cases [] i j h = elim (has_cases i [] j h) [ inl e ↦ inr e | inr n ↦ absurd (false≢true n) ]
has_push_cases (x ∷ is) i j h = elim (has_cases x (is ++ i ∷ []) j h) [
  | inl e ↦ inl (rw (eq-eqb x j e))
  | inr r ↦ elim (has_push_cases is i j r) [ inl r ↦ inl (has_rest x is j r) | inr e ↦ inr e ]
]

pub has_push_none : (is : List ℕ) (i j : ℕ) → has is j ≡ false → i ≢ j → has (is ++ i ∷ []) j ≡ false
has_push_none is i j h n = rw (has-append is (i ∷ []) j, h, ne_eqb i j n)

pub has-without_same : (i : ℕ) (is : List ℕ) → has (without i is) i ≡ false
has-without_same i [] = refl
has-without_same i (x ∷ is) = elim (cases_eq x i) [
  | inl e ↦ rw (eq-eqb x i e) (has-without_same i is)
  | inr n ↦ rw (ne_eqb x i n) (rw (ne_eqb x i n) (has-without_same i is))
]

pub has-without_other : (i j : ℕ) (is : List ℕ) → i ≢ j → has (without i is) j ≡ has is j
has-without_other i j [] n = refl
has-without_other i j (x ∷ is) n = elim (cases_eq x i) [
  | inl e ↦ let d : x ≢ j = λ f. n (sym e ∙ f) in rw (eq-eqb x i e, ne_eqb x j d) (has-without_other i j is n)
  | inr d ↦ rw (ne_eqb x i d) (ap (cond (eqb x j) true) (has-without_other i j is n))
]

-- what is left was among them, and is not the one that went
pub has_left : (i j : ℕ) (is : List ℕ) → has (without i is) j ≡ true → (i ≢ j) × (has is j ≡ true)
has_left i j is h = elim (cases_eq i j) [
  | inl e ↦ absurd (true≢false (sym h ∙ (ap (has (without i is)) (sym e) ∙ has-without_same i is)))
  | inr n ↦ (n, sym (has-without_other i j is n) ∙ h)
]

pub has_left_none : (i j : ℕ) (is : List ℕ) → has is j ≡ false → has (without i is) j ≡ false
has_left_none i j is h = elim (cases_eq i j) [
  | inl e ↦ rw (← e) (has-without_same i is)
  | inr n ↦ has-without_other i j is n ∙ h
]

pub without_absent : (i : ℕ) (is : List ℕ) → has is i ≡ false → without i is ≡ is
without_absent i [] h = refl
without_absent i (x ∷ is) h = let p = has_not x is i h in rw (ne_eqb x i p.0) (ap (λ r. x ∷ r) (without_absent i is p.1))

pub Apart-without : (i : ℕ) (is : List ℕ) → Apart is → Apart (without i is)
Apart-without i [] a = tt
Apart-without i (x ∷ is) a = elim (cases_eq x i) [
  | inl e ↦ rw (eq-eqb x i e) (Apart-without i is a.1)
  | inr n ↦ rw (ne_eqb x i n) (has_left_none i x is a.0, Apart-without i is a.1)
]

pub length-without : (i : ℕ) (is : List ℕ) → Apart is → has is i ≡ true → suc (length (without i is)) ≡ length is
length-without i [] a h = absurd (false≢true h)
length-without i (x ∷ is) a h = elim (cases_eq x i) [
  | inl e ↦ rw (eq-eqb x i e, without_absent i is (ap (has is) (sym e) ∙ a.0))
  | inr n ↦ rw (ne_eqb x i n) (ap suc (length-without i is a.1 (rw (ne_eqb x i n) at h)))
]

pub Apart_push : (is : List ℕ) (i : ℕ) → Apart is → has is i ≡ false → Apart (is ++ i ∷ [])
Apart_push [] i a h = (refl, tt)
Apart_push (x ∷ is) i a h =
    let p = has_not x is i h in
    (has_push_none is i x a.0 (λ e. p.0 (sym e)), Apart_push is i a.1 p.1)

pub Apart_front : (is : List ℕ) (i : ℕ) → Apart (is ++ i ∷ []) → Apart is × (has is i ≡ false)
Apart_front [] i a = (tt, refl)
Apart_front (x ∷ is) i a =
    let r = Apart_front is i a.1 in
    let n : x ≢ i = λ e. true≢false (sym (ap (has (is ++ i ∷ [])) e ∙ has_push_here is i) ∙ a.0) in
    let out : has is x ≡ false = elim (cases_has is x) [ inl h ↦ absurd (true≢false (sym (has_more is i x h) ∙ a.0)) | inr h ↦ h ] in
    ((out, r.0), has_none x is i n r.1)

-- the last one leaves the front
pub without_last : (is : List ℕ) (i : ℕ) → has is i ≡ false → without i (is ++ i ∷ []) ≡ is
without_last [] i h = rw (eq-eqb i i refl)
without_last (x ∷ is) i h = let p = has_not x is i h in rw (ne_eqb x i p.0) (ap (λ r. x ∷ r) (without_last is i p.1))

pub has_at : (xs : List ℕ) (k d : ℕ) → k < length xs → has xs (get_or xs k d) ≡ true
has_at [] k d h = absurd (omega arith)
has_at (x ∷ xs) zero d h = has_here x xs
has_at (x ∷ xs) (suc k) d h = has_rest x xs (get_or xs k d) (has_at xs k d (omega arith))
