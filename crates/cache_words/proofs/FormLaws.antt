-- Numbers in their forms: read, and written.
use Rattle.std.proofs.Common.{◌≡◌, ℕ, ◌+◌, ◌-◌, ◌<◌, ◌≤◌, ◌⊎◌, Bool, true, false, not, ◌&&◌, ◌||◌, List, [], ◌∷◌, ◌++◌, Ok, refl, subst, arith, inl, inr, nat_lt}
use Rattle.std.specs.Prelude.{◌==◌, nat_le}
use Rattle.std.specs.Int.{to_be_bytes}
use Rattle.std.proofs.lemmas.Bool.{cases_lt, eqb-true}
use Rattle.std.proofs.lemmas.Bool.Decides.{nat_tests}
use Rattle.cache_words.specs.Forms.{Form, Forms, numbers, arrays, texts, byte_strings, room, Stands, StandsBehind, shortest, shortest_behind}
use Rattle.cache_words.specs.Reading.{number_at, behind_at, wide_at, is_within}
use Rattle.cache_words.proofs.ReadingLaws.{IsBytes, IsBytes-rest, Takes, Agrees, IsWide, wide8, wide16, wide32, wide64, wide_takes, wide_again, chosen, done, ok_is}

abbrev AllWide : List Form → Type 0
AllWide [] = Unit {0}
AllWide (f ∷ fs) = IsWide f.width × AllWide fs

abbrev has_tag : ℕ → List Form → Bool
has_tag b [] = false
has_tag b (f ∷ fs) = (b == f.tag) || has_tag b fs

abbrev distinct : List Form → Bool
distinct [] = true
distinct (f ∷ fs) = not (has_tag f.tag fs) && distinct fs

abbrev outside : Forms → List Form → Bool
outside forms [] = true
outside forms (f ∷ fs) = not (is_within forms f.tag) && outside forms fs

-- each form has its own tag, which is no number within one byte
pub record AreForms (forms : Forms) : Type 0 where
  pub wide : AllWide forms.wide
  pub tags : distinct forms.wide ≡ true
  pub apart : outside forms forms.wide ≡ true

and_left : (a b : Bool) → (a && b) ≡ true → a ≡ true
and_left true b h = refl
and_left false b h = h

and_right : (a b : Bool) → (a && b) ≡ true → b ≡ true
and_right true b h = h
and_right false b h = absurd cc

not_is : (a : Bool) → not a ≡ true → a ≡ false
not_is true h = absurd cc
not_is false h = refl

or_left : (a b : Bool) → a ≡ true → (a || b) ≡ true
or_left true b h = refl
or_left false b h = absurd cc

or_right : (a b : Bool) → b ≡ true → (a || b) ≡ true
or_right true b h = refl
or_right false b h = h

or_cases : (a b : Bool) → (a || b) ≡ true → (a ≡ true) ⊎ (b ≡ true)
or_cases true b h = inl refl
or_cases false b h = inr h

within_low : (forms : Forms) (b : ℕ) → is_within forms b ≡ true → forms.first ≤ b
within_low forms b h =
    let test : nat_le forms.first b ≡ true = and_left (nat_le forms.first b) (nat_lt b (forms.first + forms.count)) h in
    grind (arith, nat_tests)

within_high : (forms : Forms) (b : ℕ) → is_within forms b ≡ true → b < forms.first + forms.count
within_high forms b h =
    let test : nat_lt b (forms.first + forms.count) ≡ true = and_right (nat_le forms.first b) (nat_lt b (forms.first + forms.count)) h in
    grind (arith, nat_tests)

distinct_head : (f : Form) (fs : List Form) → distinct (f ∷ fs) ≡ true → has_tag f.tag fs ≡ false
distinct_head f fs h = not_is (has_tag f.tag fs) (and_left (not (has_tag f.tag fs)) (distinct fs) h)

distinct_tail : (f : Form) (fs : List Form) → distinct (f ∷ fs) ≡ true → distinct fs ≡ true
distinct_tail f fs h = and_right (not (has_tag f.tag fs)) (distinct fs) h

outside_head : (forms : Forms) (f : Form) (fs : List Form) → outside forms (f ∷ fs) ≡ true → is_within forms f.tag ≡ false
outside_head forms f fs h = not_is (is_within forms f.tag) (and_left (not (is_within forms f.tag)) (outside forms fs) h)

outside_tail : (forms : Forms) (f : Form) (fs : List Form) → outside forms (f ∷ fs) ≡ true → outside forms fs ≡ true
outside_tail forms f fs h = and_right (not (is_within forms f.tag)) (outside forms fs) h

same_byte : (b : ℕ) → (b == b) ≡ true
same_byte b = grind (arith, nat_tests)

behind_takes : (fs : List Form) → AllWide fs → (b : ℕ) (rest : List ℕ) (x : ℕ × List ℕ) → IsBytes rest → behind_at fs b rest ≡ Ok x
    → (text : List ℕ) × StandsBehind fs x.0 text × (b ∷ rest ≡ text ++ x.1) × IsBytes x.1
behind_takes [] wide b rest x fits e = absurd cc
behind_takes (f ∷ fs) wide b rest x fits e =
    elim (chosen (b == f.tag) (wide_at f.width rest) (behind_at fs b rest) (done x) e) [
      | inl here ↦
          let t = wide_takes f.width wide.0 rest x fits here.1 in
          let tag : b ≡ f.tag = eqb-true _ _ here.0 in (
            f.tag ∷ to_be_bytes f.width x.0,
            inl (t.0, refl),
            rw (tag, t.1) refl,
            t.2,
          )
      | inr later ↦
          let t = behind_takes fs wide.1 b rest x fits later.1 in
          (t.0, inr t.1, t.2, t.3)
    ]

number_takes : (forms : Forms) → AreForms forms → (bytes : List ℕ) (x : ℕ × List ℕ) → IsBytes bytes → number_at forms bytes ≡ Ok x → Takes (Stands forms) bytes x.0 x.1
unfolding number_at
number_takes forms are [] x fits e = absurd cc
number_takes forms are (b ∷ rest) x fits e =
    elim (chosen (is_within forms b) (Ok (b - forms.first, rest)) (behind_at forms.wide b rest) (done x) e) [
      | inl here ↦
          let least : forms.first ≤ b = within_low forms b here.0 in
          let most : b < forms.first + forms.count = within_high forms b here.0 in
          let number : forms.first + (b - forms.first) ≡ b = omega arith in
          subst (λ (y : ℕ × List ℕ). Takes (Stands forms) (b ∷ rest) y.0 y.1) (ok_is (b - forms.first, rest) x here.1) (record {
            text = b ∷ [];
            spelled = inl (omega arith, rw number refl);
            parts = refl;
            rest_fits = IsBytes-rest b rest fits;
          })
      | inr later ↦
          let t = behind_takes forms.wide are.wide b rest x (IsBytes-rest b rest fits) later.1 in
          record { text = t.0; spelled = inr t.1; parts = t.2; rest_fits = t.3 }
    ]

-- what follows a tag: the tag, and that it is read again
record IsBehind (fs : List Form) (n : ℕ) (text : List ℕ) : Type 0 where
  tag : ℕ
  body : List ℕ
  has : has_tag tag fs ≡ true
  parts : text ≡ tag ∷ body
  again : (rest : List ℕ) → behind_at fs tag (body ++ rest) ≡ Ok (n, rest)

-- a tag that is among those of the forms is not one that isn't
another_by : (b c : ℕ) (fs : List Form) (t : Bool) → (b == c) ≡ t → has_tag b fs ≡ true → has_tag c fs ≡ false → t ≡ false
another_by b c fs false e h k = refl
another_by b c fs true e h k =
    let same : b ≡ c = eqb-true _ _ e in
    let both : has_tag b fs ≡ false = rw same k in
    cc

another : (b c : ℕ) (fs : List Form) → has_tag b fs ≡ true → has_tag c fs ≡ false → (b == c) ≡ false
another b c fs h k = another_by b c fs (b == c) refl h k

behind_again : (fs : List Form) → AllWide fs → distinct fs ≡ true → (n : ℕ) (text : List ℕ) → StandsBehind fs n text → IsBehind fs n text
behind_again [] wide own n text s = absurd s
behind_again (f ∷ fs) wide own n text s =
    elim s [
      | inl here ↦ record {
        tag = f.tag;
        body = to_be_bytes f.width n;
        has = or_left (f.tag == f.tag) (has_tag f.tag fs) (same_byte f.tag);
        parts = here.1;
        again = λ rest. rw (same_byte f.tag) (wide_again f.width wide.0 n rest here.0);
      }
      | inr later ↦
          let t = behind_again fs wide.1 (distinct_tail f fs own) n text later in
          let none : has_tag f.tag fs ≡ false = distinct_head f fs own in
          let other : (t.tag == f.tag) ≡ false = another t.tag f.tag fs t.has none in
          record {
            tag = t.tag;
            body = t.body;
            has = or_right (t.tag == f.tag) (has_tag t.tag fs) t.has;
            parts = t.parts;
            again = λ rest. rw other (t.again rest);
          }
    ]

tag_apart : (forms : Forms) (fs : List Form) (b : ℕ) → outside forms fs ≡ true → has_tag b fs ≡ true → is_within forms b ≡ false
tag_apart forms [] b apart h = absurd cc
tag_apart forms (f ∷ fs) b apart h =
    elim (or_cases (b == f.tag) (has_tag b fs) h) [
      | inl here ↦
          let same : b ≡ f.tag = eqb-true _ _ here in
          rw same (outside_head forms f fs apart)
      | inr later ↦ tag_apart forms fs b (outside_tail forms f fs apart) later
    ]

number_again : (forms : Forms) → AreForms forms → (n : ℕ) (text rest : List ℕ) → Stands forms n text → number_at forms (text ++ rest) ≡ Ok (n, rest)
unfolding number_at
number_again forms are n text rest s =
    elim s [
      | inl here ↦
          let low : nat_le forms.first (forms.first + n) ≡ true = grind (arith, nat_tests) in
          let fits : n < forms.count = here.0 in
          let high : nat_lt (forms.first + n) (forms.first + forms.count) ≡ true = grind (arith, nat_tests) in
          let number : forms.first + n - forms.first ≡ n = omega arith in
          rw (here.1, low, high, number) refl
      | inr later ↦
          let t = behind_again forms.wide are.wide are.tags n text later in
          let no : is_within forms t.tag ≡ false = tag_apart forms forms.wide t.tag are.apart t.has in
          rw (t.parts, no) (t.again rest)
    ]

pub number_agrees : (forms : Forms) → AreForms forms → Agrees (number_at forms) (Stands forms)
number_agrees forms are = record { takes = number_takes forms are; again = number_again forms are }

pub are_numbers : AreForms numbers
are_numbers = record { wide = (wide8, (wide16, (wide32, (wide64, tt)))); tags = refl; apart = refl }

pub are_arrays : AreForms arrays
are_arrays = record { wide = (wide16, (wide32, tt)); tags = refl; apart = refl }

pub are_texts : AreForms texts
are_texts = record { wide = (wide8, (wide16, (wide32, tt))); tags = refl; apart = refl }

pub are_byte_strings : AreForms byte_strings
are_byte_strings = record { wide = (wide8, (wide16, (wide32, tt))); tags = refl; apart = refl }

-- ---- the shortest form

-- the number is below what one of the forms takes
abbrev pub FitsBehind : List Form → ℕ → Type 0
FitsBehind [] n = ⊥
FitsBehind (f ∷ fs) n = (n < room f.width) ⊎ FitsBehind fs n

behind_stands : (fs : List Form) (n : ℕ) → FitsBehind fs n → StandsBehind fs n (shortest_behind fs n)
behind_stands [] n fits = absurd fits
behind_stands (f ∷ fs) n fits =
    elim (cases_lt n (room f.width)) [
      | inl low ↦
          let test : nat_lt n (room f.width) ≡ true = grind (arith, nat_tests) in
          rw test (inl (low, refl))
      | inr high ↦
          let test : nat_lt n (room f.width) ≡ false = grind (arith, nat_tests) in
          rw test (inr (behind_stands fs n (elim fits [ inl low ↦ absurd (omega arith) | inr more ↦ more ])))
    ]

-- a number that has a form has its shortest one
pub shortest_stands : (forms : Forms) (n : ℕ) → FitsBehind forms.wide n → Stands forms n (shortest forms n)
shortest_stands forms n fits =
    elim (cases_lt n forms.count) [
      | inl low ↦
          let test : nat_lt n forms.count ≡ true = grind (arith, nat_tests) in
          rw test (inl (low, refl))
      | inr high ↦
          let test : nat_lt n forms.count ≡ false = grind (arith, nat_tests) in
          rw test (inr (behind_stands forms.wide n fits))
    ]
