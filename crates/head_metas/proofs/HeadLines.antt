-- Names, values and maps, as their tests and calls have them.
use Rattle.std.proofs.Common.{◌≡◌, ℕ, ◌+◌, ◌^◌, ◌<◌, ◌≤◌, ◌⊎◌, Bool, true, false, List, [], ◌∷◌, ◌++◌, length, Option, Some, None, MatchOption, IsTrue, Ok, Err, refl, sym, ap, ◌∙◌, arith, inl, inr, nat_lt, length-append}
use Rattle.std.specs.Prelude.{bytes_eq}
use Rattle.std.specs.List.{list_all}
use Rattle.std.proofs.Math.ListN.{length-set}
use Rattle.std.proofs.lemmas.Bool.{cases_Bool, ltb-true, ltb-false, lt-ltb, le-ltb}
use Rattle.std.proofs.lemmas.Bool.Decides.{nat_tests, Decides-by_and}
use Rattle.std.proofs.lemmas.List.Sums.{sum_by-cons}
use Rattle.http_header.specs.FieldName.{IsFieldName}
use Rattle.http_header.specs.FieldValue.{FieldValue, IsFieldValue}
use Rattle.http_header.specs.HeaderMap.{Entry, Entries, append, value_count, index_of, RefusesAppend, ContainsKey}
use Rattle.http_header.specs.Places.{IsAt, IsAbsent}
use Rattle.http_header.specs.Token.{AllPass, token_test, is_token_byte, is_value_byte}
use Rattle.http_header.proofs.PlacesLemmas.{index_of_cases}
use Rattle.http_header.proofs.TokenLemmas.{IsFieldName-from_test, AllPass-from_test}
use Rattle.cache_words.specs.declared.pack.fault.PackFault.TheVariants.{Length}
use Rattle.cache_words.proofs.ReadingLaws.{guard_ok}
use Rattle.head_metas.specs.Head.{most_names}
use Rattle.head_metas.specs.HeadReading.{is_name, is_value, with_line}

test_of-all : (test : ℕ → Bool) (bytes : List ℕ) → AllPass test bytes → list_all test bytes ≡ true
test_of-all test bytes =
    (Decides-by_and test (λ b. IsTrue (test b)) (list_all test) (λ b. (λ h. h, λ h. h)) refl (λ _ _. refl) bytes).1

pub name_named : (bytes : List ℕ) → is_name bytes ≡ true → IsFieldName bytes
unfolding is_name
name_named bytes h = IsFieldName-from_test bytes h

pub name_test : (bytes : List ℕ) → IsFieldName bytes → is_name bytes ≡ true
unfolding is_name is_token_byte
name_test bytes h =
    let some : nat_lt 0 (length bytes) ≡ true = lt-ltb _ _ h.0.0 in
    let tokens : list_all token_test bytes ≡ true = test_of-all token_test bytes h.0.1 in
    let few : length bytes ≤ 65535 = h.1 in
    rw (some, tokens) (grind (arith, nat_tests))

pub value_valued : (bytes : List ℕ) → is_value bytes ≡ true → IsFieldValue bytes
unfolding is_value
value_valued bytes h = AllPass-from_test is_value_byte bytes h

pub value_test : (bytes : List ℕ) → IsFieldValue bytes → is_value bytes ≡ true
unfolding is_value
value_test bytes h = test_of-all is_value_byte bytes h

-- what isn't refused passes the test, and what is doesn't
pub passes : (b : Bool) (P : Type 0) → (P → b ≡ true) → (b ≡ true → P) → (¬ P → ⊥) → b ≡ true
passes true P test is h = refl
passes false P test is h = absurd (h (λ p. let t : false ≡ true = test p in cc))

pub fails : (b : Bool) (P : Type 0) → (b ≡ true → P) → ¬ P → b ≡ false
fails true P is h = absurd (h (is refl))
fails false P is h = refl

-- ---- one more line of a map

-- a further line adds one value
pub value_count-append : (m : Entries FieldValue) (name : List ℕ) (value : FieldValue) → value_count (append m name value) ≡ value_count m + 1
value_count-append [] name value = refl
value_count-append (e ∷ m) name value =
    let values : Entry FieldValue → ℕ = λ e. length e.1 in
    elim (cases_Bool (bytes_eq e.0 name)) [
      | inl t ↦
          let more : Entry FieldValue = (e.0, e.1 ++ value ∷ []) in
          rw t (omega (arith, sum_by-cons values more m, sum_by-cons values e m, length-append e.1 (value ∷ [])))
      | inr n ↦ rw n (omega (arith, sum_by-cons values e (append m name value), sum_by-cons values e m, value_count-append m name value))
    ]

-- and a name, where it has none
abbrev pub Grows : Entries FieldValue → List ℕ → FieldValue → Type 0
Grows m name value =
    (ContainsKey m name × (length (append m name value) ≡ length m))
    ⊎ (¬ (ContainsKey m name) × (length (append m name value) ≡ length m + 1))

grows_by : (m : Entries FieldValue) (name : List ℕ) (value : FieldValue) (o : Option ℕ) → MatchOption o (IsAbsent m name) (IsAt m name) → Grows m name value
grows_by m name value None x =
    inr (x.absent, ap length (x.updates (λ vs. vs ++ value ∷ [])) ∙ length-append m ((name, value ∷ []) ∷ []))
grows_by m name value (Some i) x =
    inl (x.contains, ap length (x.updates (λ vs. vs ++ value ∷ [])) ∙ length-set m i _)

pub grows : (m : Entries FieldValue) (name : List ℕ) (value : FieldValue) → Grows m name value
grows m name value = grows_by m name value (index_of m name) (index_of_cases m name)

-- a map that takes the line has room for it
pub takes_line : (m : Entries FieldValue) (name : List ℕ) (value : FieldValue) → length m ≤ most_names → (RefusesAppend m name → ⊥)
    → with_line m (name, value) ≡ Ok (append m name value)
unfolding with_line
takes_line m name value few taken =
    let test : nat_lt most_names (length (append m name value)) ≡ false =
    le-ltb _ _ (elim (grows m name value) [
      | inl h ↦ omega arith
      | inr h ↦ elim (cases_Bool (nat_lt most_names (length (append m name value)))) [
        | inl t ↦ absurd (taken (inr (h.0, inl (omega (arith, ltb-true _ _ t)))))
        | inr f ↦ ltb-false _ _ f
      ]
    ]) in
    rw test refl

pub refuses_line : (m : Entries FieldValue) (name : List ℕ) (value : FieldValue) → value_count m + 1 < 2 ^ 64 → RefusesAppend m name
    → with_line m (name, value) ≡ Err Length
unfolding with_line
refuses_line m name value room refused =
    elim refused [
      | inl full ↦ absurd (omega (arith, full))
      | inr new ↦
          let many : most_names ≤ length m = elim new.1 [ inl names ↦ names | inr full ↦ absurd (omega (arith, full)) ] in
          elim (grows m name value) [
            | inl h ↦ absurd (new.0 h.0)
            | inr h ↦
                let test : nat_lt most_names (length (append m name value)) ≡ true = lt-ltb _ _ (omega (arith, h.1)) in
                rw test refl
          ]
    ]

-- a map that a line was added to has room for it
pub line_added : (m : Entries FieldValue) (line : List ℕ × FieldValue) (next : Entries FieldValue) → with_line m line ≡ Ok next
    → (length next ≤ most_names) × (next ≡ append m line.0 line.1)
unfolding with_line
line_added m line next e =
    let g = guard_ok (nat_lt most_names (length (append m line.0 line.1))) Length (append m line.0 line.1) next e in
    (rw (← g.1) (ltb-false _ _ g.0), sym g.1)
