-- Lengths as decimal numbers.
use Rattle.std.proofs.Common.{◌≡◌, ℕ, ◌^◌, ◌<◌, true, false, List, [], ◌∷◌, length, refl, arith, inl, inr, None, Result, Ok, Err, sym, ◌∙◌, ap}
use Rattle.std.specs.Prelude.{◌==◌, ◌&&◌, nat_lt, IsTrue}
use Rattle.std.specs.List.{list_all}
use Rattle.std.specs.Result.{OkIff, result_ok}
use Rattle.std.specs.Char.{is_ascii_digit}
use Rattle.std.specs.Str.{all_ascii_digits}
use Rattle.std.specs.Str.Parse.{digits_value, ParsesUnsigned}
use Rattle.std.proofs.lemmas.Bool.{cases_Bool}
use Rattle.std.proofs.lemmas.Bool.Decides.{nat_tests}
use Rattle.std.proofs.lemmas.List.Elements.{All-cons, All-nil}
use Rattle.std.proofs.lemmas.Str.Parse.{tells_all_ascii_digits, numerals_by_value, parse_plain, parse_plus}
use Rattle.http_header.specs.Token.{is_visible_or_blank}
use Rattle.http_header.specs.FieldValue.{IsVisibleAscii}
use Rattle.head_parse.specs.Response.{decimal, length_in}

digits_visible : (ds : List ℕ) → list_all is_ascii_digit ds ≡ true → IsVisibleAscii ds
digits_visible [] e = All-nil (λ b. IsTrue (is_visible_or_blank b))
digits_visible (d ∷ ds) e =
    elim (cases_Bool (is_ascii_digit d)) [
      | inl t ↦ All-cons (λ b. IsTrue (is_visible_or_blank b)) d ds (grind (arith, nat_tests)) (digits_visible ds (rw t at e))
      | inr f ↦ let no : false ≡ true = rw f at e in absurd cc
    ]

decimal-hidden : (ds : List ℕ) → ¬ (IsVisibleAscii ds) → decimal ds ≡ None
decimal-hidden ds hidden =
    elim (cases_Bool (list_all is_ascii_digit ds)) [
      | inl t ↦ absurd (hidden (digits_visible ds t))
      | inr f ↦ elim (cases_Bool (nat_lt 0 (length ds))) [ inl some ↦ rw (some, f) refl | inr none ↦ rw none refl ]
    ]

-- a value with other bytes than visible ones says no length
pub length_in-hidden : (bs : List ℕ) → ¬ (IsVisibleAscii bs) → length_in bs ≡ None
length_in-hidden [] hidden = refl
length_in-hidden (b ∷ ds) hidden =
    elim (cases_Bool (b == 43)) [
      | inl t ↦ rw t (decimal-hidden ds (λ v. hidden (All-cons (λ b. IsTrue (is_visible_or_blank b)) b ds (grind (arith, nat_tests)) v)))
      | inr f ↦ rw f (decimal-hidden (b ∷ ds) hidden)
    ]

all_digits : (ds : List ℕ) → all_ascii_digits ds ≡ list_all is_ascii_digit ds
all_digits [] = refl
all_digits (d ∷ ds) = ap (λ b. is_ascii_digit d && b) (all_digits ds)

abbrev Digits : List ℕ → Type 0
Digits ds = all_ascii_digits ds ≡ true

module _ {E : Type 0} where
  decimal-parsed : (ds : List ℕ) (r : Result ℕ E) → OkIff r (Digits ds × (0 < length ds) × (digits_value 10 ds < 2 ^ 64)) (digits_value 10 ds) → result_ok r ≡ decimal ds
  decimal-parsed ds (Ok n) h =
      let some : nat_lt 0 (length ds) ≡ true = grind (arith, nat_tests, h.0.1) in
      let all : list_all is_ascii_digit ds ≡ true = sym (all_digits ds) ∙ h.0.0 in
      let fits : nat_lt (digits_value 10 ds) (2 ^ 64) ≡ true = grind (arith, nat_tests, h.0.2) in
      rw (some, all, fits, h.1) refl
  decimal-parsed ds (Err e) h =
      elim (cases_Bool (nat_lt 0 (length ds))) [
        | inr none ↦ rw none refl
        | inl some ↦
            elim (cases_Bool (list_all is_ascii_digit ds)) [
              | inr other ↦ rw (some, other) refl
              | inl all ↦
                  elim (cases_Bool (nat_lt (digits_value 10 ds) (2 ^ 64))) [
                    | inr over ↦ rw (some, all, over) refl
                    | inl fits ↦ absurd (h (all_digits ds ∙ all, grind (arith, nat_tests), grind (arith, nat_tests)))
                  ]
            ]
      ]

  -- what is read as a number is the length that a value says
  pub length_in-read : (bs : List ℕ) (r : Result ℕ E) → ParsesUnsigned 64 10 bs r → result_ok r ≡ length_in bs
  length_in-read [] r h = decimal-parsed [] r (parse_plain (numerals_by_value Digits tells_all_ascii_digits) 64 [] r h (omega arith))
  length_in-read (b ∷ ds) r h =
      elim (cases_Bool (b == 43)) [
        | inl t ↦ rw t (decimal-parsed ds r (parse_plus (numerals_by_value Digits tells_all_ascii_digits) 64 (b ∷ ds) r h (grind (arith, nat_tests))))
        | inr f ↦ rw f (decimal-parsed (b ∷ ds) r (parse_plain (numerals_by_value Digits tells_all_ascii_digits) 64 (b ∷ ds) r h (λ (e : b ≡ 43). grind (arith, nat_tests))))
      ]
