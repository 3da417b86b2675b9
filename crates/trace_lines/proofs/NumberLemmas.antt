-- The number of a JSON text.
use Rattle.std.proofs.Common.{◌≡◌, ℕ, ◌^◌, ◌<◌, ◌&&◌, List, Bool, true, false, ◌==◌, true≢false, drop, Option, Some, None, refl, sym, ap, ◌∙◌, arith, if◌then◌else◌, lt-ltb}
use Rattle.std.specs.Prelude.{slice_index, nat_lt, option_and_then, SomeIff, ℤ, Float}
use Rattle.std.proofs.lemmas.Bool.Decides.{nat_tests}
use Rattle.fast_float.specs.Text.{Parts, IsInteger, digits_of, scan}
use Rattle.serde_json.specs.Data.{unsigned, negative, float}
use Rattle.serde_json.specs.Find.{as_u64}
use Rattle.serde_json.specs.Read.{number_of, number_from, float_of, is_integer}

pub signed_is : (s : List ℕ) → (slice_index s 0 == 45) ≡ true → number_of s ≡ number_from true (scan (drop 1 s))
unfolding number_of
signed_is s minus = rw minus refl

pub unsigned_is : (s : List ℕ) → (slice_index s 0 == 45) ≡ false → number_of s ≡ number_from false (scan s)
unfolding number_of
unsigned_is s none = rw none refl

no_whole : (small finite : Bool) (z : ℤ) (x : Float) → option_and_then as_u64 (if small then Some (negative z) else (if finite then Some (float x) else None)) ≡ None
no_whole true finite z x = refl
no_whole false true z x = refl
no_whole false false z x = refl

pub no_whole_number : (p : Parts) → option_and_then as_u64 (number_from true p) ≡ None
no_whole_number p = no_whole _ _ _ _

no_float : (finite : Bool) (x : Float) → option_and_then as_u64 (if finite then Some (float x) else None) ≡ None
no_float true x = refl
no_float false x = refl

-- a whole number that fits 64 bits
abbrev Fits : Parts → Type 0
Fits p = IsInteger p × (digits_of p < 2 ^ 64)

abbrev fits : Parts → Bool
fits p = is_integer p && nat_lt (digits_of p) (2 ^ 64)

passes : (p : Parts) → Fits p → fits p ≡ true
passes p h = rw (lt-ltb _ _ h.0.0, h.0.1, h.0.2, lt-ltb _ _ h.1) refl

passed : (p : Parts) → fits p ≡ true → Fits p
passed p h = grind (arith, nat_tests)

pub whole_number_is : (p : Parts) (r : Option ℕ) → SomeIff r (Fits p) (digits_of p) → r ≡ option_and_then as_u64 (number_from false p)
whole_number_is p r is = by (fits p) r refl is
  where
    by : (test : Bool) (r : Option ℕ) → fits p ≡ test → SomeIff r (Fits p) (digits_of p) → r ≡ option_and_then as_u64 (if test then Some (unsigned (digits_of p)) else float_of false p)
    by true (Some n) e is = ap Some is.1
    by false (Some n) e is = absurd (true≢false (sym (passes p is.0) ∙ e))
    by true None e is = absurd (is (passed p e))
    by false None e is = sym (no_float _ _)
