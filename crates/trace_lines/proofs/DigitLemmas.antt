-- A digit's value with its mark, with the letters of both cases as one range.
use Rattle.std.proofs.Common.{◌≡◌, ℕ, zero, suc, ◌+◌, ◌-◌, ◌<◌, ◌%◌, ◌==◌, nat_lt, Bool, true, ◌&&◌, refl, arith, inl, inr, ltb-true}
use Rattle.std.specs.Prelude.{Option, Some, None, bit_or, max}
use Rattle.std.proofs.lemmas.Bool.{and_parts, cases_lt, eqb-true}
use Rattle.hex.specs.Hex.{hex_digit_value}
use Rattle.trace_lines.specs.Digits.{IsMarked}

abbrev pub digit : ℕ → ℕ
digit c = (c + 198) % 256 - 6

abbrev pub letter : ℕ → ℕ
letter c = (bit_or ((c + 255) % 256) 32 + 154) % 256

abbrev pub marked : ℕ → ℕ
marked c = max (digit c) (letter c)

abbrev is_marked : Option ℕ → ℕ → Bool
is_marked (Some v) n = (n == 240 + v) && nat_lt v 16
is_marked None n = nat_lt n 240

passed : (o : Option ℕ) (n : ℕ) → is_marked o n ≡ true → IsMarked o n
passed (Some v) n h =
    let parts = and_parts (n == 240 + v) (nat_lt v 16) h in
    (eqb-true n (240 + v) parts.0, ltb-true v 16 parts.1)
passed None n h = ltb-true n 240 h

abbrev agrees : ℕ → Bool
agrees c = is_marked (hex_digit_value c) (marked c)

abbrev all_below : (ℕ → Bool) → ℕ → Bool
all_below p zero = true
all_below p (suc n) = p n && all_below p n

all_below_at : (p : ℕ → Bool) (n k : ℕ) → all_below p n ≡ true → k < n → p k ≡ true
all_below_at p zero k h lt = absurd (omega arith)
all_below_at p (suc n) k h lt =
    let parts = and_parts (p n) (all_below p n) h in
    elim (cases_lt k n) [
      | inl below ↦ all_below_at p n k parts.1 below
      | inr top ↦
          let e : k ≡ n = omega arith in
          rw e parts.0
    ]

-- each of the 256 bytes is tried
pub marked_is : (c : ℕ) → c < 256 → IsMarked (hex_digit_value c) (marked c)
marked_is c byte = passed (hex_digit_value c) (marked c) (all_below_at agrees 256 c refl byte)
