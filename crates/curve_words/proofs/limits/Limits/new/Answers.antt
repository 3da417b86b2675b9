use Rattle.std.proofs.Common.{◌≡◌, ℕ, ◌+◌, ◌<◌, true, false, Bool, length, get_or, arith, subst, sym}
use Rattle.std.proofs.lemmas.Bool.{false≢true}
use Rattle.std.specs.Bool.{MatchBool}
use Rattle.std.specs.List.Sorted.{IsNonDecreasing}
use Rattle.std.proofs.lemmas.List.Sorted.{non_decreasing_from_is_sorted}
use Rattle.curve_words.proofs.limits.Limits.new.Goals as goal

at-true : (r : Bool) (P Q : Type 0) → MatchBool r P Q → r ≡ true → P
at-true true P Q m e = m
at-true false P Q m e = absurd (false≢true e)

at-false : (r : Bool) (P Q : Type 0) → MatchBool r P Q → r ≡ false → Q
at-false true P Q m e = absurd (false≢true (sym e))
at-false false P Q m e = m

pub invariant_of-result : goal.invariant_of-result
invariant_of-result c =
    let xs = c.as_slice.result.now in
    record {
      rising = subst IsNonDecreasing c.as_slice.ensures.value
          (at-true c.is_sorted.result (IsNonDecreasing xs) ((k : ℕ) × (k + 1 < length xs) × ((d : ℕ) → get_or xs (k + 1) d < get_or xs k d))
          (non_decreasing_from_is_sorted xs c.is_sorted.result c.is_sorted.ensures.cases) c.if-is_sorted.true);
    }

pub returns-clause-variant : goal.returns-clause-variant
returns-clause-variant c =
    let xs = c.as_slice.result.now in
    let fall = at-false c.is_sorted.result (IsNonDecreasing xs) ((k : ℕ) × (k + 1 < length xs) × ((d : ℕ) → get_or xs (k + 1) d < get_or xs k d))
    (non_decreasing_from_is_sorted xs c.is_sorted.result c.is_sorted.ensures.cases) c.if-is_sorted.false in (
      λ e. absurd (false≢true e),
      λ r.
          let rising : IsNonDecreasing xs = subst IsNonDecreasing (sym c.as_slice.ensures.value) r in
          let less = fall.2 0 in
          let more = rising fall.0 (fall.0 + 1) 0 (omega arith) fall.1 in
          absurd (omega (arith, less, more)),
    )
