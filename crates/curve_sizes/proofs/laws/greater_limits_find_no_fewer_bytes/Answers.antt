use Rattle.std.proofs.Common.{◌≡◌, ℕ, ◌+◌, ◌≤◌, Bool, true, false, cond, List, [], ◌∷◌, Option, Some, None, refl, arith}
use Rattle.std.proofs.lemmas.Bool.{false≢true}
use Rattle.cache_entries.specs.declared.entry.CacheEntryKey.{CacheEntryKey}
use Rattle.curve_loads.specs.Steps.{Step, asks, removes, has_row, held}
use Rattle.curve_loads.specs.Finds.{IsAtMost}
use Rattle.curve_loads.proofs.Fronts.{found-held}
use Rattle.curve_sizes.specs.Requests.{found_bytes}
use Rattle.curve_sizes.proofs.laws.greater_limits_find_no_fewer_bytes.Goals as goal

at-most-itself : (mark : Option ℕ) → IsAtMost mark mark
at-most-itself None = tt
at-most-itself (Some n) = omega arith

bytes-held : (weight : CacheEntryKey → ℕ) (limit limit' : ℕ) (mark : Option ℕ) → limit ≤ limit' → (steps : List Step) → found_bytes weight limit mark steps ≤ found_bytes weight limit' mark steps
bytes-held weight limit limit' mark l [] = omega arith
bytes-held weight limit limit' mark l (asks e ∷ before) =
    by_tests (has_row e (held weight limit mark before)) (has_row e (held weight limit' mark before)) (found-held limit limit' mark mark l (at-most-itself mark) weight before e)
    (bytes-held weight limit limit' mark l before)
  where
    by_tests : (a b : Bool) → (a ≡ true → b ≡ true) → found_bytes weight limit mark before ≤ found_bytes weight limit' mark before
        → cond a (weight e) 0 + found_bytes weight limit mark before ≤ cond b (weight e) 0 + found_bytes weight limit' mark before
    by_tests true true h ih = omega (arith, ih)
    by_tests true false h ih = absurd (false≢true (h refl))
    by_tests false true h ih = omega (arith, ih)
    by_tests false false h ih = omega (arith, ih)
bytes-held weight limit limit' mark l (removes e ∷ before) = bytes-held weight limit limit' mark l before

pub returns : goal.returns
returns c = λ weight limit limit' watermark steps l. bytes-held weight limit limit' watermark l steps
