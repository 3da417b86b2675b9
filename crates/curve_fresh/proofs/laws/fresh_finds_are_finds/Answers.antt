use Rattle.std.proofs.Common.{ℕ, ◌+◌, ◌≤◌, ◌&&◌, ltb, Bool, true, false, cond, List, [], ◌∷◌, Option, arith}
use Rattle.cache_entries.specs.declared.entry.CacheEntryKey.{CacheEntryKey}
use Rattle.curve_loads.specs.Steps.{has_row, held}
use Rattle.curve_loads.specs.Finds.{finds}
use Rattle.curve_fresh.specs.Fresh.{Timed, asks, removes, steps_of, stale_in, fresh_finds}
use Rattle.curve_fresh.proofs.laws.fresh_finds_are_finds.Goals as goal

fresh-found : (weight : CacheEntryKey → ℕ) (limit : ℕ) (mark : Option ℕ) (requests : List Timed) → fresh_finds weight limit mark requests ≤ finds weight limit mark (steps_of requests)
fresh-found weight limit mark [] = omega arith
fresh-found weight limit mark (removes e ∷ before) = fresh-found weight limit mark before
fresh-found weight limit mark (asks e m l ∷ before) =
    by_tests (has_row e (held weight limit mark (steps_of before))) (ltb m (stale_in weight limit mark e before)) (fresh-found weight limit mark before)
  where
    by_tests : (a b : Bool) → fresh_finds weight limit mark before ≤ finds weight limit mark (steps_of before)
        → cond (a && b) 1 0 + fresh_finds weight limit mark before ≤ cond a 1 0 + finds weight limit mark (steps_of before)
    by_tests true true h = omega (arith, h)
    by_tests true false h = omega (arith, h)
    by_tests false b h = omega (arith, h)

pub returns : goal.returns
returns c = fresh-found
