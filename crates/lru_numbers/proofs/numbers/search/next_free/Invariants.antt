use Rattle.std.proofs.Common.{◌≡◌, ◌≢◌, ℕ, ◌%◌, ◌<◌, ◌≤◌, ◌-◌, None}
use Rattle.std.specs.Prelude.{nat_eq}
use Rattle.std.specs.HashMap.{get}
use Rattle.lru_numbers.proofs.numbers.search.next_free.Given as goal

abbrev pub invariant-numbers : goal.invariant-numbers
invariant-numbers g l =
    (l.from ≤ l.number) × (l.number ≤ l.last) × (l.number % l.step ≡ l.from % l.step)
    × ((j : ℕ) → l.from ≤ j → j < l.number → j % l.step ≡ l.from % l.step → get nat_eq l.places j ≢ None)

abbrev pub decreases-numbers : goal.decreases-numbers
decreases-numbers g l = l.last - l.number
