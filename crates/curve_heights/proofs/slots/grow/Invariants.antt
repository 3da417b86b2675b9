use Rattle.std.proofs.Common.{◌+◌, ◌-◌, ℕ, List, length}
use Rattle.curve_heights.specs.Slots.{IsKept}
use Rattle.curve_heights.proofs.slots.grow.Given as goal

abbrev pub invariant-loop-slots : goal.invariant-loop-slots
invariant-loop-slots l = (owners weights gaps : List ℕ) (next : ℕ) → IsKept owners weights gaps l.initial.slots.items next → IsKept owners weights gaps l.slots.items next

abbrev pub decreases-loop-slots : goal.decreases-loop-slots
decreases-loop-slots l = l.entry + 1 - length l.slots.items
