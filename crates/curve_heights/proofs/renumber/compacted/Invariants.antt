use Rattle.curve_heights.specs.Slots.{IsBuilt}
use Rattle.curve_heights.proofs.renumber.compacted.Given as goal

abbrev pub invariant-loop-at : goal.invariant-loop-at
invariant-loop-at l = IsBuilt l.owners l.sums l.free l.at l.hole l.entries l.built.owners.items l.built.cells.items l.built.slots.items
