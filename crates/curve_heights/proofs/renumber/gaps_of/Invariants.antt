use Rattle.std.proofs.Common.{◌≡◌, ◌++◌, drop}
use Rattle.curve_heights.specs.Slots.{gaps_in}
use Rattle.curve_heights.proofs.renumber.gaps_of.Given as goal

abbrev pub invariant-loop-at : goal.invariant-loop-at
invariant-loop-at l = l.gaps.items ++ gaps_in (drop l.at l.owners) (drop l.at l.cells) ≡ gaps_in l.owners l.cells
