use Rattle.std.proofs.Common.{◌≡◌, take, sum}
use Rattle.curve_sums.proofs.level.between.Given as goal

abbrev pub invariant-loop-cell : goal.invariant-loop-cell
invariant-loop-cell l = l.all ≡ sum (take l.cell-index l.cell-items)
