use Rattle.std.proofs.Common.{◌≡◌, ◌<◌, ◌-◌, take, sum, length}
use Rattle.curve_sums.proofs.level.first_from.Given as goal

abbrev pub invariant-loop-at : goal.invariant-loop-at
invariant-loop-at l = (sum (take l.at l.level) ≡ 0) × (l.at < length l.level)

abbrev pub decreases-loop-at : goal.decreases-loop-at
decreases-loop-at l = length l.level - l.at
