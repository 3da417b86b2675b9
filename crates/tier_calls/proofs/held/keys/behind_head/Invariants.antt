use Rattle.std.proofs.Common.{◌≡◌, length}
use Rattle.tier_calls.specs.Bounds.{behind_head}
use Rattle.tier_calls.proofs.held.keys.behind_head.Given as goal

abbrev pub invariant-loop-left : goal.invariant-loop-left
invariant-loop-left l = behind_head l.left ≡ behind_head l.bytes

abbrev pub decreases-loop-left : goal.decreases-loop-left
decreases-loop-left l = length l.left
