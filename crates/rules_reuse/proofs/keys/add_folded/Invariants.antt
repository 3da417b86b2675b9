use Rattle.std.proofs.Common.{◌≡◌, ◌++◌, length}
use Rattle.rules_reuse.specs.Keys.{folded}
use Rattle.rules_reuse.proofs.keys.add_folded.Given as goal

abbrev pub invariant-loop-left : goal.invariant-loop-left
invariant-loop-left l = l.key.items ++ folded l.left ≡ l.fn.key.items ++ folded l.text

abbrev pub decreases-loop-left : goal.decreases-loop-left
decreases-loop-left l = length l.left
