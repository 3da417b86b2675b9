use Rattle.std.proofs.Common.{◌≡◌, length}
use Rattle.rules_response.specs.Ranges.{some_overlap}
use Rattle.rules_response.specs.Spans.{spans}
use Rattle.rules_response.proofs.ranges.some_overlap.Given as goal

abbrev pub invariant-loop-left : goal.invariant-loop-left
invariant-loop-left l = some_overlap (spans l.left) ≡ some_overlap (spans l.parts)

abbrev pub decreases-loop-left : goal.decreases-loop-left
decreases-loop-left l = length l.left
