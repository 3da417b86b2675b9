use Rattle.std.proofs.Common.{◌≡◌, length}
use Rattle.rules_fields.specs.Tags.{ends_quoted}
use Rattle.rules_fields.proofs.tags.ends_quoted.Given as goal

abbrev pub invariant-loop-left : goal.invariant-loop-left
invariant-loop-left l = ends_quoted l.left ≡ ends_quoted l.text

abbrev pub decreases-loop-left : goal.decreases-loop-left
decreases-loop-left l = length l.left
