use Rattle.std.proofs.Common.{◌≡◌, length}
use Rattle.head_directives.specs.Listed.{trim_front}
use Rattle.head_directives.proofs.listed_names.without_front.Given as goal

abbrev pub invariant-loop-b : goal.invariant-loop-b
invariant-loop-b l = trim_front l.rest ≡ trim_front l.bytes

abbrev pub decreases-loop-b : goal.decreases-loop-b
decreases-loop-b l = length l.rest
