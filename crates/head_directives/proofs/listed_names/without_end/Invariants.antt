use Rattle.std.proofs.Common.{◌≡◌, length}
use Rattle.head_directives.specs.Listed.{trim_end}
use Rattle.head_directives.proofs.listed_names.without_end.Given as goal

abbrev pub invariant-loop-b : goal.invariant-loop-b
invariant-loop-b l = trim_end l.rest ≡ trim_end l.bytes

abbrev pub decreases-loop-b : goal.decreases-loop-b
decreases-loop-b l = length l.rest
