use Rattle.std.proofs.Common.{◌≡◌, length}
use Rattle.head_directives.specs.Found.{directives_left}
use Rattle.head_directives.proofs.line.ScanIterator.next.Given as goal

abbrev pub invariant-loop-b : goal.invariant-loop-b
invariant-loop-b l = directives_left l.self ≡ directives_left l.fn.self

abbrev pub decreases-loop-b : goal.decreases-loop-b
decreases-loop-b l = length l.self.rest.now
