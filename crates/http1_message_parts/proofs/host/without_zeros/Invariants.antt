use Rattle.std.proofs.Common.{◌≡◌, length}
use Rattle.http1_message_parts.specs.Host.{without_zeros}
use Rattle.http1_message_parts.proofs.host.without_zeros.Given as goal

abbrev pub invariant-loop-digits : goal.invariant-loop-digits
invariant-loop-digits l = without_zeros l.digits ≡ without_zeros l.fn.digits

abbrev pub decreases-loop-digits : goal.decreases-loop-digits
decreases-loop-digits l = length l.digits
