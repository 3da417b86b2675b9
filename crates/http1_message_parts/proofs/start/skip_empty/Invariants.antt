use Rattle.std.proofs.Common.{◌≡◌, length}
use Rattle.http1_message_parts.specs.Start.{skip_empty}
use Rattle.http1_message_parts.proofs.start.skip_empty.Given as goal

abbrev pub invariant-loop-text : goal.invariant-loop-text
invariant-loop-text l = skip_empty l.text ≡ skip_empty l.fn.text

abbrev pub decreases-loop-text : goal.decreases-loop-text
decreases-loop-text l = length l.text
