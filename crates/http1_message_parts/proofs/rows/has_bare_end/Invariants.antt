use Rattle.std.proofs.Common.{◌≡◌, length, false}
use Rattle.http1_message_parts.specs.Lines.{has_bare_end}
use Rattle.http1_message_parts.proofs.rows.has_bare_end.Given as goal

abbrev pub invariant-loop-i : goal.invariant-loop-i
invariant-loop-i l = has_bare_end false l.left ≡ has_bare_end false l.text

abbrev pub decreases-loop-i : goal.decreases-loop-i
decreases-loop-i l = length l.left
