use Rattle.std.proofs.Common.{◌≡◌, length, false}
use Rattle.http1_message_parts.specs.Lines.{has_bare_cr}
use Rattle.http1_message_parts.proofs.rows.has_bare_cr.Given as goal

abbrev pub invariant-loop-i : goal.invariant-loop-i
invariant-loop-i l = has_bare_cr false l.left ≡ has_bare_cr false l.text

abbrev pub decreases-loop-i : goal.decreases-loop-i
decreases-loop-i l = length l.left
