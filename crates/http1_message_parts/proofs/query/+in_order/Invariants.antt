use Rattle.std.proofs.Common.{length}
use Rattle.http1_message_parts.proofs.query.+in_order.Given as goal

abbrev pub decreases-in_order : goal.decreases-in_order
decreases-in_order l = length l.parts.now
