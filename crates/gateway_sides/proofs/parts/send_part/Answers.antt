use Rattle.gateway_sides.proofs.Sending.{sends_then}
use Rattle.gateway_sides.proofs.parts.send_part.Goals as goal

pub returns-clause-ok : goal.returns-clause-ok
returns-clause-ok c = sends_then _ _ _ _ _ _ c.in_ok-send_part_front.ensures.ok c.send_part_body.ensures.ok
