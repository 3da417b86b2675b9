use Rattle.gateway_frames.proofs.Joined.{parts_are}
use Rattle.gateway_frames.proofs.laws.parts_are_sent_in_order.Goals as goal

pub returns : goal.returns
returns c = parts_are
