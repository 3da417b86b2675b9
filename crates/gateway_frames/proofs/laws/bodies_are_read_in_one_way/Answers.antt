use Rattle.gateway_frames.proofs.Reading.{one_reading}
use Rattle.gateway_frames.proofs.laws.bodies_are_read_in_one_way.Goals as goal

pub returns : goal.returns
returns c = one_reading
