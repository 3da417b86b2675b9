use Rattle.gateway_frames.proofs.Ranges.{taken_is}
use Rattle.gateway_frames.proofs.laws.what_is_taken_is_found.Goals as goal

pub returns : goal.returns
returns c = taken_is
