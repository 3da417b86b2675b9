use Rattle.gateway_frames.proofs.Ranges.{relayed_is}
use Rattle.gateway_frames.proofs.laws.a_part_is_relayed_as_it_comes.Goals as goal

pub returns : goal.returns
returns c = relayed_is
