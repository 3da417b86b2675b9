use Rattle.gateway_frames.proofs.Sending.{no_end, no_length}
use Rattle.gateway_frames.proofs.laws.what_breaks_off_is_not_whole.Goals as goal

pub returns-clause-chunked : goal.returns-clause-chunked
returns-clause-chunked c = no_end

pub returns-clause-stated : goal.returns-clause-stated
returns-clause-stated c = no_length
