use Rattle.gateway_frames.proofs.Sending.{whole_reads}
use Rattle.gateway_frames.proofs.laws.what_is_sent_is_read.Goals as goal

pub returns : goal.returns
returns c = whole_reads
