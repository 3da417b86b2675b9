use Rattle.http1_message.proofs.OneHost.{one_host}
use Rattle.http1_message.proofs.laws.read_has_one_host.Goals as goal

pub returns : goal.returns
returns c = one_host
