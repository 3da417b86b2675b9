use Rattle.http1_message.proofs.Looking.{looks_on}
use Rattle.http1_message.proofs.laws.earlier_looks_count.Goals as goal

pub returns : goal.returns
returns c = looks_on
