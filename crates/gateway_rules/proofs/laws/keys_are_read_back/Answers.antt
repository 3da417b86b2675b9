use Rattle.gateway_rules.proofs.Ending.{read_back}
use Rattle.gateway_rules.proofs.laws.keys_are_read_back.Goals as goal

pub returns : goal.returns
returns c = λ keys h. read_back keys h
