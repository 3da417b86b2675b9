use Rattle.rules_laws.proofs.Hosts.{one_host}
use Rattle.rules_laws.proofs.heads.a_request_has_one_host.Goals as goal

pub returns : goal.returns
returns c = λ bytes o read taken h. one_host bytes o read taken h
