use Rattle.gateway.proofs.Decided.{sent_decided}
use Rattle.gateway.proofs.asking.ask_origin.Goals as goal

pub returns-clause-decided : goal.returns-clause-decided
returns-clause-decided c = sent_decided _ _ _ _ _ _ _ _ c.send_request.ensures.asked
