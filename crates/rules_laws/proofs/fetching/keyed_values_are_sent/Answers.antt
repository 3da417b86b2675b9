use Rattle.rules_laws.proofs.Fetches.{sent_as_keyed}
use Rattle.rules_laws.proofs.fetching.keyed_values_are_sent.Goals as goal

pub returns : goal.returns
returns c = λ r host peer o lines name look left there keyed other. sent_as_keyed r host peer o lines name look left there keyed other
