use Rattle.rules_laws.proofs.Keyed.{same_fetch}
use Rattle.rules_laws.proofs.fetching.one_key_is_one_fetch.Goals as goal

pub returns : goal.returns
returns c = λ r other o off a b d e t u k. same_fetch r other o off a b d e t u k
