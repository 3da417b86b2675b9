use Rattle.rules_reuse.proofs.Looking.{looks}
use Rattle.rules_reuse.proofs.laws.only_get_and_head_look_up.Goals as goal

pub returns : goal.returns
returns c = λ request o. looks request o
