use Rattle.gateway_state.proofs.Agreed.{agreed}
use Rattle.gateway_state.proofs.laws.what_is_done_for_one_leaves_the_others_agreed.Goals as goal

pub returns : goal.returns
returns c = agreed
