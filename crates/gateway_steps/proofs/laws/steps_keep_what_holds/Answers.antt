use Rattle.gateway_steps.proofs.Keeping.{reached}
use Rattle.gateway_steps.proofs.laws.steps_keep_what_holds.Goals as goal

pub returns : goal.returns
returns c = reached
