use Rattle.tier_single.proofs.RunLaws.{Takes-one}
use Rattle.tier_single.proofs.laws.steps_keep_the_promise.Goals as goal

pub returns : goal.returns
returns c = Takes-one
