use Rattle.tier_model.proofs.ResponseLaws.{confirmed-outside}
use Rattle.tier_model.proofs.laws.renewals_keep_what_is_outside.Goals as goal

pub returns : goal.returns
returns c = confirmed-outside
