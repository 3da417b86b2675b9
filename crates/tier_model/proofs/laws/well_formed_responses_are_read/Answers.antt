use Rattle.tier_model.proofs.ResponseLaws.{whole_of-read}
use Rattle.tier_model.proofs.laws.well_formed_responses_are_read.Goals as goal

pub returns : goal.returns
returns c = whole_of-read
