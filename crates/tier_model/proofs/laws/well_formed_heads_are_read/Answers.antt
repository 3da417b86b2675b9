use Rattle.tier_model.proofs.ResponseLaws.{judged_alone-read}
use Rattle.tier_model.proofs.laws.well_formed_heads_are_read.Goals as goal

pub returns : goal.returns
returns c = judged_alone-read
