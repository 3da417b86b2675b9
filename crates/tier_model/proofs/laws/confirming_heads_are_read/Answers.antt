use Rattle.tier_model.proofs.ResponseLaws.{confirmed_alone-read}
use Rattle.tier_model.proofs.laws.confirming_heads_are_read.Goals as goal

pub returns : goal.returns
returns c = confirmed_alone-read
