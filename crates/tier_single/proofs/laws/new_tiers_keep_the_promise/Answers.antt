use Rattle.tier_single.proofs.RunLaws.{keeps-new}
use Rattle.tier_single.proofs.laws.new_tiers_keep_the_promise.Goals as goal

pub returns : goal.returns
returns c = λ x new last s rest es os had takes. keeps-new x new s es os last rest had takes
