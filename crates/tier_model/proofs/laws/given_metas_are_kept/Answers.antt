use Rattle.tier_model.proofs.ResponseLaws.{given-kept}
use Rattle.tier_model.proofs.laws.given_metas_are_kept.Goals as goal

pub returns : goal.returns
returns c = given-kept
