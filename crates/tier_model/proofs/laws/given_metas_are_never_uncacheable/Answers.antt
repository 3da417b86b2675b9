use Rattle.tier_model.proofs.ResponseLaws.{given-never}
use Rattle.tier_model.proofs.laws.given_metas_are_never_uncacheable.Goals as goal

pub returns : goal.returns
returns c = given-never
