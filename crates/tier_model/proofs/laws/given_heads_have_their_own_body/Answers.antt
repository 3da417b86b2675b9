use Rattle.tier_model.proofs.ResponseLaws.{given-own}
use Rattle.tier_model.proofs.laws.given_heads_have_their_own_body.Goals as goal

pub returns : goal.returns
returns c = given-own
