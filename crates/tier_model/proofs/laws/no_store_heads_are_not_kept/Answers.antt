use Rattle.tier_model.proofs.NoStoreLaws.{not-stored}
use Rattle.tier_model.proofs.laws.no_store_heads_are_not_kept.Goals as goal

pub returns : goal.returns
returns c = not-stored
