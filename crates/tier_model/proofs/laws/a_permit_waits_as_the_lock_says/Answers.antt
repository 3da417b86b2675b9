use Rattle.tier_model.proofs.PermitLaws.{Waits-permit}
use Rattle.tier_model.proofs.laws.a_permit_waits_as_the_lock_says.Goals as goal

pub returns : goal.returns
returns c = Waits-permit
