use Rattle.tier_model.proofs.LockLaws.{refused-as-before}
use Rattle.tier_model.proofs.laws.refused_calls_leave_the_lock.Goals as goal

pub returns : goal.returns
returns c = refused-as-before
