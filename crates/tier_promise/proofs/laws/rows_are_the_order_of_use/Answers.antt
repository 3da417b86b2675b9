use Rattle.tier_promise.proofs.NowOrderOfUse.{order-of-use}
use Rattle.tier_promise.proofs.laws.rows_are_the_order_of_use.Goals as goal

pub returns : goal.returns
returns c = order-of-use
