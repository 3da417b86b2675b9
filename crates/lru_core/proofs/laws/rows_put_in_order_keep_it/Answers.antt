use Rattle.std.proofs.Common.{[]}
use Rattle.lru_core.proofs.Ordering.{in_turn}
use Rattle.lru_core.proofs.laws.rows_put_in_order_keep_it.Goals as goal

pub returns : goal.returns
returns g c rows d = in_turn [] rows d
