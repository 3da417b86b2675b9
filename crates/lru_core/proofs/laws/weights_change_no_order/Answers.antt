use Rattle.lru_core.proofs.Moving.{keys-reweighed}
use Rattle.lru_core.proofs.laws.weights_change_no_order.Goals as goal

pub returns : goal.returns
returns g c = keys-reweighed
