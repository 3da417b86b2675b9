use Rattle.lru_core.proofs.Moving.{moved_once}
use Rattle.lru_core.proofs.laws.promoting_twice_is_once.Goals as goal

pub returns : goal.returns
returns g c = moved_once
