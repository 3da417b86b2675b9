use Rattle.cache_evict.proofs.AlikeLaws.{runs_alike}
use Rattle.cache_evict.proofs.laws.both_evict_alike.Goals as goal

pub returns : goal.returns
returns c = runs_alike
