use Rattle.std.proofs.Common.{rules}
use Rattle.cache_evict.proofs.lru.ManagerEvictionManager.remove.Goals as goal

pub returns : goal.returns
returns g c = search rules
