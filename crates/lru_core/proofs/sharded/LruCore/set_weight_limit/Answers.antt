use Rattle.std.proofs.Common.{rules}
use Rattle.lru_core.proofs.sharded.LruCore.set_weight_limit.Goals as goal

pub returns : goal.returns
returns g c = search rules
