use Rattle.lru_core.proofs.Summed.{within}
use Rattle.lru_core.proofs.sharded.LruCore.shards_are_within.Goals as goal

pub returns-clause-within : goal.returns-clause-within
returns-clause-within g c = rw (← c.self.view_is) (within g.row.N _ c.self.invariant.bounded)
