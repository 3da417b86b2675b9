use Rattle.store_memory.proofs.FinishedLaws.{kept-lent}
use Rattle.store_memory.proofs.cache.MemCache.kept.Goals as goal

pub returns : goal.returns
returns g c = rw (← c.self.view_is) (kept-lent c.args.key.now c.self.inside.bodies.entries c.get.result c.get.ensures)
