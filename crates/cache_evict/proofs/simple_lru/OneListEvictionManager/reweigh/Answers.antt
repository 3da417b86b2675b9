use Rattle.cache_evict.proofs.FaultLaws.{told}
use Rattle.cache_evict.proofs.simple_lru.OneListEvictionManager.reweigh.Goals as goal

pub returns-clause-refused : goal.returns-clause-refused
returns-clause-refused g c = told g.row.N c.args.item.now c.args.size c.args.self.now c.of.result c.in-Err.refusal c.of.ensures.why (rw (← c.self.view_is) c.in-Err.ensures.why)
