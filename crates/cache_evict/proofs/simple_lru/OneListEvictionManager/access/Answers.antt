use Rattle.cache_entries.specs.Entry.{owned_of}
use Rattle.cache_evict.proofs.FaultLaws.{told}
use Rattle.cache_evict.proofs.simple_lru.OneListEvictionManager.access.Goals as goal

pub returns-clause-tracked : goal.returns-clause-tracked
returns-clause-tracked g c = rw (← c.self.view_is) c.in-Err.ensures.tracked

pub returns-clause-refused : goal.returns-clause-refused
returns-clause-refused g c = told g.row.N (owned_of c.args.item) c.args.size c.args.self.now c.of.result c.in-Err.refusal c.of.ensures.why (rw (← c.self.view_is) c.in-Err.ensures.why)
