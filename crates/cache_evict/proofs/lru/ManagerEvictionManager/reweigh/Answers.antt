use Rattle.std.proofs.Common.{max}
use Rattle.cache_evict.proofs.FaultLaws.{told}
use Rattle.cache_evict.proofs.lru.ManagerEvictionManager.reweigh.Goals as goal

pub returns-clause-refused : goal.returns-clause-refused
returns-clause-refused g c =
    told g.row.N c.args.item.now (max c.args.size 1) c.args.self.now c.of.result c.in-Err.refusal c.of.ensures.why (rw (← c.self.view_is, ← c.max.ensures) c.in-Err.ensures.why)
