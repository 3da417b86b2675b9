use Rattle.std.proofs.Common.{sym}
use Rattle.cache_lock.proofs.BelowLaws.{below-set}
use Rattle.cache_lock.proofs.lock.CacheLock.store.Goals as goal

pub invariant_of-self : goal.invariant_of-self
invariant_of-self g c = rw c.set.ensures (below-set c.self.inside.next c.args.number c.self.inside.cores _ _ c.self.invariant (sym c.in-Some.ensures) (c.self.invariant _ _ (sym c.in-Some.ensures)).1)
