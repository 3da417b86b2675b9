use Rattle.cache_lock.proofs.BelowLaws.{below-remove}
use Rattle.cache_lock.proofs.lock.CacheLock.forget.Goals as goal

pub invariant_of-self : goal.invariant_of-self
invariant_of-self g c = rw c.remove.ensures (below-remove c.self.inside.next c.args.number c.self.inside.cores c.self.invariant)

pub invariant_of-self-else-eq : goal.invariant_of-self-else-eq
invariant_of-self-else-eq g c = rw c.remove.ensures (below-remove c.self.inside.next c.args.number c.self.inside.cores c.self.invariant)
