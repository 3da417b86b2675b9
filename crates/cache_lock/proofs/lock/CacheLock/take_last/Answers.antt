use Rattle.std.specs.FinMap.{get}
use Rattle.cache_lock.proofs.Taken.{below-last}
use Rattle.cache_lock.proofs.lock.CacheLock.take_last.Goals as goal

pub invariant_of-self : goal.invariant_of-self
invariant_of-self g c = rw c.take_last.ensures.left (below-last c.self.inside.next c.args.number (get c.self.inside.cores c.args.number) c.self.inside.cores c.self.invariant)
