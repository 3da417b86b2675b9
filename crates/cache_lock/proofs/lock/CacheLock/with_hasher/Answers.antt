use Rattle.cache_lock.proofs.BelowLaws.{below-empty}
use Rattle.cache_lock.proofs.lock.CacheLock.with_hasher.Goals as goal

pub invariant_of-result : goal.invariant_of-result
invariant_of-result g c = rw c.with_hasher.ensures (below-empty 0)
