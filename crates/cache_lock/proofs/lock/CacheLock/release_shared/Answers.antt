use Rattle.std.proofs.Common.{◌<◌, ◌-◌, arith}
use Rattle.cache_lock.proofs.BelowLaws.{below-set}
use Rattle.cache_lock.proofs.lock.CacheLock.release_shared.Goals as goal

pub invariant_of-self : goal.invariant_of-self
invariant_of-self g c =
    let more : 0 < c.args.held.now.names - 1 = omega (arith, c.requires.more) in
    rw c.set.ensures (below-set c.self.inside.next c.args.number c.self.inside.cores _ _ c.self.invariant (rw (← c.self.view_is) at c.requires.there) more)

pub invariant_of-self-2 : goal.invariant_of-self-2
invariant_of-self-2 g c =
    let more : 0 < c.args.held.now.names - 1 = omega (arith, c.requires.more) in
    rw c.set-2.ensures (below-set c.self.inside.next c.args.number c.self.inside.cores _ _ c.self.invariant (rw (← c.self.view_is) at c.requires.there) more)
