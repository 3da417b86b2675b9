use Rattle.std.proofs.Common.{◌<◌, ◌-◌, sym, arith, rules}
use Rattle.cache_lock.proofs.BelowLaws.{below-set}
use Rattle.cache_lock.proofs.lock.CacheLock.spend.Goals as goal

pub invariant_of-self : goal.invariant_of-self
invariant_of-self g c =
    let more : 0 < c.in-Some.field-0.now.names - 1 = search (rules, arith) in
    rw c.set.ensures (below-set c.self.inside.next c.args.number c.self.inside.cores _ _ c.self.invariant (sym c.in-Some.ensures) more)
