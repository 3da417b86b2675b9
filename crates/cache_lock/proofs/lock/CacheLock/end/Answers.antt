use Rattle.std.proofs.Common.{◌<◌, ◌-◌, sym, arith, rules}
use Rattle.cache_lock.specs.State.{LockState}
use Rattle.cache_lock.proofs.BelowLaws.{below-set}
use Rattle.cache_lock.proofs.EndLaws.{ended}
use Rattle.cache_lock.proofs.lock.CacheLock.end.Goals as goal

pub invariant_of-self : goal.invariant_of-self
invariant_of-self g c =
    let more : 0 < c.in-Some.field-0.now.names - 1 = search (rules, arith) in
    rw c.set.ensures (below-set c.self.inside.next c.args.number c.self.inside.cores _ _ c.self.invariant (sym c.in-Some.ensures) more)

pub returns-then-is_last : goal.returns-then-is_last
returns-then-is_last g c =
    let old : LockState = record { cores = c.self.inside.cores; current = c.self.inside.current; published = c.self.inside.published; next = c.self.inside.next; age = c.self.inside.age_timeout } in
    let e = ended c.args.number c.args.status c.in-Some.field-0.now old (sym c.in-Some.ensures) in
    search (rules)
