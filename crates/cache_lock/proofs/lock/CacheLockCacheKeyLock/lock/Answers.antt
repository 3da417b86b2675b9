use Rattle.std.proofs.Common.{subst}
use Rattle.std.specs.Prelude.{Some, None}
use Rattle.cache_lock.specs.State.{LockState, IsSound}
use Rattle.cache_lock.proofs.GivenBack.{left}
use Rattle.cache_lock.proofs.lock.CacheLockCacheKeyLock.lock.Goals as goal

pub returns-in-Some-clause-given_back : goal.returns-in-Some-clause-given_back
returns-in-Some-clause-given_back g c =
    let sound : IsSound c.args.self.now = subst (λ (s : LockState). IsSound s) c.self.view_is c.self.invariant in
    left c.wait_for.result c.args.self.now c.wait_for.new.self c.combined_bin-key.result c.args.stale_writer c.args.moment (Some c.in-Some.number) sound c.in-Some.ensures.number c.wait_for.ensures.answer c.wait_for.ensures.change

pub returns-in-None-clause-given_back : goal.returns-in-None-clause-given_back
returns-in-None-clause-given_back g c =
    let sound : IsSound c.args.self.now = subst (λ (s : LockState). IsSound s) c.self.view_is c.self.invariant in
    left c.give.result c.args.self.now c.give.new.self c.combined_bin-key.result c.args.stale_writer c.args.moment None sound c.in-None.ensures.number c.give.ensures.answer c.give.ensures.change
