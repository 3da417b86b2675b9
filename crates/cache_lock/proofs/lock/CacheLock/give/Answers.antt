use Rattle.std.proofs.Common.{◌≡◌, ◌+◌, ap, sym, ◌∙◌, subst, arith}
use Rattle.std.specs.Ordering.{nat_cmp}
use Rattle.std.specs.FinMap.{FinMap, remove}
use Rattle.cache_lock.specs.declared.lock_core.HeldCore.{HeldCore}
use Rattle.cache_lock.specs.State.{LockState, AreNamedBelow}
use Rattle.cache_lock.proofs.BelowLaws.{below-insert, without_new}
use Rattle.cache_lock.proofs.lock.CacheLock.give.Goals as goal

pub invariant_of-self-in-Ok : goal.invariant_of-self-in-Ok
invariant_of-self-in-Ok g c =
    subst (λ (m : FinMap nat_cmp HeldCore). AreNamedBelow (c.self.inside.next + 1) m) (sym c.in_ok-insert.ensures.ok) (below-insert c.self.inside.next c.self.inside.cores _ c.self.invariant (omega arith))

pub invariant_of-self-in-Err : goal.invariant_of-self-in-Err
invariant_of-self-in-Err g c =
    let gone : c.remove.new.self ≡ c.self.inside.cores = c.remove.ensures ∙ ap (λ (m : FinMap nat_cmp HeldCore). remove m c.self.inside.next) c.in_ok-insert.ensures.ok ∙ without_new c.self.inside.next c.self.inside.cores _ c.self.invariant in
    subst (λ (m : FinMap nat_cmp HeldCore). AreNamedBelow c.self.inside.next m) (sym gone) c.self.invariant

pub returns-in-Err-clause-err : goal.returns-in-Err-clause-err
returns-in-Err-clause-err g c =
    let gone : c.remove.new.self ≡ c.self.inside.cores = c.remove.ensures ∙ ap (λ (m : FinMap nat_cmp HeldCore). remove m c.self.inside.next) c.in_ok-insert.ensures.ok ∙ without_new c.self.inside.next c.self.inside.cores _ c.self.invariant in
    let same : c.insert-2.new.self ≡ c.self.inside.current = c.in-Err.ensures.err in
    let state : ◌≡◌ {A = LockState} _ _ = λ i. record { cores = gone i; current = same i; published = c.self.inside.published; next = c.self.inside.next; age = c.self.inside.age_timeout } in
    state ∙ c.self.view_is
