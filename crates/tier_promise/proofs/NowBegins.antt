-- What a begin leaves of the lock: a permit that it held is released.
use Rattle.std.proofs.Common.{◌≡◌, ℕ, refl, ap, sym, ◌∙◌, true, false, subst, cond, [], ◌∷◌, ◌++◌, ◌==◌, inl, inr}
use Rattle.std.specs.Prelude.{Bool, List, Some, is_some}
use Rattle.std.specs.FinMap.{get}
use Rattle.std.proofs.lemmas.Bool.{eq-eqb}
use Rattle.cache_changes.specs.Changes.{StoredKey}
use Rattle.cache_lock.specs.Answers.{release_changes, released_by}
use Rattle.cache_lock.specs.Changes.{Changes as LockChanges, spends, stores, takes_out}
use Rattle.cache_lock.specs.State.{LockState, status_of, is_number, with_status, after_all}
use Rattle.cache_lock.specs.State as lock_state
use Rattle.cache_lock.specs.Status.{is_waiting, is_aged}
use Rattle.cache_lock.specs.Waits.{last_status, core_of}
use Rattle.cache_lock.specs.declared.status.LockStatus.{LockStatus}
use Rattle.cache_lock.specs.declared.status.LockStatus.TheVariants as status
use Rattle.tier_model.specs.State.{Settings, LockHold, nothing, permit, State}
use Rattle.tier_model.specs.State as state
use Rattle.tier_model.specs.Answers.{key_for}
use Rattle.tier_model.specs.Calls.{extended}
use Rattle.tier_model.specs.Shelf.{Shelf}
use Rattle.cache_evict.specs.Managed.{Managed}
use Rattle.tier_promise.specs.Promise.{Permit, Change, Changes, Now, ends, ended}
use Rattle.tier_model.proofs.EffectLaws.{grip_in, grip_of, grip_at, hold_at}
use Rattle.tier_model.proofs.GripLaws.{grips, next-kept, next-spent}
use Rattle.tier_model.proofs.GrantSteps.{status-held}
use Rattle.tier_promise.proofs.NowFits.{Numbers, end_of, LockFits, NowFits}
use Rattle.tier_promise.proofs.NowShelf.{shelf-ends}
use Rattle.tier_promise.proofs.NowLock.{lock-spent, lock-stores, lock-takes, lock-swap}
use Rattle.tier_promise.proofs.NowQuiet.{IsLocked, open-quiet}
use Rattle.tier_promise.proofs.NowOthers.{OtherFits, other-spent}

module _ (x : Settings) (s : State) (locks : LockChanges) (now : Now) (fits : NowFits x s locks now) (locked : IsLocked x.age s locks) (id : ℕ) (q : state.Request) (is : get s.requests id ≡ Some q) (n : ℕ) (held : q.held ≡ permit n)
    (p : Permit) (named : fits.permits n ≡ Some p) (how : LockStatus) (over : end_of how ≡ Some how) (not_waiting : is_waiting how ≡ false) where
  abbrev k : StoredKey
  k = key_for q

  grip : grip_at s id ≡ grips true n k
  grip = ap grip_of is ∙ ap (grip_in k) held

  status_is : status_of n s.lock ≡ last_status n locks
  status_is = status-held s.lock (grip_at s) (hold_at s) locks locked.granted id n true k grip

  ends_is : ended p.number now.changes ≡ end_of (last_status n locks)
  ends_is = fits.lock.ends n p named

  current_is : last_status n locks ≡ status.Waiting → core_of k locks ≡ Some n → is_number n (get s.lock.current k) ≡ true
  current_is waits core = ap (is_number n) (locked.granted.grants.state.waits k n core waits).0 ∙ eq-eqb n n refl

  module _ (numbers : Numbers) (m : Managed) (shelf : Shelf) (c : Changes) (same_ends : ended p.number c ≡ ended p.number now.changes) (f : OtherFits x numbers fits.permits s now id m shelf locks s.lock.next c) where
    abbrev After : LockChanges → List Change → Type 0
    After more changes = OtherFits x numbers fits.permits s now id m shelf (more ++ locks) (after_all more s.lock).next (extended c changes)

    aged_left : last_status n locks ≡ status.AgeTimeout → After (release_changes k n how s.lock) (cond (is_some (ended p.number c)) [] (ends p.number how ∷ []))
    aged_left aged =
        let over_now : is_some (ended p.number c) ≡ true = ap is_some (same_ends ∙ ends_is ∙ ap end_of aged) in
        let changes_is : release_changes k n how s.lock ≡ spends n ∷ [] = ap (λ (v : Bool). released_by v (is_number n (get s.lock.current k)) k n how) (ap is_aged (status_is ∙ aged)) in
        subst (λ (l : LockChanges). After l (cond (is_some (ended p.number c)) [] (ends p.number how ∷ []))) (sym changes_is)
        (subst (λ (v : Bool). After (spends n ∷ []) (cond v [] (ends p.number how ∷ []))) (sym over_now)
        (subst (λ (y : ℕ). OtherFits x numbers fits.permits s now id m shelf (spends n ∷ locks) y c) (sym (next-spent n (get s.lock.cores n) s.lock)) (other-spent x s now id numbers fits.permits m shelf locks s.lock.next c f n)))

    gone : (j : ℕ) → core_of k locks ≡ Some n → core_of k locks ≡ Some j → is_waiting (cond (j == n) how (last_status j locks)) ≡ false
    gone j core e =
        let both : Some j ≡ Some n = sym e ∙ core in
        let same : j ≡ n = cc in
        ap (λ (v : Bool). is_waiting (cond v how (last_status j locks))) (eq-eqb j n same) ∙ not_waiting

    waiting_left : last_status n locks ≡ status.Waiting → core_of k locks ≡ Some n → After (release_changes k n how s.lock) (cond (is_some (ended p.number c)) [] (ends p.number how ∷ []))
    waiting_left waits core =
        let not_over : is_some (ended p.number c) ≡ false = ap is_some (same_ends ∙ ends_is ∙ ap end_of waits) in
        let changes_is : release_changes k n how s.lock ≡ spends n ∷ stores n how ∷ takes_out k ∷ [] =
        ap (λ (v : Bool). released_by v (is_number n (get s.lock.current k)) k n how) (ap is_aged (status_is ∙ waits)) ∙ ap (λ (v : Bool). released_by false v k n how) (current_is waits core) in
        let first : LockState = after_all (takes_out k ∷ []) s.lock in
        let mid : LockState = lock_state.on_core n (with_status how) first in
        let next : (after_all (spends n ∷ stores n how ∷ takes_out k ∷ []) s.lock).next ≡ s.lock.next = next-spent n (get mid.cores n) mid ∙ next-kept n (with_status how) (get first.cores n) first in
        let stored = lock-stores fits.permits locks s.lock.next c f.lock n p named how over not_waiting in
        let taken = lock-takes fits.permits (stores n how ∷ locks) s.lock.next (ends p.number how ∷ c) stored k (λ j e. gone j core e) in
        let swapped = lock-swap fits.permits locks s.lock.next (ends p.number how ∷ c) n how k taken in
        subst (λ (l : LockChanges). After l (cond (is_some (ended p.number c)) [] (ends p.number how ∷ []))) (sym changes_is)
        (subst (λ (v : Bool). After (spends n ∷ stores n how ∷ takes_out k ∷ []) (cond v [] (ends p.number how ∷ []))) (sym not_over) (record {
          made = f.made;
          order = f.order;
          stored = shelf-ends numbers shelf.bodies shelf.flying shelf.writes c f.stored p.number how;
          lock = subst (λ (y : ℕ). LockFits fits.permits (spends n ∷ stores n how ∷ takes_out k ∷ locks) y (ends p.number how ∷ c)) (sym next)
              (lock-spent fits.permits (stores n how ∷ takes_out k ∷ locks) s.lock.next (ends p.number how ∷ c) swapped n);
          others = λ j apart. open-quiet x numbers fits.permits fits.permits shelf c (ends p.number how ∷ c) (λ y. refl) (λ y. refl) (λ y z h. h) (get s.requests j) (now.request j) (f.others j apart);
        }))

    pub permit-left : After (release_changes k n how s.lock) (cond (is_some (ended p.number c)) [] (ends p.number how ∷ []))
    permit-left = elim (locked.granted.permits id n k grip) [
      | inl aged ↦ aged_left aged
      | inr waits ↦ waiting_left waits.0 waits.1
    ]
