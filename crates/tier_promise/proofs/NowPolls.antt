-- Polls: each is answered by its row, and leaves what the promise says then.
use Rattle.std.proofs.Common.{◌≡◌, ℕ, refl, ap, sym, ◌∙◌, true, false, subst, cond, [], ◌∷◌, ◌++◌, ◌==◌, inl, inr}
use Rattle.std.specs.Prelude.{◌&&◌, Bool, List, Option, Some, None, option_map, is_some, unwrap_or, Ok, Err, not}
use Rattle.std.specs.FinMap.{get}
use Rattle.std.specs.Option.{option_or}
use Rattle.cache_words.specs.Time.{MomentValue, DurationValue, at_least, elapsed}
use Rattle.cache_lock.specs.Changes.{Changes as LockChanges, spends, stores}
use Rattle.cache_lock.specs.Answers.{outcome, wait_outcome, poll_changes, is_over_age}
use Rattle.cache_lock.specs.Fills.{fill_among}
use Rattle.cache_lock.specs.State.{LockState, status_of, tokens_of, with_status, after_all}
use Rattle.cache_lock.specs.State as lock_state
use Rattle.cache_lock.specs.Status.{is_waiting}
use Rattle.cache_lock.specs.Waits.{last_status}
use Rattle.cache_lock.specs.declared.fills.WaitOutcome.{WaitOutcome}
use Rattle.cache_lock.specs.declared.fills.WaitOutcome.TheVariants.{Released, AgeTimeout as Aged, Abandoned}
use Rattle.cache_lock.specs.declared.lock_core.HeldCore.{HeldCore}
use Rattle.cache_lock.specs.declared.status.LockStatus.{LockStatus}
use Rattle.cache_lock.specs.declared.status.LockStatus.TheVariants.{AgeTimeout}
use Rattle.tier_model.specs.declared.event.Action.TheVariants.{Poll}
use Rattle.tier_model.specs.declared.event.Answer.{Answer}
use Rattle.tier_model.specs.declared.event.Answer.TheVariants.{Waited}
use Rattle.tier_model.specs.declared.event.TierFault.{TierFault}
use Rattle.tier_model.specs.declared.event.TierFault.TheVariants.{NoRequest, WrongPhase}
use Rattle.tier_model.specs.Calls.{Outcome, writes_after, extended}
use Rattle.tier_model.specs.State.{Settings, LockHold, nothing, permit, State}
use Rattle.tier_model.specs.State as state
use Rattle.tier_model.specs.Standings.{in_all, time_waited}
use Rattle.tier_model.specs.Polls.{told_in_time}
use Rattle.tier_model.specs.Checks.{unless, unless_open}
use Rattle.tier_model.specs.Checks as checks
use Rattle.tier_model.specs.Answers.{key_for, is_past, ended_by, polled}
use Rattle.tier_model.specs.Step.{AllowsBy, Allows, tells_of_write}
use Rattle.tier_model.specs.After.{with_counts, with_request, by_request, on_request, after_wait, poll_of, lock_changes_in}
use Rattle.tier_promise.specs.Promise.{Permit, Changes, Request, Now, Hold, no_lock, holds, waits, ends, ended, after_poll, poll_row, poll_by, came, refused, row_of}
use Rattle.tier_model.proofs.CallLaws.{Inside, call_at}
use Rattle.tier_model.proofs.BeganLaws.{ages}
use Rattle.tier_model.proofs.EffectLaws.{grip_of, grip_in, grip_at, hold_at}
use Rattle.tier_model.proofs.GripLaws.{grips, key_in, next-kept, next-spent}
use Rattle.tier_model.proofs.GrantSteps.{status-held}
use Rattle.tier_promise.proofs.NowRows.{row_closed}
use Rattle.tier_promise.proofs.NowFits.{LockFits, HoldFits, RequestFits, OpenFits, NowFits}
use Rattle.tier_promise.proofs.NowShelf.{shelf-ends}
use Rattle.tier_promise.proofs.NowLock.{lock-spent, lock-stores}
use Rattle.tier_promise.proofs.NowQuiet.{IsLocked, ComesLocked, request-quiet, wait-told, wait-stored, turn-fits}
use Rattle.tier_promise.proofs.NowSteps.{Step, of-open, same-count, refused-fits, closed-fits, counted-fits}

core_there : (k : List ℕ) (o : Option HeldCore) → option_map key_in o ≡ Some k → (y : HeldCore) × (o ≡ Some y)
core_there k None e = absurd cc
core_there k (Some y) e = (y, refl)

module _ (x : Settings) (s : State) (locks : LockChanges) (now : Now) (fits : NowFits x s locks now) (locked : IsLocked x.age s locks) (used : ℕ) (t : MomentValue) (i : Inside) where
  abbrev c : Changes
  c = now.changes

  module _ (id : ℕ) (q : state.Request) (r : Request) (is : get s.requests id ≡ Some q) (at : now.request id ≡ Some r) (f : RequestFits x fits.numbers fits.permits s.shelf c q r) (n : ℕ) (first : Option MomentValue)
      (p : Permit) (since : Option MomentValue) (held : q.held ≡ state.waits n first) (hold : r.hold ≡ waits p since) (named : fits.permits n ≡ Some p) (one : first ≡ since) where
    abbrev aged : Bool
    aged = at_least (elapsed p.given t) x.age

    abbrev over : Bool
    over = is_past x.wait r.waited (time_waited since t)

    abbrev st : LockStatus
    st = last_status n locks

    grip : grip_at s id ≡ grips false n (key_for q)
    grip = ap grip_of is ∙ ap (grip_in (key_for q)) held

    core : (y : HeldCore) × (get s.lock.cores n ≡ Some y)
    core = core_there (key_for q) (get s.lock.cores n) (locked.granted.grants.there id n false (key_for q) grip)

    status_is : status_of n s.lock ≡ st
    status_is = status-held s.lock (grip_at s) (hold_at s) locks locked.granted id n false (key_for q) grip

    core_status : core.0.core.status ≡ st
    core_status = sym (ap lock_state.status_in core.1) ∙ status_is

    aged_is : is_over_age core.0.core t ≡ aged
    aged_is =
        let b = locked.began n (ages core.0) (ap (option_map ages) core.1) in
        let both : Some core.0.core.lock_start ≡ Some p.given = sym b.0 ∙ fits.lock.given n p named in
        let start : core.0.core.lock_start ≡ p.given = cc in
        ap (λ (m : MomentValue). at_least (elapsed m t) core.0.core.age_timeout) start ∙ ap (λ (d : DurationValue). at_least (elapsed p.given t) d) b.1

    wait_is : wait_outcome n [] t s.lock ≡ cond (is_waiting st) (cond aged (Some Aged) (option_map Abandoned (fill_among (tokens_of n s.lock) []))) (Some Released)
    wait_is =
        ap (λ (o : Option HeldCore). outcome o (tokens_of n s.lock) [] t) core.1
        ∙ ap (λ (v : LockStatus). cond (is_waiting v) (cond (is_over_age core.0.core t) (Some Aged) (option_map Abandoned (fill_among (tokens_of n s.lock) []))) (Some Released)) core_status
        ∙ ap (λ (v : Bool). cond (is_waiting st) (cond v (Some Aged) (option_map Abandoned (fill_among (tokens_of n s.lock) []))) (Some Released)) aged_is

    over_is : is_past q.wait q.waited (time_waited first t) ≡ over
    over_is =
        ap (λ (w : Option DurationValue). is_past w q.waited (time_waited first t)) f.wait ∙ ap (λ (w : Option DurationValue). is_past x.wait w (time_waited first t)) f.waited
        ∙ ap (λ (m : Option MomentValue). is_past x.wait r.waited (time_waited m t)) one

    pub polled_is : polled s.lock t q (state.waits n first) ≡ option_or (ended p.number c) (told_in_time aged over)
    polled_is =
        ap (λ (w : Option WaitOutcome). ended_by w (status_of n s.lock) (is_past q.wait q.waited (time_waited first t))) wait_is
        ∙ ap (λ (v : LockStatus). ended_by (cond (is_waiting st) (cond aged (Some Aged) (option_map Abandoned (fill_among (tokens_of n s.lock) []))) (Some Released)) v (is_past q.wait q.waited (time_waited first t))) status_is
        ∙ ap (λ (v : Bool). ended_by (cond (is_waiting st) (cond aged (Some Aged) (option_map Abandoned (fill_among (tokens_of n s.lock) []))) (Some Released)) st v) over_is
        ∙ wait-told st aged over (fill_among (tokens_of n s.lock) []) ∙ ap (λ (e : Option LockStatus). option_or e (told_in_time aged over)) (sym (fits.lock.ends n p named))

    -- the changes of the lock, where the wait ends
    pub stored_is : poll_changes n (wait_outcome n [] t s.lock) ≡ cond (aged && not (is_some (ended p.number c))) (stores n AgeTimeout ∷ []) []
    stored_is = ap (poll_changes n) wait_is ∙ wait-stored n st aged (fill_among (tokens_of n s.lock) []) ∙ ap (λ (e : Option LockStatus). cond (aged && not (is_some e)) (stores n AgeTimeout ∷ []) []) (sym (fits.lock.ends n p named))

    -- ---- what the wait leaves

    abbrev ended_now : Bool
    ended_now = aged && not (is_some (ended p.number c))

    abbrev T : Option LockStatus
    T = option_or (ended p.number c) (told_in_time aged over)

    goes-on-fits : (k : ℕ) → k ≡ s.shelf.writes → NowFits x (with_counts k s.lock (with_request id (record q { held = state.waits n (Some (unwrap_or first t)) }) s)) locks
        (record { changes = c; request = λ j. cond (j == id) (Some (record r { hold = waits p (Some (unwrap_or since t)) })) (now.request j) })
    goes-on-fits k same = turn-fits x s locks now fits id (record q { held = state.waits n (Some (unwrap_or first t)) }) (record r { hold = waits p (Some (unwrap_or since t)) }) fits.permits s.lock locks c k same
        (λ m. refl) (λ m. refl) (λ j y h. h) fits.rows fits.shelf fits.lock
        (record {
          entry = f.entry;
          asks = f.asks;
          wait = f.wait;
          phase = f.phase;
          waited = f.waited;
          gave_read = f.gave_read;
          hold = (named, ap (λ (o : Option MomentValue). Some (unwrap_or o t)) one);
          seen = f.seen;
          write = f.write;
          reader = f.reader;
        })

    abbrev over_q : state.Request
    over_q = record q { held = nothing; waited = in_all q.waited (time_waited first t) }

    abbrev over_r : Request
    over_r = record r { hold = no_lock; waited = in_all r.waited (time_waited since t) }

    waited_is : in_all q.waited (time_waited first t) ≡ in_all r.waited (time_waited since t)
    waited_is = ap (λ (w : Option DurationValue). in_all w (time_waited first t)) f.waited ∙ ap (λ (m : Option MomentValue). in_all r.waited (time_waited m t)) one

    ended-fits : (v : Bool) (k : ℕ) → k ≡ s.shelf.writes → NowFits x (with_counts k (after_all (spends n ∷ cond v (stores n AgeTimeout ∷ []) []) s.lock) (with_request id over_q s))
        ((spends n ∷ cond v (stores n AgeTimeout ∷ []) []) ++ locks)
        (record { changes = extended c (cond v (ends p.number AgeTimeout ∷ []) []); request = λ j. cond (j == id) (Some over_r) (now.request j) })
    ended-fits false k same = turn-fits x s locks now fits id over_q over_r fits.permits (after_all (spends n ∷ []) s.lock) (spends n ∷ locks) c k same (λ m. refl) (λ m. refl) (λ j y h. h) fits.rows fits.shelf
        (subst (λ (m : ℕ). LockFits fits.permits (spends n ∷ locks) m c) (sym (next-spent n (get s.lock.cores n) s.lock)) (lock-spent fits.permits locks s.lock.next c fits.lock n))
        (record { entry = f.entry; asks = f.asks; wait = f.wait; phase = f.phase; waited = waited_is; gave_read = f.gave_read; hold = tt; seen = f.seen; write = f.write; reader = f.reader })
    ended-fits true k same =
        let mid : LockState = lock_state.on_core n (with_status AgeTimeout) s.lock in
        let next : (after_all (spends n ∷ stores n AgeTimeout ∷ []) s.lock).next ≡ s.lock.next = next-spent n (get mid.cores n) mid ∙ next-kept n (with_status AgeTimeout) (get s.lock.cores n) s.lock in
        turn-fits x s locks now fits id over_q over_r fits.permits (after_all (spends n ∷ stores n AgeTimeout ∷ []) s.lock) (spends n ∷ stores n AgeTimeout ∷ locks) (ends p.number AgeTimeout ∷ c) k same
        (λ m. refl) (λ m. refl) (λ j y h. h) fits.rows (shelf-ends fits.numbers s.shelf.bodies s.shelf.flying s.shelf.writes c fits.shelf p.number AgeTimeout)
        (subst (λ (m : ℕ). LockFits fits.permits (spends n ∷ stores n AgeTimeout ∷ locks) m (ends p.number AgeTimeout ∷ c)) (sym next)
        (lock-spent fits.permits (stores n AgeTimeout ∷ locks) s.lock.next (ends p.number AgeTimeout ∷ c) (lock-stores fits.permits locks s.lock.next c fits.lock n p named AgeTimeout refl refl) n))
        (let y = request-quiet x fits.numbers fits.permits s.shelf c (ends p.number AgeTimeout ∷ c) (λ m. refl) (λ m. refl) q r f in
        record { entry = y.entry; asks = y.asks; wait = y.wait; phase = y.phase; waited = waited_is; gave_read = y.gave_read; hold = tt; seen = y.seen; write = y.write; reader = y.reader })

    unended : (e : Option LockStatus) (a o : Bool) → option_or e (told_in_time a o) ≡ None → (a && not (is_some e)) ≡ false
    unended e false o h = refl
    unended (Some y) true o h = absurd cc
    unended None true o h = absurd cc

    abbrev Leaves : Option LockStatus → Bool → LockHold → LockChanges → ℕ → Type 0
    Leaves told v h more k = NowFits x (with_counts k (after_all more s.lock) (with_request id (after_wait t told h q) s)) (more ++ locks)
        (record { changes = extended c (cond v (ends p.number AgeTimeout ∷ []) []); request = λ j. cond (j == id) (Some (after_poll told t p since r)) (now.request j) })

    leaves_by : (told : Option LockStatus) → T ≡ told → (v : Bool) → ended_now ≡ v → (k : ℕ) → k ≡ s.shelf.writes → (more : LockChanges) → poll_changes n (wait_outcome n [] t s.lock) ≡ cond v (stores n AgeTimeout ∷ []) []
        → more ≡ poll_of t (state.waits n first) told s.lock → Leaves told v (state.waits n first) more k
    leaves_by None e true stored k same more changes is = let clash : true ≡ false = sym stored ∙ unended (ended p.number c) aged over e in absurd cc
    leaves_by None e false stored k same more changes is = subst (λ (l : LockChanges). Leaves None false (state.waits n first) l k) (sym is) (goes-on-fits k same)
    leaves_by (Some how) e v stored k same more changes is =
        subst (λ (l : LockChanges). Leaves (Some how) v (state.waits n first) l k) (sym (is ∙ ap (λ (l : LockChanges). spends n ∷ l) changes)) (ended-fits v k same)

    -- a wait is told how it ended, and left
    pub poll-leaves : (k : ℕ) → k ≡ s.shelf.writes → Leaves T ended_now q.held (poll_of t q.held T s.lock) k
    poll-leaves k same = subst (λ (h : LockHold). Leaves T ended_now h (poll_of t h T s.lock) k) (sym held)
        (leaves_by T refl ended_now refl k same (poll_of t (state.waits n first) T s.lock) stored_is refl)

    -- the same of the state after the event
    pub poll-after : (k : ℕ) → k ≡ s.shelf.writes
        → NowFits x (with_counts k (after_all (lock_changes_in s t (Poll id) (Ok (Waited T)) i.asked) s.lock) (on_request s id (λ q. with_request id (after_wait t T q.held q) s)))
        (lock_changes_in s t (Poll id) (Ok (Waited T)) i.asked ++ locks) (came id (poll_row (ended p.number c) aged over t p since r) now).now
    poll-after k same = subst (λ (o : Option state.Request). NowFits x (with_counts k (after_all (by_request [] o (λ q. poll_of t q.held T s.lock)) s.lock) (by_request s o (λ q. with_request id (after_wait t T q.held q) s)))
        (by_request [] o (λ q. poll_of t q.held T s.lock) ++ locks) (came id (poll_row (ended p.number c) aged over t p since r) now).now) (sym is) (poll-leaves k same)

  -- ---- the event

  poll_wait : (id : ℕ) (o : Outcome) (q : state.Request) (r : Request) (k : ℕ) → get s.requests id ≡ Some q → now.request id ≡ Some r → RequestFits x fits.numbers fits.permits s.shelf c q r → k ≡ s.shelf.writes
      → (held : LockHold) (hold : Hold) → q.held ≡ held → r.hold ≡ hold → HoldFits fits.permits held hold → AllowsBy (unless (checks.is_waiting held) WrongPhase) s t (Poll id) (call_at t (Poll id) i o) o
      → ComesLocked x used s locks now t (Poll id) i o id k (poll_by x hold t r c)
  poll_wait id (Ok a) q r k is at f same (state.waits n first) (waits p since) held hold h allowed =
      let told = of-open s id q (λ q. a ≡ Waited (polled s.lock t q q.held)) is allowed in
      let said : a ≡ Waited (T id q r is at f n first p since held hold h.0 h.1) =
      told ∙ ap (λ (y : LockHold). Waited (polled s.lock t q y)) held ∙ ap Waited (polled_is id q r is at f n first p since held hold h.0 h.1) in
      subst (λ (y : Answer). ComesLocked x used s locks now t (Poll id) i (Ok y) id k (poll_by x (waits p since) t r c)) (sym said) ((refl, tt), poll-after id q r is at f n first p since held hold h.0 h.1 k same)
  poll_wait id (Err g) q r k is at f same (state.waits n first) (waits p since) held hold h allowed = elim allowed [
    | inl y ↦ absurd y.1
    | inr y ↦ absurd y
  ]
  poll_wait id (Ok a) q r k is at f same nothing no_lock held hold h allowed = absurd cc
  poll_wait id (Err g) q r k is at f same nothing no_lock held hold h allowed =
      subst (λ (y : TierFault). ComesLocked x used s locks now t (Poll id) i (Err y) id k (refused r WrongPhase)) (let wrong : WrongPhase ≡ g = cc in wrong)
      ((refl, tt), counted-fits x s locks (came id (refused r WrongPhase) now).now k s.lock same refl (refused-fits x s locks now fits id r WrongPhase at))
  poll_wait id (Ok a) q r k is at f same (permit n) (holds p) held hold h allowed = absurd cc
  poll_wait id (Err g) q r k is at f same (permit n) (holds p) held hold h allowed =
      subst (λ (y : TierFault). ComesLocked x used s locks now t (Poll id) i (Err y) id k (refused r WrongPhase)) (let wrong : WrongPhase ≡ g = cc in wrong)
      ((refl, tt), counted-fits x s locks (came id (refused r WrongPhase) now).now k s.lock same refl (refused-fits x s locks now fits id r WrongPhase at))
  poll_wait id o q r k is at f same nothing (holds p) held hold h allowed = absurd h
  poll_wait id o q r k is at f same nothing (waits p since) held hold h allowed = absurd h
  poll_wait id o q r k is at f same (permit n) no_lock held hold h allowed = absurd h
  poll_wait id o q r k is at f same (permit n) (waits p since) held hold h allowed = absurd h
  poll_wait id o q r k is at f same (state.waits n first) no_lock held hold h allowed = absurd h
  poll_wait id o q r k is at f same (state.waits n first) (holds p) held hold h allowed = absurd h

  poll_open : (id : ℕ) (o : Outcome) (q : Option state.Request) (v : Option Request) (k : ℕ) → get s.requests id ≡ q → now.request id ≡ v → OpenFits x fits.numbers fits.permits s.shelf c q v → k ≡ s.shelf.writes
      → AllowsBy (unless_open q (λ q. unless (checks.is_waiting q.held) WrongPhase)) s t (Poll id) (call_at t (Poll id) i o) o → ComesLocked x used s locks now t (Poll id) i o id k (row_of v (λ r. poll_by x r.hold t r c))
  poll_open id o (Some q) None k is at f same p = absurd f
  poll_open id o None (Some r) k is at f same p = absurd f
  poll_open id (Ok a) None None k is at f same p = absurd cc
  poll_open id (Err g) None None k is at f same p =
      subst (λ (y : TierFault). ComesLocked x used s locks now t (Poll id) i (Err y) id k row_closed) (let one : NoRequest ≡ g = cc in one)
      ((refl, tt), counted-fits x s locks (came id row_closed now).now k s.lock same refl (closed-fits x s locks now fits id at))
  poll_open id o (Some q) (Some r) k is at f same p = poll_wait id o q r k is at f same q.held r.hold refl refl f.hold p

  pub poll-step : (id : ℕ) (o : Outcome) → Allows s (call_at t (Poll id) i o) → Step x used s locks (call_at t (Poll id) i o) now
  poll-step id o p =
      let all = poll_open id o (get s.requests id) (now.request id) (writes_after s.shelf.writes i.began) refl refl (fits.requests id) (same-count s (tells_of_write (call_at t (Poll id) i o)) i.began p.begins) p.outcome in
      record { right = record { read = p.read; outcome = all.0 }; fits = all.1 }
