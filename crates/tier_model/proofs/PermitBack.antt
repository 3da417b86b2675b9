-- A permit that waits after a call was given by it, or waited before, and the call didn't end it.
use Rattle.std.proofs.Common.{◌≡◌, ℕ, ◌==◌, refl, ap, sym, ◌∙◌, true, false, subst, cond, inl, inr, [], ◌∷◌, ◌++◌}
use Rattle.std.specs.Prelude.{◌⊎◌, ◌&&◌, Bool, Option, Some, None, Ok}
use Rattle.std.specs.FinMap.{get}
use Rattle.std.proofs.lemmas.Bool.{eq-eqb}
use Rattle.cache_words.specs.Time.{MomentValue}
use Rattle.cache_entries.specs.Keys.{same_bytes}
use Rattle.cache_entries.specs.SameEntry.{same_bytes-tells}
use Rattle.cache_changes.specs.Changes.{StoredKey}
use Rattle.cache_lock.specs.Changes.{Changes, stores, spends}
use Rattle.cache_lock.specs.Answers.{to_wait_for, locked_by, lock_change, release_changes, leave_changes, wait_outcome, poll_changes, released_by}
use Rattle.cache_lock.specs.State.{IsSound, status_of, is_number}
use Rattle.cache_lock.specs.Status.{is_aged}
use Rattle.cache_lock.specs.Waits.{same_key, last_status, core_of}
use Rattle.cache_lock.specs.declared.fills.WaitOutcome.{WaitOutcome}
use Rattle.cache_lock.specs.declared.fills.WaitOutcome.TheVariants as wait
use Rattle.cache_lock.specs.declared.status.LockStatus.{LockStatus}
use Rattle.cache_lock.specs.declared.status.LockStatus.TheVariants.{Waiting, Dangling, WaitTimeout, AgeTimeout}
use Rattle.tier_model.specs.declared.event.Action.{Action}
use Rattle.tier_model.specs.declared.event.Action.TheVariants.{Poll}
use Rattle.tier_model.specs.declared.event.Answer.TheVariants.{Waited}
use Rattle.tier_model.specs.declared.event.LockGiven.{LockGiven}
use Rattle.tier_model.specs.declared.event.LockGiven.TheVariants as lock
use Rattle.tier_model.specs.Calls.{History, Outcome, opened_for}
use Rattle.tier_model.specs.Locks.{given_after, last_given, is_permit, is_wait, is_end_of_permit, is_for, is_aged_poll}
use Rattle.tier_model.specs.State.{Request, State}
use Rattle.tier_model.specs.Answers.{key_for, ended_by}
use Rattle.tier_model.proofs.GripLaws.{free, grips, by_permit, grip_number, differ, key-true}
use Rattle.tier_model.proofs.GrantSteps.{Granted, only_aged, status-held}
use Rattle.tier_model.proofs.EffectLaws.{grip_at, hold_at, SaysLittle, SaysGiven, SaysEnded, end-not-waiting, Effect, quiet, given, lent, back, polled, left, dropped, released}
use Rattle.tier_model.proofs.PermitSteps.{IsCore, below}
use Rattle.tier_model.proofs.PermitKept.{AreOpen}

is_no : (v : Bool) → (v ≡ true → ⊥) → v ≡ false
is_no true h = absurd (h refl)
is_no false h = refl

module _ (s : State) (action : Action) (o : Outcome) (changes : Changes) (k : StoredKey) (n : ℕ) where
  -- the call gave the permit to a request for k
  pub record Begins : Type 0 where
    pub id : ℕ
    pub request : Request
    pub there : get s.requests id ≡ Some request
    pub key : key_for request ≡ k
    pub gives : is_permit (given_after id action o lock.None) ≡ true

  -- the core waited before, and the call neither ends its permit nor answers one that waits for it that it is past its age
  pub record Stays : Type 0 where
    pub core : core_of k changes ≡ Some n
    pub waiting : last_status n changes ≡ Waiting
    pub ends : (id : ℕ) → grip_at s id ≡ grips true n k → is_end_of_permit id action o ≡ false
    pub aged : (id : ℕ) (since before : History) → AreOpen s k (since ++ before) → IsCore s changes k id n (λ r. last_given r since) → is_aged_poll k action o since before ≡ false

module _ (s new : State) (t : MomentValue) (action : Action) (o : Outcome) (changes : Changes) (x : Granted s.lock (grip_at s) (hold_at s) changes) (sound : IsSound s.lock)
    (k : StoredKey) (n : ℕ) where
  abbrev pub Back : Type 0
  Back = Begins s action o changes k n ⊎ Stays s action o changes k n

  abbrev From : Changes → Type 0
  From cs = core_of k (cs ++ changes) ≡ Some n → last_status n (cs ++ changes) ≡ Waiting → Back

  not_next : core_of k changes ≡ Some n → (n == s.lock.next) ≡ false
  not_next core = below s new t action o changes x sound k 0 n core

  stays_little : SaysLittle s new action o → core_of k changes ≡ Some n → last_status n changes ≡ Waiting → Back
  stays_little says core waiting = inr (record {
    core = core;
    waiting = waiting;
    ends = λ id e. is_no (is_end_of_permit id action o) (λ is. let clash : free ≡ grips true n k = sym (says.ends id is) ∙ e in absurd cc);
    aged = λ id since before opens c. says.aged k since before;
  })

  stays_given : (r : ℕ) (what : LockGiven) → SaysGiven r what action o → core_of k changes ≡ Some n → last_status n changes ≡ Waiting → Back
  stays_given r what says core waiting = inr (record { core = core; waiting = waiting; ends = λ id e. says.ends id; aged = λ id since before opens c. says.aged k since before })

  by_given : (r : ℕ) (q : Request) (stale : Bool) → get s.requests r ≡ Some q → SaysGiven r lock.Write action o → (v : Bool) → same_key k (key_for q) ≡ v
      → cond v (Some s.lock.next) (core_of k changes) ≡ Some n
      → cond (n == s.lock.next) Waiting (last_status n changes) ≡ Waiting → Back
  by_given r q stale there says true is core waiting = inl (record {
    id = r;
    request = q;
    there = there;
    key = sym (key-true k (key_for q) is);
    gives = ap (λ (y : LockGiven). is_permit y) (says.gives r lock.None ∙ ap (λ (v : Bool). cond v lock.Write lock.None) (eq-eqb r r refl));
  })
  by_given r q stale there says false is core waiting = stays_given r lock.Write says core (sym (ap (λ (v : Bool). cond v Waiting (last_status n changes)) (not_next core)) ∙ waiting)

  by_back : (key : StoredKey) (stale : Bool) (core : Option ℕ) → SaysLittle s new action o → From (leave_changes (locked_by s.lock core) ++ lock_change key stale t s.lock core ∷ [])
  by_back key stale (Some m) says core waiting = stays_little says core waiting
  by_back key stale None says core waiting = by_key (same_key k key) core waiting
    where
      by_key : (v : Bool) → cond v (Some s.lock.next) (core_of k changes) ≡ Some n → cond (n == s.lock.next) Dangling (cond (n == s.lock.next) Waiting (last_status n changes)) ≡ Waiting → Back
      by_key true core waiting =
          let same : s.lock.next ≡ n = cc in
          let clash : Dangling ≡ Waiting = sym (ap (λ (v : Bool). cond v Dangling (cond v Waiting (last_status n changes))) (eq-eqb n s.lock.next (sym same))) ∙ waiting in
          absurd cc
      by_key false core waiting = stays_little says core (sym (ap (λ (v : Bool). cond v Dangling (cond v Waiting (last_status n changes))) (not_next core)) ∙ waiting)

  -- ---- polls

  module _ (r m : ℕ) (key : StoredKey) (over : Bool) (outcome : LockStatus) (was : grip_at s r ≡ grips false m key) (act : action ≡ Poll r) (out : o ≡ Ok (Waited (Some outcome))) where
    -- one that gets that answer waits for another core, or under another key
    aged_apart : (outcome ≡ AgeTimeout → (m == n) ≡ false) → (id : ℕ) (since before : History) → AreOpen s k (since ++ before) → IsCore s changes k id n (λ r. last_given r since)
        → (st : LockStatus) → outcome ≡ st
        → is_aged_poll k (Poll r) (Ok (Waited (Some st))) since before ≡ false
    aged_apart apart id since before opens c AgeTimeout is = by_key (same_bytes key k) refl
      where
        by_key : (v : Bool) → same_bytes key k ≡ v → (is_for k (opened_for r (since ++ before)) && is_wait (last_given r since)) ≡ false
        by_key false e = ap (λ (v : Bool). v && is_wait (last_given r since)) (opens r m false key was ∙ e)
        by_key true e =
            ap (λ (v : Bool). v && is_wait (last_given r since)) (opens r m false key was ∙ e)
            ∙ c.readers r m (was ∙ ap (grips false m) (same_bytes-tells.equal key k e)) ∙ apart is
    aged_apart apart id since before opens c _ is = refl

    stays_polled : (outcome ≡ AgeTimeout → (m == n) ≡ false) → core_of k changes ≡ Some n → last_status n changes ≡ Waiting → Back
    stays_polled apart core waiting = inr (record {
      core = core;
      waiting = waiting;
      ends = λ id e. ap (λ (a : Action). is_end_of_permit id a o) act ∙ ap (is_end_of_permit id (Poll r)) out;
      aged = λ id since before opens c.
          ap (λ (a : Action). is_aged_poll k a o since before) act ∙ ap (λ (y : Outcome). is_aged_poll k (Poll r) y since before) out ∙ aged_apart apart id since before opens c outcome refl;
    })

    flipped : (v : Bool) → (n == m) ≡ v → v ≡ false → (m == n) ≡ false
    flipped v is e = differ m n (λ same. let clash : true ≡ false = sym (eq-eqb n m (sym same)) ∙ is ∙ e in absurd cc)

    by_wait : (w : Option WaitOutcome) → ended_by w (status_of m s.lock) over ≡ Some outcome → From (spends m ∷ poll_changes m w)
    by_wait (Some wait.AgeTimeout) e core waiting = by_core (n == m) refl waiting
      where
        by_core : (v : Bool) → (n == m) ≡ v → cond v AgeTimeout (last_status n changes) ≡ Waiting → Back
        by_core true is waiting = absurd cc
        by_core false is waiting = stays_polled (λ old. flipped false is refl) core waiting
    by_wait (Some wait.Released) e core waiting = stays_polled (λ old. differ m n (λ same.
        let told : status_of m s.lock ≡ outcome = cc in
        let clash : AgeTimeout ≡ Waiting = sym old ∙ sym told ∙ status-held s.lock (grip_at s) (hold_at s) changes x r m false key was ∙ ap (λ (j : ℕ). last_status j changes) same ∙ waiting in
        absurd cc)) core waiting
    by_wait (Some (wait.Abandoned fill)) e core waiting = stays_polled (λ old. absurd (not_timeout over e old)) core waiting
      where
        not_timeout : (v : Bool) → cond v (Some WaitTimeout) None ≡ Some outcome → outcome ≡ AgeTimeout → ⊥
        not_timeout true e old = absurd cc
        not_timeout false e old = absurd cc
    by_wait None e core waiting = stays_polled (λ old. absurd (not_timeout over e old)) core waiting
      where
        not_timeout : (v : Bool) → cond v (Some WaitTimeout) None ≡ Some outcome → outcome ≡ AgeTimeout → ⊥
        not_timeout true e old = absurd cc
        not_timeout false e old = absurd cc

  -- ---- what ends with its request

  module _ (r m : ℕ) (p : Bool) (key : StoredKey) (was : grip_at s r ≡ grips p m key) (says : SaysEnded r action o) where
    stays_ended : (p ≡ true → (n == m) ≡ false) → core_of k changes ≡ Some n → last_status n changes ≡ Waiting → Back
    stays_ended apart core waiting = inr (record {
      core = core;
      waiting = waiting;
      ends = λ id e. says.ends id ∙ differ r id (λ same.
          let both : grips p m key ≡ grips true n k = sym was ∙ ap (grip_at s) same ∙ e in
          let clash : true ≡ false = sym (eq-eqb n m (sym (ap grip_number both))) ∙ apart (ap by_permit both) in
          absurd cc);
      aged = λ id since before opens c. says.aged k since before;
    })

  by_dropped : (r m : ℕ) (key : StoredKey) → grip_at s r ≡ grips true m key → SaysEnded r action o → From (spends m ∷ stores m Dangling ∷ [])
  by_dropped r m key was says core waiting = by_core (n == m) refl waiting
    where
      by_core : (v : Bool) → (n == m) ≡ v → cond v Dangling (last_status n changes) ≡ Waiting → Back
      by_core true is waiting = absurd cc
      by_core false is waiting = stays_ended r m true key was says (λ e. is) core waiting

  by_released : (r m : ℕ) (key : StoredKey) (reason : LockStatus) → (reason ≡ Waiting → ⊥) → grip_at s r ≡ grips true m key → SaysEnded r action o → From (release_changes key m reason s.lock)
  by_released r m key reason lasts was says = by_case (is_aged (status_of m s.lock)) (is_number m (get s.lock.current key)) refl
    where
      taken : (v w : Bool) → (n == m) ≡ w → cond v None (core_of k changes) ≡ Some n → cond w reason (last_status n changes) ≡ Waiting → Back
      taken true w is core waiting = absurd cc
      taken false true is core waiting = absurd (lasts waiting)
      taken false false is core waiting = stays_ended r m true key was says (λ e. is) core waiting

      by_case : (aged own : Bool) → is_aged (status_of m s.lock) ≡ aged → From (released_by aged own key m reason)
      by_case true own old core waiting = stays_ended r m true key was says (λ e. differ n m (λ same.
          let clash : AgeTimeout ≡ Waiting = sym (only_aged (status_of m s.lock) old) ∙ status-held s.lock (grip_at s) (hold_at s) changes x r m true key was ∙ ap (λ (j : ℕ). last_status j changes) (sym same) ∙ waiting in
          absurd cc)) core waiting
      by_case false true old core waiting = taken (same_key k key) (n == m) refl core waiting
      by_case false false old core waiting = by_dropped r m key was says core waiting

  pub back-step : (cs : Changes) → Effect s new t action o cs → From cs
  back-step cs (quiet same none says) = subst From (sym none) (stays_little says)
  back-step cs (given r q stale there moves none is says) = subst From (sym is) (by_given r q stale there says (same_key k (key_for q)) refl)
  back-step cs (lent r m key moves there is says) = subst From (sym is) (stays_given r lock.Read says)
  back-step cs (back key stale same is says) = subst From (sym is) (by_back key stale (to_wait_for key s.lock) says)
  back-step cs (polled r m key over outcome moves is act out ended) = subst From (sym is) (by_wait r m key over outcome moves.was act out (wait_outcome m [] t s.lock) ended)
  back-step cs (left r m key moves is says) = subst From (sym is) (stays_ended r m false key moves.was says (λ e. absurd cc))
  back-step cs (dropped r m key moves is says) = subst From (sym is) (by_dropped r m key moves.was says)
  back-step cs (released r m key reason lasts moves is says) = subst From (sym is) (by_released r m key reason (end-not-waiting reason lasts) moves.was says)
