-- A permit that waits keeps its core, whatever call comes that doesn't end it.
use Rattle.std.proofs.Common.{◌≡◌, ℕ, ◌==◌, refl, ap, sym, ◌∙◌, true, false, subst, cond, inl, inr, [], ◌∷◌, ◌++◌}
use Rattle.std.specs.Prelude.{◌&&◌, Bool, Option, Some, None, Ok}
use Rattle.std.specs.FinMap.{get}
use Rattle.std.proofs.lemmas.Bool.{eq-eqb}
use Rattle.cache_words.specs.Time.{MomentValue}
use Rattle.cache_entries.specs.Keys.{same_bytes}
use Rattle.cache_entries.specs.SameEntry.{same_bytes-tells}
use Rattle.cache_changes.specs.Changes.{StoredKey}
use Rattle.cache_lock.specs.Changes.{Changes, stores, takes_out, spends}
use Rattle.cache_lock.specs.Answers.{to_wait_for, release_changes, wait_outcome, poll_changes, released_by}
use Rattle.cache_lock.specs.State.{IsSound, status_of, is_number}
use Rattle.cache_lock.specs.Status.{is_aged}
use Rattle.cache_lock.specs.Waits.{same_key, last_status, core_of}
use Rattle.cache_lock.specs.declared.fills.WaitOutcome.{WaitOutcome}
use Rattle.cache_lock.specs.declared.fills.WaitOutcome.TheVariants as wait
use Rattle.cache_lock.specs.declared.status.LockStatus.{LockStatus}
use Rattle.cache_lock.specs.declared.status.LockStatus.TheVariants.{Dangling, AgeTimeout}
use Rattle.tier_model.specs.declared.event.Action.{Action}
use Rattle.tier_model.specs.declared.event.Action.TheVariants.{Poll}
use Rattle.tier_model.specs.declared.event.Answer.TheVariants.{Waited}
use Rattle.tier_model.specs.declared.event.LockGiven.{LockGiven}
use Rattle.tier_model.specs.Calls.{History, Outcome, opened_for}
use Rattle.tier_model.specs.Locks.{given_after, last_given, is_wait, is_end_of_permit, is_for, is_aged_poll}
use Rattle.tier_model.specs.State.{State}
use Rattle.tier_model.specs.Answers.{ended_by}
use Rattle.tier_model.proofs.GripLaws.{free, grips, Moves, differ, key-true}
use Rattle.tier_model.proofs.GrantSteps.{Granted, status-held}
use Rattle.tier_model.proofs.EffectLaws.{grip_at, hold_at, SaysEnded, Effect, quiet, given, lent, back, polled, left, dropped, released}
use Rattle.tier_model.proofs.PermitSteps.{IsCore, polled_given, not_it, not_its_permit, reads_still, by_given, by_lent, by_back, by_ended}

-- each that holds a core was opened for the key under which it does
abbrev pub AreOpen : State → StoredKey → History → Type 0
AreOpen s k h = (r m : ℕ) (p : Bool) (key : StoredKey) → grip_at s r ≡ grips p m key → is_for k (opened_for r h) ≡ same_bytes key k

-- one that was answered that its wait is past the permit's age
pub told_aged : (k : StoredKey) (r : ℕ) (action : Action) (o : Outcome) (since before : History) → action ≡ Poll r → o ≡ Ok (Waited (Some AgeTimeout))
    → is_aged_poll k action o since before ≡ (is_for k (opened_for r (since ++ before)) && is_wait (last_given r since))
told_aged k r action o since before act out = ap (λ (a : Action). is_aged_poll k a o since before) act ∙ ap (λ (y : Outcome). is_aged_poll k (Poll r) y since before) out

module _ (s new : State) (t : MomentValue) (action : Action) (o : Outcome) (changes : Changes) (x : Granted s.lock (grip_at s) (hold_at s) changes) (sound : IsSound s.lock) (k : StoredKey) (id n : ℕ)
    (since before : History) (opens : AreOpen s k (since ++ before)) (c : IsCore s changes k id n (λ r. last_given r since)) (aged : is_aged_poll k action o since before ≡ false) where
  abbrev Kept : Changes → Type 0
  Kept cs = IsCore new (cs ++ changes) k id n (λ r. given_after r action o (last_given r since))

  ended : (r m : ℕ) (p : Bool) (key : StoredKey) (cs : Changes) → Moves (grip_at s) (grip_at new) (hold_at s) (hold_at new) r (grips p m key) free → (r == id) ≡ false
      → ((i : ℕ) (old : LockGiven) → given_after i action o old ≡ old) → core_of k (cs ++ changes) ≡ Some n → last_status n (cs ++ changes) ≡ last_status n changes → Kept cs
  ended r m p key cs moves apart says core same =
      by_ended s new t action o changes x sound k id n (λ r. last_given r since) c r m p key cs moves apart (λ i. says i (last_given i since)) core (same ∙ c.waiting)

  -- ---- polls

  module _ (r m : ℕ) (key : StoredKey) (over : Bool) (outcome : LockStatus) (moves : Moves (grip_at s) (grip_at new) (hold_at s) (hold_at new) r (grips false m key) free)
      (act : action ≡ Poll r) (out : o ≡ Ok (Waited (Some outcome))) where
    -- one that waits for the permit isn't answered that it is past its age
    not_aged : outcome ≡ AgeTimeout → (n == m) ≡ false
    not_aged is = differ n m (λ e.
        let there : grip_at s r ≡ grips false n key = moves.was ∙ ap (λ (j : ℕ). grips false j key) (sym e) in
        let keys : key ≡ k = x.grants.keyed k key n c.core (x.grants.there r n false key there) in
        let of_key : is_for k (opened_for r (since ++ before)) ≡ true = opens r n false key there ∙ ap (λ (j : StoredKey). same_bytes j k) keys ∙ same_bytes-tells.itself k in
        let waits : is_wait (last_given r since) ≡ true = c.readers r n (there ∙ ap (grips false n) keys) ∙ eq-eqb n n refl in
        let both : is_aged_poll k action o since before ≡ true =
        told_aged k r action o since before act (out ∙ ap (λ (st : LockStatus). Ok (Waited (Some st))) is) ∙ ap (λ (v : Bool). v && is_wait (last_given r since)) of_key ∙ waits in
        let clash : true ≡ false = sym both ∙ aged in
        absurd cc)

    by_wait : (w : Option WaitOutcome) → ended_by w (status_of m s.lock) over ≡ Some outcome → Kept (spends m ∷ poll_changes m w)
    by_wait (Some wait.AgeTimeout) e =
        let is : AgeTimeout ≡ outcome = cc in
        ended r m false key (spends m ∷ stores m AgeTimeout ∷ []) moves (not_it s new t action o changes x sound k id n (λ r. last_given r since) c r (grips false m key) moves.was refl)
        (λ i old. polled_given i r (Some outcome) action o old act out) c.core (ap (λ (v : Bool). cond v AgeTimeout (last_status n changes)) (not_aged (sym is)))
    by_wait (Some wait.Released) e =
        ended r m false key (spends m ∷ []) moves (not_it s new t action o changes x sound k id n (λ r. last_given r since) c r (grips false m key) moves.was refl) (λ i old. polled_given i r (Some outcome) action o old act out) c.core refl
    by_wait (Some (wait.Abandoned fill)) e =
        ended r m false key (spends m ∷ []) moves (not_it s new t action o changes x sound k id n (λ r. last_given r since) c r (grips false m key) moves.was refl) (λ i old. polled_given i r (Some outcome) action o old act out) c.core refl
    by_wait None e =
        ended r m false key (spends m ∷ []) moves (not_it s new t action o changes x sound k id n (λ r. last_given r since) c r (grips false m key) moves.was refl) (λ i old. polled_given i r (Some outcome) action o old act out) c.core refl

  -- ---- permits of others

  module _ (r m : ℕ) (key : StoredKey) (moves : Moves (grip_at s) (grip_at new) (hold_at s) (hold_at new) r (grips true m key) free) (says : SaysEnded r action o) (apart : (r == id) ≡ false) where
    other : (n == m) ≡ false
    other = not_its_permit s new t action o changes x sound k id n (λ r. last_given r since) c r m key moves.was apart

    by_dropped : Kept (spends m ∷ stores m Dangling ∷ [])
    by_dropped = ended r m true key (spends m ∷ stores m Dangling ∷ []) moves apart says.given c.core (ap (λ (v : Bool). cond v Dangling (last_status n changes)) other)

    core_stays : is_aged (status_of m s.lock) ≡ false → (v : Bool) → same_key k key ≡ v → cond v None (core_of k changes) ≡ Some n
    core_stays lasts false e = c.core
    core_stays lasts true e = elim (x.permits r m key moves.was) [
      | inl old ↦ let clash : true ≡ false = sym (ap is_aged (status-held s.lock (grip_at s) (hold_at s) changes x r m true key moves.was ∙ old)) ∙ lasts in absurd cc
      | inr waits ↦
          let both : Some n ≡ Some m = sym c.core ∙ ap (λ (j : StoredKey). core_of j changes) (key-true k key e) ∙ waits.1 in
          let same : n ≡ m = cc in
          let clash : true ≡ false = sym (eq-eqb n m same) ∙ other in
          absurd cc
    ]

    by_released : (reason : LockStatus) → Kept (release_changes key m reason s.lock)
    by_released reason = by_case (is_aged (status_of m s.lock)) (is_number m (get s.lock.current key)) refl
      where
        by_case : (aged own : Bool) → is_aged (status_of m s.lock) ≡ aged → Kept (released_by aged own key m reason)
        by_case true own old = ended r m true key (spends m ∷ []) moves apart says.given c.core refl
        by_case false true lasts =
            ended r m true key (spends m ∷ stores m reason ∷ takes_out key ∷ []) moves apart says.given (core_stays lasts (same_key k key) refl)
            (ap (λ (v : Bool). cond v reason (last_status n changes)) other)
        by_case false false lasts = by_dropped

  pub core-step : (cs : Changes) → Effect s new t action o cs → is_end_of_permit id action o ≡ false → Kept cs
  core-step cs (quiet same none says) ends =
      subst Kept (sym none) (record { core = c.core; waiting = c.waiting; holder = same.grip id ∙ c.holder; readers = reads_still s new t action o changes x sound k id n (λ r. last_given r since) c same says })
  core-step cs (given r q stale there moves none is says) ends = subst Kept (sym is) (by_given s new t action o changes x sound k id n (λ r. last_given r since) c r q stale moves none says)
  core-step cs (lent r m key moves there is says) ends = subst Kept (sym is) (by_lent s new t action o changes x sound k id n (λ r. last_given r since) c r m key moves there says)
  core-step cs (back key stale same is says) ends = subst Kept (sym is) (by_back s new t action o changes x sound k id n (λ r. last_given r since) c key stale (to_wait_for key s.lock) refl same says)
  core-step cs (polled r m key over outcome moves is act out over_is) ends = subst Kept (sym is) (by_wait r m key over outcome moves act out (wait_outcome m [] t s.lock) over_is)
  core-step cs (left r m key moves is says) ends = subst Kept (sym is) (ended r m false key (spends m ∷ []) moves (sym (says.ends id) ∙ ends) says.given c.core refl)
  core-step cs (dropped r m key moves is says) ends = subst Kept (sym is) (by_dropped r m key moves says (sym (says.ends id) ∙ ends))
  core-step cs (released r m key reason lasts moves is says) ends = subst Kept (sym is) (by_released r m key moves says (sym (says.ends id) ∙ ends) reason)
