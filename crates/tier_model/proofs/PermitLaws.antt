-- A permit of a key waits by the answers exactly where one waits by what was changed in the lock.
use Rattle.std.proofs.Common.{◌≡◌, ℕ, ◌==◌, refl, ap, sym, ◌∙◌, true, false, subst, cond, inl, inr, [], ◌∷◌, ◌++◌, arith}
use Rattle.std.specs.Prelude.{◌↔◌, ◌<◌, Bool, Option, Some, None}
use Rattle.std.specs.List.{AllByRecursion}
use Rattle.std.specs.FinMap.{get}
use Rattle.std.proofs.lemmas.Bool.{eqb-true, eq-eqb}
use Rattle.cache_words.specs.Time.{MomentValue}
use Rattle.cache_entries.specs.Entry.{key_of}
use Rattle.cache_entries.specs.Keys.{same_bytes}
use Rattle.cache_entries.specs.SameEntry.{same_bytes-tells}
use Rattle.cache_changes.specs.Changes.{StoredKey, stored_key}
use Rattle.cache_lock.specs.Changes.{Changes, gives}
use Rattle.cache_lock.specs.Waits.{same_key, last_status, core_of, Waits}
use Rattle.cache_lock.specs.declared.status.LockStatus.TheVariants.{Waiting}
use Rattle.tier_model.specs.declared.event.LockGiven.{LockGiven}
use Rattle.tier_model.specs.declared.event.LockGiven.TheVariants as lock
use Rattle.tier_model.specs.Keys.{Entry}
use Rattle.tier_model.specs.Calls.{Call, History, opened_for}
use Rattle.tier_model.specs.Histories.{Opening}
use Rattle.tier_model.specs.Locks.{given_after, last_given, is_permit, gives_permit, ends_permit, is_for, AreTimely, PermitWaits}
use Rattle.tier_model.specs.State.{LockHold, nothing, permit, waits, Request, State}
use Rattle.tier_model.specs.Answers.{key_for}
use Rattle.tier_model.specs.After.{lock_changes}
use Rattle.tier_model.specs.Past.{state_of, lock_changes_of, IsLawful}
use Rattle.tier_model.proofs.OwnTurns.{OpenFits}
use Rattle.tier_model.proofs.StandLaws.{Stands-lawful}
use Rattle.tier_model.proofs.LockLaws.{IsSound-of}
use Rattle.tier_model.proofs.GripLaws.{free, grips, by_permit, grip_key, Moves, moved-now, differ, key-itself}
use Rattle.tier_model.proofs.GrantLaws.{held-below}
use Rattle.tier_model.proofs.GrantSteps.{Granted}
use Rattle.tier_model.proofs.EffectLaws.{grip_in, grip_of, grip_at, hold_at, SaysGiven, Effect, quiet, given, lent, back, polled, left, dropped, released}
use Rattle.tier_model.proofs.GrantedLaws.{LocksFit-lawful, effect-lawful}
use Rattle.tier_model.proofs.BeganLaws.{began_at, began-step}
use Rattle.tier_model.proofs.PermitSteps.{IsCore, polled_given, below}
use Rattle.tier_model.proofs.PermitKept.{AreOpen, core-step}
use Rattle.tier_model.proofs.PermitBack.{Stays, back-step}

-- whom a grip is of
under : (k key : StoredKey) (p : Bool) (m : ℕ) (held : LockHold) → grip_in k held ≡ grips p m key → k ≡ key
under k key p m nothing e = absurd cc
under k key p m (permit n) e = ap grip_key e
under k key p m (waits n first) e = ap grip_key e

module _ (start : Opening) where
  -- one that holds a core is open for the key under which it does
  are_open : (h : History) → IsLawful start h → (k : StoredKey) → AreOpen (state_of start h) k h
  are_open h l k r m p key e = by_there (get (state_of start h).requests r) ((Stands-lawful start h l).opens r) e
    where
      by_there : (o : Option Request) → OpenFits start r o h → grip_of o ≡ grips p m key → is_for k (opened_for r h) ≡ same_bytes key k
      by_there None fits e = absurd cc
      by_there (Some q) fits e = ap (is_for k) fits.0.key ∙ ap (λ (j : StoredKey). same_bytes j k) (under (key_for q) key p m q.held e)

  -- the entry of an open request
  opened_as : (h : History) → IsLawful start h → (r : ℕ) (q : Request) → get (state_of start h).requests r ≡ Some q → opened_for r h ≡ Some (key_of q.entry)
  opened_as h l r q e = (subst (λ (o : Option Request). OpenFits start r o h) e ((Stands-lawful start h l).opens r)).0.key

  -- the core of k waits, whose permit the request got at that moment
  abbrev HasCore : StoredKey → ℕ → MomentValue → (ℕ → LockGiven) → History → Type 0
  HasCore k id t what h = (n : ℕ) × IsCore (state_of start h) (lock_changes_of start h) k id n what × (began_at n (lock_changes_of start h) ≡ Some t)

  -- ---- a permit that waits by the answers has a core that waits

  module _ (k : StoredKey) (id : ℕ) (entry : Entry) (call : Call) (before : History) (l : IsLawful start (call ∷ before)) (gives_it : gives_permit id call ≡ true)
      (of_entry : opened_for id before ≡ Some entry)
      (of_key : same_bytes (stored_key entry) k ≡ true) where
    abbrev s : State
    s = state_of start before

    abbrev new : State
    new = state_of start (call ∷ before)

    abbrev Now : Changes → Type 0
    Now cs = (n : ℕ) × IsCore new (cs ++ lock_changes_of start before) k id n (λ r. lock.None) × (began_at n (cs ++ lock_changes_of start before) ≡ Some call.event.moment)

    not_given : (what : LockGiven) → given_after id call.event.action call.outcome lock.None ≡ what → is_permit what ≡ false → ⊥
    not_given what is lacks = let clash : true ≡ false = sym gives_it ∙ ap (λ (g : LockGiven). is_permit g) is ∙ lacks in absurd cc

    read_or_none : (v : Bool) → is_permit (cond v lock.Read lock.None) ≡ false
    read_or_none true = refl
    read_or_none false = refl

    granted : Granted s.lock (grip_at s) (hold_at s) (lock_changes_of start before)
    granted = (LocksFit-lawful start before l.1).granted

    by_given : (r : ℕ) (q : Request) (stale : Bool) → get s.requests r ≡ Some q → Moves (grip_at s) (grip_at new) (hold_at s) (hold_at new) r free (grips true s.lock.next (key_for q))
        → SaysGiven r lock.Write call.event.action call.outcome → (v : Bool) → (r == id) ≡ v → Now (gives s.lock.next (key_for q) stale call.event.moment ∷ [])
    by_given r q stale there moves says false is = absurd (not_given lock.None (says.gives id lock.None ∙ ap (λ (v : Bool). cond v lock.Write lock.None) is) refl)
    by_given r q stale there moves says true is = (
      s.lock.next,
      record {
        core = ap (λ (v : Bool). cond v (Some s.lock.next) (core_of k (lock_changes_of start before))) (ap (same_key k) key ∙ key-itself k);
        waiting = ap (λ (v : Bool). cond v Waiting (last_status s.lock.next (lock_changes_of start before))) (eq-eqb s.lock.next s.lock.next refl);
        holder = moved-now (grip_at s) (grip_at new) (hold_at s) (hold_at new) r free (grips true s.lock.next (key_for q)) moves id is ∙ ap (grips true s.lock.next) key;
        readers = λ i m e. by_one i m e (r == i) refl;
      },
      ap (λ (v : Bool). cond v (Some call.event.moment) (began_at s.lock.next (lock_changes_of start before))) (eq-eqb s.lock.next s.lock.next refl),
    )
      where
        key : key_for q ≡ k
        key =
            let both : Some (key_of q.entry) ≡ Some entry = sym (opened_as before l.1 r q there) ∙ ap (λ (j : ℕ). opened_for j before) (eqb-true r id is) ∙ of_entry in
            let one : key_of q.entry ≡ entry = cc in
            ap stored_key one ∙ same_bytes-tells.equal (stored_key entry) k of_key

        by_one : (i m : ℕ) → grip_at new i ≡ grips false m k → (v : Bool) → (r == i) ≡ v → false ≡ (m == s.lock.next)
        by_one i m e true one =
            let both : grips true s.lock.next (key_for q) ≡ grips false m k = sym (moved-now (grip_at s) (grip_at new) (hold_at s) (hold_at new) r free (grips true s.lock.next (key_for q)) moves i one) ∙ e in
            let clash : true ≡ false = ap by_permit both in
            absurd cc
        by_one i m e false one =
            let less : m < s.lock.next = held-below s.lock (grip_at s) (hold_at s) (lock_changes_of start before) granted.grants (IsSound-of start before) i m false k (sym (moves.others i one) ∙ e) in
            sym (differ m s.lock.next (λ same. omega (arith, less, same)))

    by_effect : (cs : Changes) → Effect s new call.event.moment call.event.action call.outcome cs → Now cs
    by_effect cs (quiet same none says) = let clash : true ≡ false = sym gives_it ∙ says.gives id in absurd cc
    by_effect cs (given r q stale there moves none is says) = subst Now (sym is) (by_given r q stale there moves says (r == id) refl)
    by_effect cs (lent r m key moves there is says) = absurd (not_given _ (says.gives id lock.None) (read_or_none (r == id)))
    by_effect cs (back key stale same is says) = let clash : true ≡ false = sym gives_it ∙ says.gives id in absurd cc
    by_effect cs (polled r m key over outcome moves is act out ended) = absurd (not_given lock.None (polled_given id r (Some outcome) call.event.action call.outcome lock.None act out) refl)
    by_effect cs (left r m key moves is says) = absurd (not_given lock.None (says.given id lock.None) refl)
    by_effect cs (dropped r m key moves is says) = absurd (not_given lock.None (says.given id lock.None) refl)
    by_effect cs (released r m key reason lasts moves is says) = absurd (not_given lock.None (says.given id lock.None) refl)

    given_core : HasCore k id call.event.moment (λ r. lock.None) (call ∷ before)
    given_core = by_effect (lock_changes s call) (effect-lawful start call before (LocksFit-lawful start before l.1) l.0)

  waiting_core : (k : StoredKey) (id : ℕ) (entry : Entry) (since : History) (call : Call) (before : History) → IsLawful start (since ++ call ∷ before) → gives_permit id call ≡ true
      → opened_for id before ≡ Some entry
      → same_bytes (stored_key entry) k ≡ true → AllByRecursion (λ c. ends_permit id c ≡ false) since → AreTimely k since (call ∷ before)
      → HasCore k id call.event.moment (λ r. last_given r since) (since ++ call ∷ before)
  waiting_core k id entry [] call before l gives_it of_entry of_key held timely = given_core k id entry call before l gives_it of_entry of_key
  waiting_core k id entry (c ∷ since) call before l gives_it of_entry of_key held timely =
      let x = waiting_core k id entry since call before l.1 gives_it of_entry of_key held.1 timely.1 in
      let fit = LocksFit-lawful start (since ++ call ∷ before) l.1 in (
        x.0,
        core-step (state_of start (since ++ call ∷ before)) (state_of start (c ∷ since ++ call ∷ before)) c.event.moment c.event.action c.outcome (lock_changes_of start (since ++ call ∷ before)) fit.granted
            (IsSound-of start (since ++ call ∷ before)) k id x.0 since (call ∷ before) (are_open (since ++ call ∷ before) l.1 k) x.1 timely.0 (lock_changes (state_of start (since ++ call ∷ before)) c)
            (effect-lawful start c (since ++ call ∷ before) fit l.0) held.0,
        began-step (state_of start (since ++ call ∷ before)) (state_of start (c ∷ since ++ call ∷ before)) c.event.moment c.event.action c.outcome (lock_changes_of start (since ++ call ∷ before)) x.0
            (below (state_of start (since ++ call ∷ before)) (state_of start (c ∷ since ++ call ∷ before)) c.event.moment c.event.action c.outcome (lock_changes_of start (since ++ call ∷ before)) fit.granted
            (IsSound-of start (since ++ call ∷ before)) k id x.0 x.1.core)
            (lock_changes (state_of start (since ++ call ∷ before)) c) (effect-lawful start c (since ++ call ∷ before) fit l.0) ∙ x.2,
      )

  pub core-of-permit : (h : History) → IsLawful start h → (k : StoredKey) (w : PermitWaits k h) → HasCore k w.id w.call.event.moment (λ r. last_given r w.since) h
  core-of-permit h l k w =
      subst (HasCore k w.id w.call.event.moment (λ r. last_given r w.since)) (sym w.split) (waiting_core k w.id w.entry w.since w.call w.before (subst (IsLawful start) w.split l) w.gives w.of_entry w.of_key w.held w.timely)

  -- ---- a core that waits has a permit that waits by the answers

  pub permit-from : (h : History) → IsLawful start h → (k : StoredKey) (n : ℕ) → core_of k (lock_changes_of start h) ≡ Some n → last_status n (lock_changes_of start h) ≡ Waiting → PermitWaits k h
  permit-from [] l k n core waiting = absurd cc
  permit-from (c ∷ h) l k n core waiting =
      let fit = LocksFit-lawful start h l.1 in
      elim (back-step (state_of start h) (state_of start (c ∷ h)) c.event.moment c.event.action c.outcome (lock_changes_of start h) fit.granted (IsSound-of start h) k n (lock_changes (state_of start h) c) (effect-lawful start c h fit l.0) core waiting) [
        | inl begins ↦ record {
          since = [];
          call = c;
          before = h;
          id = begins.id;
          entry = key_of begins.request.entry;
          split = refl;
          gives = begins.gives;
          of_entry = opened_as h l.1 begins.id begins.request begins.there;
          of_key = ap (λ (j : StoredKey). same_bytes j k) begins.key ∙ same_bytes-tells.itself k;
          held = tt;
          timely = tt;
        }
        | inr stays ↦ more (permit-from h l.1 k n stays.core stays.waiting) stays
      ]
    where
      more : PermitWaits k h → Stays (state_of start h) c.event.action c.outcome (lock_changes_of start h) k n → PermitWaits k (c ∷ h)
      more w stays =
          let x = core-of-permit h l.1 k w in
          let both : Some x.0 ≡ Some n = sym x.1.core ∙ stays.core in
          let same : x.0 ≡ n = cc in
          let now : IsCore (state_of start h) (lock_changes_of start h) k w.id n (λ r. last_given r w.since) = subst (λ (j : ℕ). IsCore (state_of start h) (lock_changes_of start h) k w.id j (λ r. last_given r w.since)) same x.1 in
          record {
            since = c ∷ w.since;
            call = w.call;
            before = w.before;
            id = w.id;
            entry = w.entry;
            split = ap (λ (y : History). c ∷ y) w.split;
            gives = w.gives;
            of_entry = w.of_entry;
            of_key = w.of_key;
            held = (stays.ends w.id now.holder, w.held);
            timely = (stays.aged w.id w.since (w.call ∷ w.before) (subst (AreOpen (state_of start h) k) w.split (are_open h l.1 k)) now, w.timely);
          }

-- a permit waits by what was changed in the lock exactly where one waits by the answers
pub Waits-permit : (start : Opening) (h : History) → IsLawful start h → (k : StoredKey) → Waits k (lock_changes_of start h) ↔ PermitWaits k h
Waits-permit start h l k = (λ w. permit-from start h l k w.0 w.1 w.2, λ w. let x = core-of-permit start h l k w in (x.0, x.1.core, x.1.waiting))
