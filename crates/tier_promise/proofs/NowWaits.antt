-- Who asks for the lock is to wait exactly where a permit of the key waits, and a lock that is handed back at once leaves the permits alone.
use Rattle.std.proofs.Common.{◌≡◌, ℕ, ◌+◌, ◌<◌, refl, ap, sym, ◌∙◌, true, false, subst, cond, ◌∷◌, ◌==◌, arith}
use Rattle.std.specs.Prelude.{◌≢◌, ◌↔◌, Bool, Option, Some, None}
use Rattle.std.specs.FinMap.{get}
use Rattle.std.proofs.lemmas.Bool.{eq-eqb}
use Rattle.cache_words.specs.Time.{MomentValue}
use Rattle.cache_changes.specs.Changes.{StoredKey}
use Rattle.cache_entries.specs.SameEntry.{same_bytes-tells}
use Rattle.cache_lock.specs.Answers.{to_wait_for}
use Rattle.cache_lock.specs.Changes.{Changes as LockChanges, stores, spends, lends}
use Rattle.cache_lock.specs.Changes as lock
use Rattle.cache_lock.specs.Status.{is_waiting}
use Rattle.cache_lock.specs.Waits.{same_key, last_status, core_of, Waits}
use Rattle.cache_lock.specs.declared.status.LockStatus.{LockStatus}
use Rattle.cache_lock.specs.declared.status.LockStatus.TheVariants as status
use Rattle.tier_model.specs.State.{Settings, LockHold, nothing, permit, State}
use Rattle.tier_model.specs.State as state
use Rattle.tier_model.specs.Answers.{key_for}
use Rattle.tier_promise.specs.Promise.{Permit, Changes, Request, Now, Hold, no_lock, holds, waits, waiting}
use Rattle.tier_model.proofs.BeganLaws.{began_at}
use Rattle.tier_model.proofs.EffectLaws.{grip_in, grip_of, grip_at, hold_at}
use Rattle.tier_model.proofs.GripLaws.{grips, by_permit, grip_number}
use Rattle.tier_model.proofs.GrantSteps.{only_waiting, waits-from, waits-for}
use Rattle.tier_promise.proofs.NowFits.{Permits, end_of, waiting_of, LockFits, HoldFits, OpenFits, NowFits}
use Rattle.tier_promise.proofs.NowShelf.{apart_number}
use Rattle.tier_promise.proofs.NowQuiet.{IsLocked}

-- whom one is to wait for is whose permit waits
abbrev pub WaitMatches : Permits → Option ℕ → Option Permit → Type 0
WaitMatches permits None None = Unit {0}
WaitMatches permits (Some n) (Some p) = permits n ≡ Some p
WaitMatches permits _ _ = ⊥

module _ (x : Settings) (s : State) (locks : LockChanges) (now : Now) (fits : NowFits x s locks now) (locked : IsLocked x.age s locks) where
  -- a permit that one holds has its place
  permit_of : (n : ℕ) (k : StoredKey) (o : Option state.Request) (v : Option Request) → OpenFits x fits.numbers fits.permits s.shelf now.changes o v → grip_of o ≡ grips true n k → (p : Permit) × (fits.permits n ≡ Some p)
  permit_of n k None v f e = absurd cc
  permit_of n k (Some q) None f e = absurd f
  permit_of n k (Some q) (Some r) f e = by_held q.held r.hold f.hold e
    where
      by_held : (h : LockHold) (v : Hold) → HoldFits fits.permits h v → grip_in (key_for q) h ≡ grips true n k → (p : Permit) × (fits.permits n ≡ Some p)
      by_held nothing v f e = absurd cc
      by_held (state.waits m first) v f e = let clash : false ≡ true = ap by_permit e in absurd cc
      by_held (permit m) (holds p) f e = let same : m ≡ n = ap grip_number e in (p, ap fits.permits (sym same) ∙ f)
      by_held (permit m) no_lock f e = absurd f
      by_held (permit m) (waits p since) f e = absurd f

  -- a permit that waits as its key's is the one that waits
  waits_by : (k : StoredKey) (n : ℕ) → core_of k locks ≡ Some n → last_status n locks ≡ status.Waiting → (p : Permit) × (fits.permits n ≡ Some p) × (waiting k now.changes ≡ Some p)
  waits_by k n core still =
      let h = locked.granted.grants.holder k n core still in
      let p = permit_of n k (get s.requests h.0) (now.request h.0) (fits.requests h.0) h.1 in
      (p.0, p.1, fits.lock.waits k ∙ ap (waiting_of fits.permits locks) core ∙ ap (λ (v : LockStatus). cond (is_waiting v) (fits.permits n) None) still ∙ p.1)

  waits_not : (k : StoredKey) → ((n : ℕ) → core_of k locks ≡ Some n → last_status n locks ≡ status.Waiting → ⊥) → (o : Option ℕ) → core_of k locks ≡ o → waiting_of fits.permits locks o ≡ None
  waits_not k none None e = refl
  waits_not k none (Some n) e = by_status (is_waiting (last_status n locks)) refl
    where
      by_status : (v : Bool) → is_waiting (last_status n locks) ≡ v → cond v (fits.permits n) None ≡ None
      by_status false is = refl
      by_status true is = absurd (none n e (only_waiting (last_status n locks) is))

  -- a permit waits by the changes exactly where one waits by those of the lock
  pub waits-alike : (k : StoredKey) → (waiting k now.changes ≢ None) ↔ Waits k locks
  waits-alike k = (λ some. by_core (core_of k locks) refl some, λ w none. let there = waits_by k w.0 w.1 w.2 in let clash : None ≡ Some there.0 = sym none ∙ there.2 in absurd cc)
    where
      by_status : (n : ℕ) → core_of k locks ≡ Some n → (v : Bool) → is_waiting (last_status n locks) ≡ v → (cond v (fits.permits n) None ≡ None → ⊥) → Waits k locks
      by_status n core true is some = (n, core, only_waiting (last_status n locks) is)
      by_status n core false is some = absurd (some refl)

      by_core : (o : Option ℕ) → core_of k locks ≡ o → (waiting k now.changes ≡ None → ⊥) → Waits k locks
      by_core None e some = absurd (some (fits.lock.waits k ∙ ap (waiting_of fits.permits locks) e))
      by_core (Some n) e some = by_status n e (is_waiting (last_status n locks)) refl (λ none. some (fits.lock.waits k ∙ ap (waiting_of fits.permits locks) e ∙ none))

  pub wait-matches : (k : StoredKey) → WaitMatches fits.permits (to_wait_for k s.lock) (waiting k now.changes)
  wait-matches k = by_core (to_wait_for k s.lock) refl
    where
      by_core : (o : Option ℕ) → to_wait_for k s.lock ≡ o → WaitMatches fits.permits o (waiting k now.changes)
      by_core None e = subst (WaitMatches fits.permits None) (sym (fits.lock.waits k ∙ waits_not k none (core_of k locks) refl)) tt
        where
          none : (n : ℕ) → core_of k locks ≡ Some n → last_status n locks ≡ status.Waiting → ⊥
          none n core still = let clash : None ≡ Some n = sym e ∙ waits-for s.lock (grip_at s) (hold_at s) locks locked.granted k n core still in absurd cc
      by_core (Some n) e =
          let from = waits-from s.lock (grip_at s) (hold_at s) locks locked.granted k n e in
          let by = waits_by k n from.0 from.1 in
          subst (WaitMatches fits.permits (Some n)) (sym by.2) by.1

-- ---- a lock that is handed back at once

module _ (permits : Permits) (locks : LockChanges) (next : ℕ) (c : Changes) (f : LockFits permits locks next c) (key : StoredKey) (stale : Bool) (t : MomentValue)
    (known : (k : StoredKey) (n : ℕ) → core_of k locks ≡ Some n → n < next) (none : waiting key c ≡ None) where
  abbrev back : LockChanges
  back = spends next ∷ stores next status.Dangling ∷ lock.gives next key stale t ∷ locks

  other_number : (n : ℕ) → n < next → (n == next) ≡ false
  other_number n l = apart_number n next (λ e. absurd (omega (arith, e, l)))

  status_kept : (n : ℕ) → n < next → last_status n back ≡ last_status n locks
  status_kept n l = ap (λ (v : Bool). cond v status.Dangling (cond v status.Waiting (last_status n locks))) (other_number n l)

  waits_kept : (k : StoredKey) (v : Bool) → same_key k key ≡ v → (o : Option ℕ) → core_of k locks ≡ o → waiting k c ≡ waiting_of permits locks o → waiting k c ≡ waiting_of permits back (cond v (Some next) o)
  waits_kept k true t o e w = ap (λ (j : StoredKey). waiting j c) (same_bytes-tells.equal k key t) ∙ none
      ∙ sym (ap (λ (v : Bool). cond (is_waiting (cond v status.Dangling (cond v status.Waiting (last_status next locks)))) (permits next) None) (eq-eqb next next refl))
  waits_kept k false t None e w = w
  waits_kept k false t (Some n) e w = w ∙ sym (ap (λ (v : LockStatus). cond (is_waiting v) (permits n) None) (status_kept n (known k n e)))

  pub lock-back : LockFits permits back (next + 1) c
  lock-back = record {
    below = λ n p h. let b = f.below n p h in (omega (arith, b.0), b.1);
    apart = f.apart;
    fresh = f.fresh;
    ends = λ n p h. f.ends n p h ∙ ap end_of (sym (status_kept n (f.below n p h).0));
    given = λ n p h. ap (λ (v : Bool). cond v (Some t) (began_at n locks)) (other_number n (f.below n p h).0) ∙ f.given n p h;
    waits = λ k. waits_kept k (same_key k key) refl (core_of k locks) refl (f.waits k);
  }
