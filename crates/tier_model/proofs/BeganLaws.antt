-- When the permit of a core was given, and the age that it has.
use Rattle.std.proofs.Common.{◌≡◌, ℕ, ◌==◌, refl, ap, sym, ◌∙◌, true, false, subst, cond, [], ◌∷◌, ◌++◌}
use Rattle.std.specs.Prelude.{Bool, List, Option, Some, None, option_map, if◌then◌else◌, nat_le}
use Rattle.std.specs.FinMap.{get, get-empty, insert}
use Rattle.std.specs.Ordering.{nat_cmp}
use Rattle.cache_words.specs.Time.{MomentValue, DurationValue}
use Rattle.cache_lock.specs.Answers.{to_wait_for, locked_by, lock_change, leave_changes, wait_outcome, poll_changes, released_by}
use Rattle.cache_lock.specs.Changes.{Changes, gives, lends, stores, takes_out, publishes, spends}
use Rattle.cache_lock.specs.State.{LockState, given_core, named, unnamed, with_status, with_core, without_core, spent, told, status_of, after_all, empty_lock, is_number}
use Rattle.cache_lock.specs.Status.{is_aged}
use Rattle.cache_lock.specs.declared.fills.WaitOutcome.{WaitOutcome}
use Rattle.cache_lock.specs.declared.fills.WaitOutcome.TheVariants as wait
use Rattle.cache_lock.specs.declared.lock_core.HeldCore.{HeldCore}
use Rattle.cache_lock.specs.declared.status.LockStatus.{LockStatus}
use Rattle.cache_lock.proofs.ChangeLaws.{get-put}
use Rattle.tier_model.specs.declared.event.Action.{Action}
use Rattle.tier_model.specs.Calls.{Outcome}
use Rattle.tier_model.specs.State.{State}
use Rattle.tier_model.specs.Answers.{key_for}
use Rattle.tier_model.proofs.GripLaws.{kept-in, was-in}
use Rattle.tier_model.proofs.EffectLaws.{Effect, quiet, given, lent, back, polled, left, dropped, released}

-- when the permit of the core of that number was given
abbrev pub began_at : ℕ → Changes → Option MomentValue
began_at n [] = None
began_at n (gives m key stale moment ∷ before) = if n == m then Some moment else began_at n before
began_at n (_ ∷ before) = began_at n before

-- ---- of a core that is there

abbrev pub ages : HeldCore → MomentValue × DurationValue
ages c = (c.core.lock_start, c.core.age_timeout)

age_kept : (n : ℕ) (f : HeldCore → HeldCore) (s : LockState) (o : Option HeldCore) → (with_core n f o s).age ≡ s.age
age_kept n f s None = refl
age_kept n f s (Some c) = refl

age_told : (n : ℕ) (tokens : List ℕ) (s : LockState) (o : Option HeldCore) → (told n tokens o s).age ≡ s.age
age_told n tokens s None = refl
age_told n tokens s (Some c) = refl

age_spent : (n : ℕ) (s : LockState) (o : Option HeldCore) → (spent n o s).age ≡ s.age
age_spent n s None = refl
age_spent n s (Some c) = by_last (nat_le c.names 1)
  where
    by_last : (v : Bool) → (cond v (without_core n c.key s) (record s { cores = insert s.cores n (unnamed c) })).age ≡ s.age
    by_last true = refl
    by_last false = refl

cores_told : (n : ℕ) (tokens : List ℕ) (s : LockState) (o : Option HeldCore) → (told n tokens o s).cores ≡ s.cores
cores_told n tokens s None = refl
cores_told n tokens s (Some c) = refl

module _ (age : DurationValue) (first : ℕ) where
  abbrev after_them : Changes → LockState
  after_them changes = after_all changes (record (empty_lock age) { next = first })

  pub age_is : (changes : Changes) → (after_them changes).age ≡ age
  age_is [] = refl
  age_is (gives m key stale moment ∷ before) = age_is before
  age_is (lends m ∷ before) = age_kept m named (after_them before) (get (after_them before).cores m) ∙ age_is before
  age_is (stores m status ∷ before) = age_kept m (with_status status) (after_them before) (get (after_them before).cores m) ∙ age_is before
  age_is (takes_out key ∷ before) = age_is before
  age_is (publishes m tokens ∷ before) = age_told m tokens (after_them before) (get (after_them before).cores m) ∙ age_is before
  age_is (spends m ∷ before) = age_spent m (after_them before) (get (after_them before).cores m) ∙ age_is before

  -- a core that is there has that age, from when its permit was given
  pub began-there : (changes : Changes) (n : ℕ) (x : MomentValue × DurationValue) → option_map ages (get (after_them changes).cores n) ≡ Some x → (began_at n changes ≡ Some x.0) × (x.1 ≡ age)
  began-there [] n x e = let clash : None ≡ Some x = sym (ap (option_map ages) (get-empty nat_cmp n)) ∙ e in absurd cc
  began-there (gives m key stale moment ∷ before) n x e =
      by_number (n == m) (λ is. began-there before n x is) (sym (ap (option_map ages) (get-put (after_them before).cores m n (given_core key stale moment (after_them before).age))) ∙ e)
    where
      by_number : (v : Bool) → (option_map ages (get (after_them before).cores n) ≡ Some x → (began_at n before ≡ Some x.0) × (x.1 ≡ age))
          → option_map ages (cond v (Some (given_core key stale moment (after_them before).age)) (get (after_them before).cores n)) ≡ Some x
          → (cond v (Some moment) (began_at n before) ≡ Some x.0) × (x.1 ≡ age)
      by_number true later e =
          let both : Some (moment, (after_them before).age) ≡ Some x = e in
          let one : (moment, (after_them before).age) ≡ x = cc in
          (ap (λ (y : MomentValue × DurationValue). Some y.0) one, sym (ap (λ (y : MomentValue × DurationValue). y.1) one) ∙ age_is before)
      by_number false later e = later e
  began-there (lends m ∷ before) n x e = began-there before n x (sym (kept-in ages n m named (after_them before) (λ c. refl) (get (after_them before).cores m) refl) ∙ e)
  began-there (stores m status ∷ before) n x e = began-there before n x (sym (kept-in ages n m (with_status status) (after_them before) (λ c. refl) (get (after_them before).cores m) refl) ∙ e)
  began-there (takes_out key ∷ before) n x e = began-there before n x e
  began-there (publishes m tokens ∷ before) n x e =
      began-there before n x (sym (ap (λ cores. option_map ages (get cores n)) (cores_told m tokens (after_them before) (get (after_them before).cores m))) ∙ e)
  began-there (spends m ∷ before) n x e = began-there before n x (was-in ages n m (after_them before) (λ c. refl) x (get (after_them before).cores m) refl e)

-- ---- what a call leaves of it

module _ (s new : State) (t : MomentValue) (action : Action) (o : Outcome) (changes : Changes) (n : ℕ) (below : (n == s.lock.next) ≡ false) where
  abbrev Same : Changes → Type 0
  Same cs = began_at n (cs ++ changes) ≡ began_at n changes

  by_given : (key : List ℕ) (stale : Bool) → Same (gives s.lock.next key stale t ∷ [])
  by_given key stale = ap (λ (v : Bool). cond v (Some t) (began_at n changes)) below

  by_back : (key : List ℕ) (stale : Bool) (core : Option ℕ) → Same (leave_changes (locked_by s.lock core) ++ lock_change key stale t s.lock core ∷ [])
  by_back key stale None = ap (λ (v : Bool). cond v (Some t) (began_at n changes)) below
  by_back key stale (Some m) = refl

  by_wait : (m : ℕ) (w : Option WaitOutcome) → Same (spends m ∷ poll_changes m w)
  by_wait m (Some wait.AgeTimeout) = refl
  by_wait m (Some _) = refl
  by_wait m None = refl

  by_case : (m : ℕ) (key : List ℕ) (aged own : Bool) (reason : LockStatus) → Same (released_by aged own key m reason)
  by_case m key true own reason = refl
  by_case m key false true reason = refl
  by_case m key false false reason = refl

  pub began-step : (cs : Changes) → Effect s new t action o cs → Same cs
  began-step cs (quiet same none says) = subst Same (sym none) refl
  began-step cs (given r q stale there moves none is says) = subst Same (sym is) (by_given (key_for q) stale)
  began-step cs (lent r m key moves there is says) = subst Same (sym is) refl
  began-step cs (back key stale same is says) = subst Same (sym is) (by_back key stale (to_wait_for key s.lock))
  began-step cs (polled r m key over outcome moves is act out over_is) = subst Same (sym is) (by_wait m (wait_outcome m [] t s.lock))
  began-step cs (left r m key moves is says) = subst Same (sym is) refl
  began-step cs (dropped r m key moves is says) = subst Same (sym is) refl
  began-step cs (released r m key reason lasts moves is says) = subst Same (sym is) (by_case m key (is_aged (status_of m s.lock)) (is_number m (get s.lock.current key)) reason)
