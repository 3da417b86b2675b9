-- What the changes of one call leave of who holds the cores of a lock.
use Rattle.std.proofs.Common.{◌≡◌, ℕ, ◌+◌, ◌<◌, ◌==◌, refl, ap, sym, ◌∙◌, true, false, subst, cond, inl, inr, ◌∷◌, arith}
use Rattle.std.specs.Prelude.{◌-◌, ◌⊎◌, Bool, List, Option, Some, None, option_map}
use Rattle.std.specs.FinMap.{get}
use Rattle.std.proofs.lemmas.Bool.{eqb-true, eq-eqb}
use Rattle.cache_words.specs.Time.{MomentValue}
use Rattle.cache_lock.specs.Changes.{Changes, gives, stores, spends}
use Rattle.cache_lock.specs.State.{LockState, IsSound, given_core, status_in, status_of, after}
use Rattle.cache_lock.specs.Status.{is_waiting, is_aged, is_replaced}
use Rattle.cache_lock.specs.Answers.{waited_for, to_wait_for}
use Rattle.cache_lock.specs.Waits.{same_key, names_of, last_status, core_of, IsOfKey}
use Rattle.cache_lock.specs.declared.lock_core.HeldCore.{HeldCore}
use Rattle.cache_lock.specs.declared.status.LockStatus.{LockStatus}
use Rattle.cache_lock.specs.declared.status.LockStatus.TheVariants.{Waiting, Dangling, AgeTimeout}
use Rattle.cache_lock.proofs.ChangeLaws.{begun, stored, handed_back}
use Rattle.cache_lock.proofs.GivenBack.{permit_given_back}
use Rattle.tier_model.proofs.GripLaws.{Grip, free, grips, Moves, Same, moved-now, differ, key-true, key-itself, key_in, key_at}
use Rattle.tier_model.proofs.GrantLaws.{Grants, held-below, keyed-below, gives-grants}

-- a permit that is held waits as its key's, or was found past its age
abbrev pub Stands : ℕ → List ℕ → Changes → Type 0
Stands n k changes = (last_status n changes ≡ AgeTimeout) ⊎ ((last_status n changes ≡ Waiting) × (core_of k changes ≡ Some n))

pub record Granted (lock : LockState) (g : ℕ → Grip) (hold : ℕ → ℕ) (changes : Changes) : Type 0 where
  pub grants : Grants lock g hold changes
  pub permits : (i n : ℕ) (k : List ℕ) → g i ≡ grips true n k → Stands n k changes

pub same-granted : (lock : LockState) (g new : ℕ → Grip) (hold more : ℕ → ℕ) (changes : Changes) → Same g new hold more → Granted lock g hold changes → Granted lock new more changes
same-granted lock g new hold more changes same x = record {
  grants = record {
    orderly = x.grants.orderly;
    state = x.grants.state;
    names = λ n. x.grants.names n ∙ sym (same.sum n);
    unused = x.grants.unused;
    there = λ i n p k e. x.grants.there i n p k (sym (same.grip i) ∙ e);
    keyed = x.grants.keyed;
    given = x.grants.given;
    apart = λ i j n a b e f. x.grants.apart i j n a b (sym (same.grip i) ∙ e) (sym (same.grip j) ∙ f);
    holder = λ j n e w. let h = x.grants.holder j n e w in (h.0, same.grip h.0 ∙ h.1);
  };
  permits = λ i n k e. x.permits i n k (sym (same.grip i) ∙ e);
}

pub only_waiting : (st : LockStatus) → is_waiting st ≡ true → st ≡ Waiting
only_waiting Waiting e = refl
only_waiting _ e = absurd cc

pub only_aged : (st : LockStatus) → is_aged st ≡ true → st ≡ AgeTimeout
only_aged AgeTimeout e = refl
only_aged _ e = absurd cc

module _ (lock : LockState) (g : ℕ → Grip) (hold : ℕ → ℕ) (changes : Changes) (x : Granted lock g hold changes) where
  -- ---- whom one is to wait for

  -- the status of a core that is there
  pub status-there : (n : ℕ) (k : List ℕ) (o : Option HeldCore) → get lock.cores n ≡ o → option_map key_in o ≡ Some k → status_of n lock ≡ last_status n changes
  status-there n k None e is = absurd cc
  status-there n k (Some c) e is = ap status_in e ∙ x.grants.state.status n c e

  pub status-held : (i n : ℕ) (p : Bool) (k : List ℕ) → g i ≡ grips p n k → status_of n lock ≡ last_status n changes
  status-held i n p k e = status-there n k (get lock.cores n) refl (x.grants.there i n p k e)

  -- the core to wait for is the key's, and waits
  pub waits-from : (key : List ℕ) (n : ℕ) → to_wait_for key lock ≡ Some n → (core_of key changes ≡ Some n) × (last_status n changes ≡ Waiting)
  waits-from key n e = by_core (get lock.current key) refl e
    where
      by_there : (m : ℕ) → get lock.current key ≡ Some m → (o : Option HeldCore) → get lock.cores m ≡ o → is_replaced (status_in o) ≡ false
          → (core_of key changes ≡ Some m) × (last_status m changes ≡ Waiting)
      by_there m is None at lasts = absurd cc
      by_there m is (Some c) at lasts =
          let core : core_of key changes ≡ Some m = x.grants.state.current key m is in
          let same : c.core.status ≡ last_status m changes = x.grants.state.status m c at in (
            core,
            elim (x.grants.state.replaced key m core) [
              | inl waits ↦ only_waiting (last_status m changes) waits
              | inr gone ↦ let clash : true ≡ false = sym gone ∙ ap is_replaced (sym same) ∙ lasts in absurd cc
            ],
          )

      by_status : (m : ℕ) → get lock.current key ≡ Some m → (v : Bool) → is_replaced (status_of m lock) ≡ v → cond v None (Some m) ≡ Some n
          → (core_of key changes ≡ Some n) × (last_status n changes ≡ Waiting)
      by_status m is true lasts e = absurd cc
      by_status m is false lasts e =
          let same : m ≡ n = cc in
          subst (λ (k : ℕ). (core_of key changes ≡ Some k) × (last_status k changes ≡ Waiting)) same (by_there m is (get lock.cores m) refl lasts)

      by_core : (o : Option ℕ) → get lock.current key ≡ o → waited_for lock o ≡ Some n → (core_of key changes ≡ Some n) × (last_status n changes ≡ Waiting)
      by_core None is e = absurd cc
      by_core (Some m) is e = by_status m is (is_replaced (status_of m lock)) refl e

  -- a core that waits is the one to wait for
  pub waits-for : (key : List ℕ) (n : ℕ) → core_of key changes ≡ Some n → last_status n changes ≡ Waiting → to_wait_for key lock ≡ Some n
  waits-for key n core waits =
      let now = x.grants.state.waits key n core waits in
      let status : status_of n lock ≡ Waiting = ap status_in now.1.1 ∙ x.grants.state.status n now.1.0 now.1.1 ∙ waits in
      ap (waited_for lock) now.0 ∙ ap (λ (v : Bool). cond v None (Some n)) (ap is_replaced status)

  none_waits : (key : List ℕ) → to_wait_for key lock ≡ None → (n : ℕ) → core_of key changes ≡ Some n → last_status n changes ≡ Waiting → ⊥
  none_waits key none n core waits = let clash : None ≡ Some n = sym none ∙ waits-for key n core waits in absurd cc

  -- ---- a permit that is given stays, whatever is given under another number

  module _ (key : List ℕ) (none : to_wait_for key lock ≡ None) where
    core_stays : (m : ℕ) (k : List ℕ) → core_of k changes ≡ Some m → last_status m changes ≡ Waiting → (v : Bool) → same_key k key ≡ v → cond v (Some lock.next) (core_of k changes) ≡ Some m
    core_stays m k core waits true same = absurd (none_waits key none m (ap (λ (j : List ℕ). core_of j changes) (sym (key-true k key same)) ∙ core) waits)
    core_stays m k core waits false same = core

    stands_given : (m : ℕ) (k : List ℕ) (st : LockStatus) → m < lock.next → Stands m k changes
        → (cond (m == lock.next) st (last_status m changes) ≡ AgeTimeout) ⊎ ((cond (m == lock.next) st (last_status m changes) ≡ Waiting) × (cond (same_key k key) (Some lock.next) (core_of k changes) ≡ Some m))
    stands_given m k st less stands = elim stands [
      | inl aged ↦ inl (same ∙ aged)
      | inr waits ↦ inr (same ∙ waits.0, core_stays m k waits.1 waits.0 (same_key k key) refl)
    ]
      where
        same : cond (m == lock.next) st (last_status m changes) ≡ last_status m changes
        same = ap (λ (v : Bool). cond v st (last_status m changes)) (differ m lock.next (λ e. omega (arith, less, e)))

    pub given-step : (new : ℕ → Grip) (more : ℕ → ℕ) (r : ℕ) (stale : Bool) (t : MomentValue) → IsSound lock → Moves g new hold more r free (grips true lock.next key)
        → Granted (after (gives lock.next key stale t) lock) new more (gives lock.next key stale t ∷ changes)
    given-step new more r stale t sound moves = record {
      grants = gives-grants lock g hold changes x.grants sound new more r key stale t moves;
      permits = λ i m k e. by_one i m k e (r == i) refl;
    }
      where
        by_one : (i m : ℕ) (k : List ℕ) → new i ≡ grips true m k → (v : Bool) → (r == i) ≡ v → Stands m k (gives lock.next key stale t ∷ changes)
        by_one i m k e true is =
            let both : grips true lock.next key ≡ grips true m k = sym (moved-now g new hold more r free (grips true lock.next key) moves i is) ∙ e in
            let number : lock.next ≡ m = cc in
            let keys : key ≡ k = cc in
            inr (
              ap (λ (v : Bool). cond v Waiting (last_status m changes)) (eq-eqb m lock.next (sym number)),
              ap (λ (v : Bool). cond v (Some lock.next) (core_of k changes)) (ap (λ (j : List ℕ). same_key j key) (sym keys) ∙ key-itself key) ∙ ap (λ (j : ℕ). Some j) number,
            )
        by_one i m k e false is =
            let old : g i ≡ grips true m k = sym (moves.others i is) ∙ e in
            stands_given m k Waiting (held-below lock g hold changes x.grants sound i m true k old) (x.permits i m k old)

    -- ---- a permit that is given and handed back at once

    module _ (stale : Bool) (t : MomentValue) (sound : IsSound lock) where
      abbrev given_changes : Changes
      given_changes = gives lock.next key stale t ∷ changes

      abbrev back_changes : Changes
      back_changes = spends lock.next ∷ stores lock.next Dangling ∷ given_changes

      abbrev lock_given : LockState
      lock_given = after (gives lock.next key stale t) lock

      abbrev lock_stored : LockState
      lock_stored = after (stores lock.next Dangling) lock_given

      abbrev lock_back : LockState
      lock_back = after (spends lock.next) lock_stored

      same_key_back : (m : ℕ) → key_at m lock_back ≡ key_at m lock
      same_key_back m = ap (key_at m) (permit_given_back key stale t lock sound)

      same_next_back : lock_back.next ≡ lock.next + 1
      same_next_back = ap (λ (s : LockState). s.next) (permit_given_back key stale t lock sound)

      not_used : IsOfKey lock.next changes → ⊥
      not_used k = let less : lock.next < lock.next = x.grants.given k.0 lock.next k.1 in omega (arith, less)

      stored_last : last_status lock.next (stores lock.next Dangling ∷ given_changes) ≡ Dangling
      stored_last = ap (λ (v : Bool). cond v Dangling (last_status lock.next given_changes)) (eq-eqb lock.next lock.next refl)

      not_waiting : IsOfKey lock.next (stores lock.next Dangling ∷ given_changes) → last_status lock.next (stores lock.next Dangling ∷ given_changes) ≡ Waiting
          → 1 < names_of lock.next (stores lock.next Dangling ∷ given_changes)
      not_waiting k w = let clash : Dangling ≡ Waiting = sym stored_last ∙ w in absurd cc

      names_back : (m : ℕ) (v : Bool) → (m == lock.next) ≡ v → cond v (cond v 1 (names_of m changes) - 1) (cond v 1 (names_of m changes)) ≡ names_of m changes
      names_back m true is = let same : m ≡ lock.next = eqb-true m lock.next is in sym (x.grants.unused m (omega (arith, same)))
      names_back m false is = refl

      last_back : (m : ℕ) → m < lock.next → last_status m back_changes ≡ last_status m changes
      last_back m less = ap (λ (v : Bool). cond v Dangling (cond v Waiting (last_status m changes))) (differ m lock.next (λ e. omega (arith, less, e)))

      pub back-given : Granted lock_back g hold back_changes
      back-given = record {
        grants = record {
          orderly = (not_waiting, ((λ k. refl), (not_used, x.grants.orderly)));
          state = handed_back lock.next lock_stored (stores lock.next Dangling ∷ given_changes)
              (stored lock.next Dangling lock_given given_changes (begun lock.next key (given_core key stale t lock.age) lock stale t changes x.grants.state not_used refl refl) (λ k. refl)) not_waiting
              (get lock_stored.cores lock.next) refl;
          names = λ m. names_back m (m == lock.next) refl ∙ x.grants.names m;
          unused = λ m l. names_back m (m == lock.next) refl ∙ x.grants.unused m (let same = same_next_back in omega (arith, l, same));
          there = λ i m p k e. same_key_back m ∙ x.grants.there i m p k e;
          keyed = λ j k m e is. keyed_back j k m (same_key j key) e (sym (same_key_back m) ∙ is);
          given = λ j m e. subst (λ (c : ℕ). m < c) (sym same_next_back) (given_back j m (same_key j key) e);
          apart = x.grants.apart;
          holder = λ j m e w. holder_back j m (same_key j key) e w;
        };
        permits = λ i m k e. stands_back m k (held-below lock g hold changes x.grants sound i m true k e) (x.permits i m k e);
      }
        where
          stands_back : (m : ℕ) (k : List ℕ) → m < lock.next → Stands m k changes → Stands m k back_changes
          stands_back m k less stands = elim stands [
            | inl aged ↦ inl (last_back m less ∙ aged)
            | inr waits ↦ inr (last_back m less ∙ waits.0, core_stays m k waits.1 waits.0 (same_key k key) refl)
          ]

          keyed_back : (j k : List ℕ) (m : ℕ) (v : Bool) → cond v (Some lock.next) (core_of j changes) ≡ Some m → key_at m lock ≡ Some k → k ≡ j
          keyed_back j k m true e is =
              let number : lock.next ≡ m = cc in
              let less : m < lock.next = keyed-below lock g hold changes x.grants sound m k is in
              absurd (omega (arith, less, number))
          keyed_back j k m false e is = x.grants.keyed j k m e is

          given_back : (j : List ℕ) (m : ℕ) (v : Bool) → cond v (Some lock.next) (core_of j changes) ≡ Some m → m < lock.next + 1
          given_back j m true e = let number : lock.next ≡ m = cc in omega (arith, number)
          given_back j m false e = let less : m < lock.next = x.grants.given j m e in omega (arith, less)

          holder_back : (j : List ℕ) (m : ℕ) (v : Bool) → cond v (Some lock.next) (core_of j changes) ≡ Some m → last_status m back_changes ≡ Waiting → (i : ℕ) × (g i ≡ grips true m j)
          holder_back j m true e w =
              let number : lock.next ≡ m = cc in
              let clash : Dangling ≡ Waiting = sym stored_last ∙ ap (λ (c : ℕ). last_status c back_changes) number ∙ w in
              absurd cc
          holder_back j m false e w = x.grants.holder j m e (sym (last_back m (x.grants.given j m e)) ∙ w)
