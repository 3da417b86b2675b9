-- What a wait that is given, and a permit or a wait that ends, leave of who holds the cores of a lock.
use Rattle.std.proofs.Common.{◌≡◌, ℕ, ◌+◌, ◌<◌, ◌==◌, refl, ap, sym, ◌∙◌, true, false, subst, cond, inl, inr, [], ◌∷◌, ◌++◌, arith}
use Rattle.std.specs.Prelude.{◌-◌, ◌⊎◌, Bool, List, Option, Some, None}
use Rattle.std.specs.FinMap.{get}
use Rattle.std.proofs.lemmas.Bool.{eq-eqb}
use Rattle.cache_words.specs.Time.{MomentValue}
use Rattle.cache_lock.specs.Changes.{Changes, lends, stores, takes_out, spends}
use Rattle.cache_lock.specs.State.{LockState, IsSound, status_of, after, after_all, is_number}
use Rattle.cache_lock.specs.Status.{is_aged}
use Rattle.cache_lock.specs.Answers.{to_wait_for, locked_by, lock_change, release_changes, leave_changes, poll_changes, released_by}
use Rattle.cache_lock.specs.Waits.{same_key, names_of, last_status, core_of, IsOfKey}
use Rattle.cache_lock.specs.declared.status.LockStatus.{LockStatus}
use Rattle.cache_lock.specs.declared.status.LockStatus.TheVariants.{Waiting, Dangling, AgeTimeout}
use Rattle.cache_lock.specs.declared.fills.WaitOutcome.{WaitOutcome}
use Rattle.cache_lock.specs.declared.fills.WaitOutcome.TheVariants as wait
use Rattle.cache_lock.proofs.ChangeLaws.{lent, handed_back}
use Rattle.cache_lock.proofs.GivenBack.{read_given_back}
use Rattle.tier_model.proofs.GripLaws.{Grip, free, grips, by_permit, Table, Moves, moved-now, still-held, differ, key-true, key-itself, key_at}
use Rattle.tier_model.proofs.GrantLaws.{Grants, stores-grants, takes-grants, spends-grants, lends-grants}
use Rattle.tier_model.proofs.GrantSteps.{Stands, Granted, only_aged, status-held, waits-from, back-given}

module _ (lock : LockState) (g : ℕ → Grip) (hold : ℕ → ℕ) (changes : Changes) (x : Granted lock g hold changes) where
  -- ---- a wait that is given

  pub lent-step : (new : ℕ → Grip) (more : ℕ → ℕ) (r n : ℕ) (key : List ℕ) → to_wait_for key lock ≡ Some n → Moves g new hold more r free (grips false n key)
      → Granted (after (lends n) lock) new more (lends n ∷ changes)
  lent-step new more r n key there moves =
      let w = waits-from lock g hold changes x key n there in
      record {
        grants = lends-grants lock g hold changes x.grants new more r n key moves w.0 w.1;
        permits = λ i m k e. by_one i m k e (r == i) refl;
      }
    where
      by_one : (i m : ℕ) (k : List ℕ) → new i ≡ grips true m k → (v : Bool) → (r == i) ≡ v → Stands m k changes
      by_one i m k e true is =
          let both : grips false n key ≡ grips true m k = sym (moved-now g new hold more r free (grips false n key) moves i is) ∙ e in
          let clash : false ≡ true = ap by_permit both in
          absurd cc
      by_one i m k e false is = x.permits i m k (sym (moves.others i is) ∙ e)

  -- ---- a lock that is given and handed back at once

  module _ (table : Table g hold) (sound : IsSound lock) (key : List ℕ) (stale : Bool) (t : MomentValue) where
    back_read : (n : ℕ) → to_wait_for key lock ≡ Some n → Granted (after (spends n) (after (lends n) lock)) g hold (spends n ∷ lends n ∷ changes)
    back_read n there = record {
      grants = record {
        orderly = (may, (tt, x.grants.orderly));
        state = handed_back n (after (lends n) lock) (lends n ∷ changes) (lent n lock changes x.grants.state) may (get (after (lends n) lock).cores n) refl;
        names = λ m. names_back m (m == n) ∙ x.grants.names m;
        unused = λ m l. names_back m (m == n) ∙ x.grants.unused m (let e = ap (λ (s : LockState). s.next) same in omega (arith, l, e));
        there = λ i m p k e. ap (key_at m) same ∙ x.grants.there i m p k e;
        keyed = λ j k m e is. x.grants.keyed j k m e (sym (ap (key_at m) same) ∙ is);
        given = λ j m e. subst (λ (s : LockState). m < s.next) (sym same) (x.grants.given j m e);
        apart = x.grants.apart;
        holder = x.grants.holder;
      };
      permits = x.permits;
    }
      where
        same : after (spends n) (after (lends n) lock) ≡ lock
        same = read_given_back n lock sound (get lock.cores n) refl

        named_now : names_of n (lends n ∷ changes) ≡ names_of n changes + 1
        named_now = ap (λ (v : Bool). cond v (names_of n changes + 1) (names_of n changes)) (eq-eqb n n refl)

        may : IsOfKey n (lends n ∷ changes) → last_status n (lends n ∷ changes) ≡ Waiting → 1 < names_of n (lends n ∷ changes)
        may of_key w =
            let h = x.grants.holder of_key.0 n of_key.1 w in
            let some : 0 < hold n = table.one h.0 n true of_key.0 h.1 in
            let a = x.grants.names n in
            let b = named_now in
            omega (arith, some, a, b)

        names_back : (m : ℕ) (v : Bool) → cond v (cond v (names_of m changes + 1) (names_of m changes) - 1) (cond v (names_of m changes + 1) (names_of m changes)) ≡ names_of m changes
        names_back m true = omega arith
        names_back m false = refl

    pub back-step : (o : Option ℕ) → to_wait_for key lock ≡ o
        → Granted (after_all (leave_changes (locked_by lock o) ++ lock_change key stale t lock o ∷ []) lock) g hold ((leave_changes (locked_by lock o) ++ lock_change key stale t lock o ∷ []) ++ changes)
    back-step None none = back-given lock g hold changes x key none stale t sound
    back-step (Some n) there = back_read n there

  -- ---- a wait that ends

  module _ (new : ℕ → Grip) (more : ℕ → ℕ) (r n : ℕ) (key : List ℕ) (table : Table g hold) (moves : Moves g new hold more r (grips false n key) free) where
    pub left-step : Granted (after (spends n) lock) new more (spends n ∷ changes)
    left-step = record {
      grants = spends-grants lock g hold changes x.grants new more r n false key table moves (λ e. let clash : false ≡ true = e in absurd cc);
      permits = λ i m k e. x.permits i m k (still-held g new hold more r (grips false n key) moves i m true k e).1;
    }

    polled_aged : Granted (after (spends n) (after (stores n AgeTimeout) lock)) new more (spends n ∷ stores n AgeTimeout ∷ changes)
    polled_aged = record {
      grants = spends-grants (after (stores n AgeTimeout) lock) g hold (stores n AgeTimeout ∷ changes) (stores-grants lock g hold changes x.grants n AgeTimeout (λ k. refl) (λ e. absurd cc)) new more r n false key table moves
          (λ e. let clash : false ≡ true = e in absurd cc);
      permits = λ i m k e. stands m k (m == n) (x.permits i m k (still-held g new hold more r (grips false n key) moves i m true k e).1);
    }
      where
        stands : (m : ℕ) (k : List ℕ) (v : Bool) → Stands m k changes
            → (cond v AgeTimeout (last_status m changes) ≡ AgeTimeout) ⊎ ((cond v AgeTimeout (last_status m changes) ≡ Waiting) × (core_of k changes ≡ Some m))
        stands m k true s = inl refl
        stands m k false s = s

    pub polled-step : (o : Option WaitOutcome) → Granted (after_all (spends n ∷ poll_changes n o) lock) new more ((spends n ∷ poll_changes n o) ++ changes)
    polled-step (Some wait.AgeTimeout) = polled_aged
    polled-step (Some _) = left-step
    polled-step None = left-step

  -- ---- a permit that ends

  module _ (new : ℕ → Grip) (more : ℕ → ℕ) (r n : ℕ) (key : List ℕ) (table : Table g hold) (moves : Moves g new hold more r (grips true n key) free) where
    -- another permit is of another core
    other_core : (i m : ℕ) (k : List ℕ) → new i ≡ grips true m k → ((m == n) ≡ false) × (g i ≡ grips true m k)
    other_core i m k e =
        let old = still-held g new hold more r (grips true n key) moves i m true k e in
        (differ m n (λ same. clash old.0 (x.grants.apart r i n key k moves.was (old.1 ∙ ap (λ (c : ℕ). grips true c k) same))), old.1)
      where
        clash : (r == i) ≡ false → r ≡ i → ⊥
        clash apart same = let both : true ≡ false = sym (eq-eqb r i same) ∙ apart in absurd cc

    pub dropped-step : Granted (after (spends n) (after (stores n Dangling) lock)) new more (spends n ∷ stores n Dangling ∷ changes)
    dropped-step = record {
      grants = spends-grants (after (stores n Dangling) lock) g hold (stores n Dangling ∷ changes) (stores-grants lock g hold changes x.grants n Dangling (λ k. refl) (λ e. absurd cc)) new more r n true key table moves
          (λ e k w. let clash : Dangling ≡ Waiting = sym stored_last ∙ w in absurd cc);
      permits = λ i m k e. let old = other_core i m k e in stands m k old.0 (x.permits i m k old.1);
    }
      where
        stored_last : last_status n (stores n Dangling ∷ changes) ≡ Dangling
        stored_last = ap (λ (v : Bool). cond v Dangling (last_status n changes)) (eq-eqb n n refl)

        stands : (m : ℕ) (k : List ℕ) → (m == n) ≡ false → Stands m k changes → Stands m k (spends n ∷ stores n Dangling ∷ changes)
        stands m k apart s =
            subst (λ (v : Bool). (cond v Dangling (last_status m changes) ≡ AgeTimeout) ⊎ ((cond v Dangling (last_status m changes) ≡ Waiting) × (core_of k changes ≡ Some m))) (sym apart) s

    -- ---- a permit that is released

    released_aged : is_aged (status_of n lock) ≡ true → Granted (after (spends n) lock) new more (spends n ∷ changes)
    released_aged aged = record {
      grants = spends-grants lock g hold changes x.grants new more r n true key table moves
          (λ e k w. let clash : AgeTimeout ≡ Waiting = sym (only_aged (status_of n lock) aged) ∙ status-held lock g hold changes x r n true key moves.was ∙ w in absurd cc);
      permits = λ i m k e. x.permits i m k (other_core i m k e).1;
    }

    module _ (st : LockStatus) (ends : st ≡ Waiting → ⊥) (lasts : is_aged (status_of n lock) ≡ false) where
      abbrev taken_changes : Changes
      taken_changes = takes_out key ∷ changes

      abbrev lock_taken : LockState
      lock_taken = after (takes_out key) lock

      -- no key has the core any more
      no_key : IsOfKey n taken_changes → ⊥
      no_key of_key = by_key of_key.0 (same_key of_key.0 key) refl of_key.1
        where
          by_key : (j : List ℕ) (v : Bool) → same_key j key ≡ v → cond v None (core_of j changes) ≡ Some n → ⊥
          by_key j true same e = absurd cc
          by_key j false apart e =
              let one : key ≡ j = x.grants.keyed j key n e (x.grants.there r n true key moves.was) in
              let clash : true ≡ false = sym (key-itself key) ∙ ap (λ (k : List ℕ). same_key k key) one ∙ apart in
              absurd cc

      grants_taken : Grants (after (stores n st) lock_taken) g hold (stores n st ∷ taken_changes)
      grants_taken = stores-grants lock_taken g hold taken_changes (takes-grants lock g hold changes x.grants key) n st (λ k. absurd (no_key k)) ends

      -- the key's core is that of the permit
      its_core : core_of key changes ≡ Some n
      its_core = elim (x.permits r n key moves.was) [
        | inl aged ↦ let clash : true ≡ false = sym (ap is_aged (status-held lock g hold changes x r n true key moves.was ∙ aged)) ∙ lasts in absurd cc
        | inr waits ↦ waits.1
      ]

      core_apart : (m : ℕ) (k : List ℕ) → (m == n) ≡ false → core_of k changes ≡ Some m → (v : Bool) → same_key k key ≡ v → cond v None (core_of k changes) ≡ Some m
      core_apart m k apart e true same =
          let both : Some m ≡ Some n = sym e ∙ ap (λ (j : List ℕ). core_of j changes) (key-true k key same) ∙ its_core in
          let number : m ≡ n = cc in
          let clash : true ≡ false = sym (eq-eqb m n number) ∙ apart in
          absurd cc
      core_apart m k apart e false same = e

      stands : (m : ℕ) (k : List ℕ) → (m == n) ≡ false → Stands m k changes → Stands m k (spends n ∷ stores n st ∷ taken_changes)
      stands m k apart s = elim s [
        | inl aged ↦ inl (ap (λ (v : Bool). cond v st (last_status m changes)) apart ∙ aged)
        | inr waits ↦ inr (ap (λ (v : Bool). cond v st (last_status m changes)) apart ∙ waits.0, core_apart m k apart waits.1 (same_key k key) refl)
      ]

      released_taken : Granted (after (spends n) (after (stores n st) lock_taken)) new more (spends n ∷ stores n st ∷ taken_changes)
      released_taken = record {
        grants = spends-grants (after (stores n st) lock_taken) g hold (stores n st ∷ taken_changes) grants_taken new more r n true key table moves (λ e k w. no_key k);
        permits = λ i m k e. let old = other_core i m k e in stands m k old.0 (x.permits i m k old.1);
      }

    pub released-step : (reason : LockStatus) → (reason ≡ Waiting → ⊥) → Granted (after_all (release_changes key n reason lock) lock) new more (release_changes key n reason lock ++ changes)
    released-step reason ends = by_case (is_aged (status_of n lock)) (is_number n (get lock.current key)) refl
      where
        by_case : (aged own : Bool) → is_aged (status_of n lock) ≡ aged → Granted (after_all (released_by aged own key n reason) lock) new more (released_by aged own key n reason ++ changes)
        by_case true own aged = released_aged aged
        by_case false true lasts = released_taken reason ends lasts
        by_case false false lasts = dropped-step
