-- What single changes of a lock leave of who holds its cores: they are orderly, and a permit that waits is held by one request.
use Rattle.std.proofs.Common.{◌≡◌, ℕ, ◌+◌, ◌<◌, ◌≤◌, ◌==◌, refl, ap, sym, ◌∙◌, true, false, subst, cond, ◌∷◌, inl, inr, arith}
use Rattle.std.specs.Prelude.{◌-◌, ◌⊎◌, Bool, List, Option, Some, None, option_map}
use Rattle.std.specs.FinMap.{get}
use Rattle.std.proofs.lemmas.Bool.{eqb-true, eq-eqb}
use Rattle.cache_words.specs.Time.{MomentValue}
use Rattle.cache_lock.specs.Changes.{Changes, gives, lends, stores, takes_out, spends}
use Rattle.cache_lock.specs.State.{LockState, IsSound, given_core, named, with_status, after}
use Rattle.cache_lock.specs.Status.{is_replaced}
use Rattle.cache_lock.specs.Waits.{same_key, names_of, last_status, core_of, IsOfKey, IsOrderly, IsStateOf}
use Rattle.cache_lock.specs.declared.lock_core.HeldCore.{HeldCore}
use Rattle.cache_lock.specs.declared.status.LockStatus.{LockStatus}
use Rattle.cache_lock.specs.declared.status.LockStatus.TheVariants.{Waiting}
use Rattle.cache_lock.proofs.ChangeLaws.{begun, lent, stored, taken, handed_back}
use Rattle.tier_model.proofs.GripLaws.{Grip, free, grips, by_permit, grip_number, grip_key, Table, Moves, moved-was, moved-now, still-held, differ, key-true, key_in, key_at, key-given}
use Rattle.tier_model.proofs.GripLaws.{key-kept, next-kept, next-spent, key-left, key-was}

-- of a lock, of who holds its cores, how often each is held, and of what was changed: each core is named as often as it is held, and a number that
-- is still to come isn't; a core that is held is there, under the key of the one that holds it, and a key's core is under that key; no two
-- requests have one permit; and a permit that waits as its key's is held
pub record Grants (lock : LockState) (g : ℕ → Grip) (hold : ℕ → ℕ) (changes : Changes) : Type 0 where
  pub orderly : IsOrderly changes
  pub state : IsStateOf lock changes
  pub names : (n : ℕ) → names_of n changes ≡ hold n
  pub unused : (n : ℕ) → lock.next ≤ n → names_of n changes ≡ 0
  pub there : (i n : ℕ) (p : Bool) (k : List ℕ) → g i ≡ grips p n k → key_at n lock ≡ Some k
  pub keyed : (j k : List ℕ) (n : ℕ) → core_of j changes ≡ Some n → key_at n lock ≡ Some k → k ≡ j
  pub given : (j : List ℕ) (n : ℕ) → core_of j changes ≡ Some n → n < lock.next
  pub apart : (i j n : ℕ) (a b : List ℕ) → g i ≡ grips true n a → g j ≡ grips true n b → i ≡ j
  pub holder : (j : List ℕ) (n : ℕ) → core_of j changes ≡ Some n → last_status n changes ≡ Waiting → (i : ℕ) × (g i ≡ grips true n j)

module _ (lock : LockState) (g : ℕ → Grip) (hold : ℕ → ℕ) (changes : Changes) (x : Grants lock g hold changes) where
  -- ---- what is stored, and what is taken out

  pub stores-grants : (n : ℕ) (st : LockStatus) → (IsOfKey n changes → is_replaced st ≡ true) → (st ≡ Waiting → ⊥) → Grants (after (stores n st) lock) g hold (stores n st ∷ changes)
  stores-grants n st replaced ends = record {
    orderly = (replaced, x.orderly);
    state = stored n st lock changes x.state replaced;
    names = x.names;
    unused = λ m l. x.unused m (subst (λ (k : ℕ). k ≤ m) (next-kept n (with_status st) (get lock.cores n) lock) l);
    there = λ i m p k e. key-kept m n (with_status st) lock (λ c. refl) (get lock.cores n) refl ∙ x.there i m p k e;
    keyed = λ j k m e is. x.keyed j k m e (sym (key-kept m n (with_status st) lock (λ c. refl) (get lock.cores n) refl) ∙ is);
    given = λ j m e. subst (λ (k : ℕ). m < k) (sym (next-kept n (with_status st) (get lock.cores n) lock)) (x.given j m e);
    apart = x.apart;
    holder = λ j m e w. by_number j m e (m == n) w;
  }
    where
      by_number : (j : List ℕ) (m : ℕ) → core_of j changes ≡ Some m → (v : Bool) → cond v st (last_status m changes) ≡ Waiting → (i : ℕ) × (g i ≡ grips true m j)
      by_number j m e true w = absurd (ends w)
      by_number j m e false w = x.holder j m e w

  pub takes-grants : (gone : List ℕ) → Grants (after (takes_out gone) lock) g hold (takes_out gone ∷ changes)
  takes-grants gone = record {
    orderly = (tt, x.orderly);
    state = taken gone lock changes x.state;
    names = x.names;
    unused = x.unused;
    there = x.there;
    keyed = λ j k m e is. x.keyed j k m (was j m (same_key j gone) e) is;
    given = λ j m e. x.given j m (was j m (same_key j gone) e);
    apart = x.apart;
    holder = λ j m e w. x.holder j m (was j m (same_key j gone) e) w;
  }
    where
      was : (j : List ℕ) (m : ℕ) (v : Bool) → cond v None (core_of j changes) ≡ Some m → core_of j changes ≡ Some m
      was j m true e = absurd cc
      was j m false e = e

  -- ---- a permit or a wait that is handed back

  module _ (new : ℕ → Grip) (more : ℕ → ℕ) (r n : ℕ) (p : Bool) (key : List ℕ) (table : Table g hold) (moves : Moves g new hold more r (grips p n key) free)
      (ended : p ≡ true → IsOfKey n changes → last_status n changes ≡ Waiting → ⊥) where
    -- another holds the core too
    shared : (i m : ℕ) (q : Bool) (k : List ℕ) → (r == i) ≡ false → g i ≡ grips q m k → (m == n) ≡ true → 1 < names_of n changes
    shared i m q k apart e same =
        subst (λ (c : ℕ). 1 < c) (sym (x.names n)) (table.two r i n p q key k apart moves.was (e ∙ ap (λ (c : ℕ). grips q c k) (eqb-true m n same)))

    still : (i m : ℕ) (q : Bool) (k : List ℕ) → new i ≡ grips q m k → ((r == i) ≡ false) × (g i ≡ grips q m k)
    still i m q k e = still-held g new hold more r (grips p n key) moves i m q k e

    may : IsOfKey n changes → last_status n changes ≡ Waiting → 1 < names_of n changes
    may of_key w = let h = x.holder of_key.0 n of_key.1 w in by_one h.0 h.1 (r == h.0) refl
      where
        by_one : (i : ℕ) → g i ≡ grips true n of_key.0 → (v : Bool) → (r == i) ≡ v → 1 < names_of n changes
        by_one i e true is = absurd (ended (ap by_permit (sym (moved-was g new hold more r (grips p n key) free moves i is) ∙ e)) of_key w)
        by_one i e false is = shared i n true of_key.0 is e (itself n)
          where
            itself : (a : ℕ) → (a == a) ≡ true
            itself a = eq-eqb a a refl

    names_left : (m : ℕ) (v : Bool) → more m + cond v 1 0 ≡ hold m + 0 → cond v (names_of m changes - 1) (names_of m changes) ≡ more m
    names_left m true s = let a = x.names m in omega (arith, a, s)
    names_left m false s = let a = x.names m in omega (arith, a, s)

    unused_left : (m : ℕ) (v : Bool) → names_of m changes ≡ 0 → cond v (names_of m changes - 1) (names_of m changes) ≡ 0
    unused_left m true e = ap (λ (c : ℕ). c - 1) e
    unused_left m false e = e

    pub spends-grants : Grants (after (spends n) lock) new more (spends n ∷ changes)
    spends-grants = record {
      orderly = (may, x.orderly);
      state = handed_back n lock changes x.state may (get lock.cores n) refl;
      names = λ m. names_left m (m == n) (moves.sum m);
      unused = λ m l. unused_left m (m == n) (x.unused m (subst (λ (k : ℕ). k ≤ m) (next-spent n (get lock.cores n) lock) l));
      there = λ i m q k e. let old = still i m q k e in
          key-left m n lock (λ same c is. subst (λ (k : ℕ). 1 < k) (sym (x.state.names n c is)) (shared i m q k old.0 old.1 same)) (get lock.cores n) refl ∙ x.there i m q k old.1;
      keyed = λ j k m e is. x.keyed j k m e (key-was m n lock k (get lock.cores n) refl is);
      given = λ j m e. subst (λ (k : ℕ). m < k) (sym (next-spent n (get lock.cores n) lock)) (x.given j m e);
      apart = λ i j m a b e f. x.apart i j m a b (still i m true a e).1 (still j m true b f).1;
      holder = λ j m e w. let h = x.holder j m e w in by_one j m e w h.0 h.1 (r == h.0) refl;
    }
      where
        by_one : (j : List ℕ) (m : ℕ) → core_of j changes ≡ Some m → last_status m changes ≡ Waiting → (i : ℕ) → g i ≡ grips true m j → (v : Bool) → (r == i) ≡ v → (i : ℕ) × (new i ≡ grips true m j)
        by_one j m e w i is true one =
            let both : grips p n key ≡ grips true m j = sym (moved-was g new hold more r (grips p n key) free moves i one) ∙ is in
            let same : m ≡ n = sym (ap grip_number both) in
            absurd (ended (ap by_permit both) (j, e ∙ ap (λ (k : ℕ). Some k) same) (ap (λ (k : ℕ). last_status k changes) (sym same) ∙ w))
        by_one j m e w i is false one = (i, moves.others i one ∙ is)

  -- ---- a wait that is given

  module _ (new : ℕ → Grip) (more : ℕ → ℕ) (r n : ℕ) (key : List ℕ) (moves : Moves g new hold more r free (grips false n key)) (core : core_of key changes ≡ Some n)
      (waiting : last_status n changes ≡ Waiting) where
    same_key_at : (m : ℕ) → key_at m (after (lends n) lock) ≡ key_at m lock
    same_key_at m = key-kept m n named lock (λ c. refl) (get lock.cores n) refl

    same_next : (after (lends n) lock).next ≡ lock.next
    same_next = next-kept n named (get lock.cores n) lock

    names_lent : (m : ℕ) (v : Bool) → more m + 0 ≡ hold m + cond v 1 0 → cond v (names_of m changes + 1) (names_of m changes) ≡ more m
    names_lent m true s = let a = x.names m in omega (arith, a, s)
    names_lent m false s = let a = x.names m in omega (arith, a, s)

    -- one that has a permit then had it before
    had : (i m : ℕ) (k : List ℕ) → new i ≡ grips true m k → g i ≡ grips true m k
    had i m k e = by_one (r == i) refl
      where
        by_one : (v : Bool) → (r == i) ≡ v → g i ≡ grips true m k
        by_one true is =
            let both : grips false n key ≡ grips true m k = sym (moved-now g new hold more r free (grips false n key) moves i is) ∙ e in
            let clash : false ≡ true = ap by_permit both in
            absurd cc
        by_one false is = sym (moves.others i is) ∙ e

    pub lends-grants : Grants (after (lends n) lock) new more (lends n ∷ changes)
    lends-grants = record {
      orderly = (tt, x.orderly);
      state = lent n lock changes x.state;
      names = λ m. names_lent m (m == n) (moves.sum m);
      unused = λ m l.
          let below : lock.next ≤ m = subst (λ (k : ℕ). k ≤ m) same_next l in
          let less : n < lock.next = x.given key n core in
          ap (λ (v : Bool). cond v (names_of m changes + 1) (names_of m changes)) (differ m n (λ e. omega (arith, below, less, e))) ∙ x.unused m below;
      there = λ i m p k e. by_one i m p k e (r == i) refl;
      keyed = λ j k m e is. x.keyed j k m e (sym (same_key_at m) ∙ is);
      given = λ j m e. subst (λ (k : ℕ). m < k) (sym same_next) (x.given j m e);
      apart = λ i j m a b e f. x.apart i j m a b (had i m a e) (had j m b f);
      holder = λ j m e w. let h = x.holder j m e w in (h.0, moves.others h.0 (other j m h.0 h.1 (r == h.0) refl) ∙ h.1);
    }
      where
        other : (j : List ℕ) (m i : ℕ) → g i ≡ grips true m j → (v : Bool) → (r == i) ≡ v → (r == i) ≡ false
        other j m i e true is = let none : free ≡ grips true m j = sym (moved-was g new hold more r free (grips false n key) moves i is) ∙ e in absurd cc
        other j m i e false is = is

        by_one : (i m : ℕ) (p : Bool) (k : List ℕ) → new i ≡ grips p m k → (v : Bool) → (r == i) ≡ v → key_at m (after (lends n) lock) ≡ Some k
        by_one i m p k e true is =
            let both : grips false n key ≡ grips p m k = sym (moved-now g new hold more r free (grips false n key) moves i is) ∙ e in
            let h = x.holder key n core waiting in
            same_key_at m ∙ ap (λ (c : ℕ). key_at c lock) (sym (ap grip_number both)) ∙ x.there h.0 n true key h.1 ∙ ap (λ (c : List ℕ). Some c) (ap grip_key both)
        by_one i m p k e false is = same_key_at m ∙ x.there i m p k (sym (moves.others i is) ∙ e)

  -- ---- a permit that is given

  module _ (sound : IsSound lock) where
    below_next : (n : ℕ) (k : List ℕ) (o : Option HeldCore) → get lock.cores n ≡ o → key_at n lock ≡ Some k → n < lock.next
    below_next n k None e is = let none : None ≡ Some k = sym (ap (λ (o : Option HeldCore). option_map key_in o) e) ∙ is in absurd cc
    below_next n k (Some c) e is = (sound n c e).0

    -- the number of a core that is held is below the next
    pub held-below : (i n : ℕ) (p : Bool) (k : List ℕ) → g i ≡ grips p n k → n < lock.next
    held-below i n p k e = below_next n k (get lock.cores n) refl (x.there i n p k e)

    pub keyed-below : (n : ℕ) (k : List ℕ) → key_at n lock ≡ Some k → n < lock.next
    keyed-below n k e = below_next n k (get lock.cores n) refl e

    module _ (new : ℕ → Grip) (more : ℕ → ℕ) (r : ℕ) (key : List ℕ) (stale : Bool) (t : MomentValue) (moves : Moves g new hold more r free (grips true lock.next key)) where
      not_used : IsOfKey lock.next changes → ⊥
      not_used k = let less : lock.next < lock.next = x.given k.0 lock.next k.1 in omega (arith, less)

      -- one that holds a core then is given it, or held it before
      held : (i m : ℕ) (p : Bool) (k : List ℕ) → new i ≡ grips p m k → (v : Bool) → (r == i) ≡ v
          → (((r == i) ≡ true) × (m ≡ lock.next) × (k ≡ key)) ⊎ (((r == i) ≡ false) × (g i ≡ grips p m k) × (m < lock.next))
      held i m p k e true is =
          let both : grips true lock.next key ≡ grips p m k = sym (moved-now g new hold more r free (grips true lock.next key) moves i is) ∙ e in
          inl (is, sym (ap grip_number both), sym (ap grip_key both))
      held i m p k e false is = let old : g i ≡ grips p m k = sym (moves.others i is) ∙ e in inr (is, old, held-below i m p k old)

      pub gives-grants : Grants (after (gives lock.next key stale t) lock) new more (gives lock.next key stale t ∷ changes)
      gives-grants = record {
        orderly = (not_used, x.orderly);
        state = begun lock.next key (given_core key stale t lock.age) lock stale t changes x.state not_used refl refl;
        names = λ m. names_given m (m == lock.next) refl (moves.sum m);
        unused = λ m l.
            ap (λ (v : Bool). cond v 1 (names_of m changes)) (differ m lock.next (λ e. omega (arith, l, e))) ∙ x.unused m (omega (arith, l));
        there = λ i m p k e. elim (held i m p k e (r == i) refl) [
          | inl one ↦ key-given m key stale t lock ∙ ap (λ (v : Bool). cond v (Some key) (key_at m lock)) (eq-eqb m lock.next one.1) ∙ ap (λ (c : List ℕ). Some c) (sym one.2)
          | inr old ↦ key-given m key stale t lock ∙ ap (λ (v : Bool). cond v (Some key) (key_at m lock)) (differ m lock.next (λ same. omega (arith, old.2, same))) ∙ x.there i m p k old.1
        ];
        keyed = λ j k m e is. keyed_given j k m (same_key j key) refl e (sym (key-given m key stale t lock) ∙ is);
        given = λ j m e. given_given j m (same_key j key) e;
        apart = λ i j m a b e f. elim (held i m true a e (r == i) refl) [
          | inl one ↦ elim (held j m true b f (r == j) refl) [
            | inl two ↦ sym (eqb-true r i one.0) ∙ eqb-true r j two.0
            | inr old ↦ absurd (omega (arith, old.2, one.1))
          ]
          | inr old ↦ elim (held j m true b f (r == j) refl) [
            | inl two ↦ absurd (omega (arith, old.2, two.1))
            | inr also ↦ x.apart i j m a b old.1 also.1
          ]
        ];
        holder = λ j m e w. holder_given j m (same_key j key) refl e w;
      }
        where
          names_given : (m : ℕ) (v : Bool) → (m == lock.next) ≡ v → more m + 0 ≡ hold m + cond v 1 0 → cond v 1 (names_of m changes) ≡ more m
          names_given m true is s =
              let a = x.names m in
              let same : m ≡ lock.next = eqb-true m lock.next is in
              let none : names_of m changes ≡ 0 = x.unused m (omega (arith, same)) in
              omega (arith, a, s, none)
          names_given m false is s = let a = x.names m in omega (arith, a, s)

          keyed_given : (j k : List ℕ) (m : ℕ) (v : Bool) → same_key j key ≡ v → cond v (Some lock.next) (core_of j changes) ≡ Some m
              → cond (m == lock.next) (Some key) (key_at m lock) ≡ Some k → k ≡ j
          keyed_given j k m true same e is =
              let number : lock.next ≡ m = cc in
              let there : Some key ≡ Some k = sym (ap (λ (v : Bool). cond v (Some key) (key_at m lock)) (eq-eqb m lock.next (sym number))) ∙ is in
              let one : key ≡ k = cc in
              sym one ∙ sym (key-true j key same)
          keyed_given j k m false same e is =
              let less : m < lock.next = x.given j m e in
              x.keyed j k m e (sym (ap (λ (v : Bool). cond v (Some key) (key_at m lock)) (differ m lock.next (λ c. omega (arith, less, c)))) ∙ is)

          given_given : (j : List ℕ) (m : ℕ) (v : Bool) → cond v (Some lock.next) (core_of j changes) ≡ Some m → m < lock.next + 1
          given_given j m true e = let number : lock.next ≡ m = cc in omega (arith, number)
          given_given j m false e = let less : m < lock.next = x.given j m e in omega (arith, less)

          not_taken : (i m : ℕ) (k : List ℕ) → g i ≡ grips true m k → (v : Bool) → (r == i) ≡ v → (r == i) ≡ false
          not_taken i m k e true is = let none : free ≡ grips true m k = sym (moved-was g new hold more r free (grips true lock.next key) moves i is) ∙ e in absurd cc
          not_taken i m k e false is = is

          holder_given : (j : List ℕ) (m : ℕ) (v : Bool) → same_key j key ≡ v → cond v (Some lock.next) (core_of j changes) ≡ Some m → cond (m == lock.next) Waiting (last_status m changes) ≡ Waiting
              → (i : ℕ) × (new i ≡ grips true m j)
          holder_given j m true same e w =
              let number : lock.next ≡ m = cc in
              (r, moves.now ∙ ap (λ (c : ℕ). grips true c key) number ∙ ap (λ (c : List ℕ). grips true m c) (sym (key-true j key same)))
          holder_given j m false same e w =
              let less : m < lock.next = x.given j m e in
              let h = x.holder j m e (sym (ap (λ (v : Bool). cond v Waiting (last_status m changes)) (differ m lock.next (λ c. omega (arith, less, c)))) ∙ w) in
              (h.0, moves.others h.0 (not_taken h.0 m j h.1 (r == h.0) refl) ∙ h.1)
