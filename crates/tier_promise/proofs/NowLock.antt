-- Permits are what the changes of the lock leave of them, change by change.
use Rattle.std.proofs.Common.{◌≡◌, ℕ, ◌+◌, ◌≤◌, ◌<◌, refl, ap, sym, ◌∙◌, true, false, cond, ◌∷◌, ◌==◌, length, arith}
use Rattle.std.specs.Prelude.{Bool, Option, Some, None}
use Rattle.std.proofs.lemmas.Bool.{eqb-true, eq-eqb}
use Rattle.cache_changes.specs.Changes.{StoredKey}
use Rattle.cache_entries.specs.Keys.{same_bytes}
use Rattle.cache_entries.specs.SameEntry.{same_bytes-tells, same-sym}
use Rattle.cache_lock.specs.Changes.{Changes as LockChanges, stores, takes_out, spends, lends}
use Rattle.cache_lock.specs.Changes as lock
use Rattle.cache_lock.specs.Status.{is_waiting}
use Rattle.cache_lock.specs.Waits.{same_key, last_status, core_of}
use Rattle.cache_lock.specs.declared.status.LockStatus.{LockStatus}
use Rattle.cache_lock.specs.declared.status.LockStatus.TheVariants as status
use Rattle.tier_promise.specs.Promise.{Permit, Changes, gives, ends, ended, waiting, unless_is}
use Rattle.tier_model.proofs.BeganLaws.{began_at}
use Rattle.tier_promise.proofs.NowFits.{Permits, end_of, waiting_of, LockFits}
use Rattle.tier_promise.proofs.NowShelf.{apart_number}

itself : (n : ℕ) → (n == n) ≡ true
itself n = eq-eqb n n refl

-- ---- what the changes of the lock leave alone

module _ (permits : Permits) (locks : LockChanges) (next : ℕ) (c : Changes) (f : LockFits permits locks next c) where
  -- changes that are none of the lock
  pub lock-same : (then : Changes) → length c ≤ length then → ((m : ℕ) → ended m then ≡ ended m c) → ((k : StoredKey) → waiting k then ≡ waiting k c) → LockFits permits locks next then
  lock-same then longer over waits = record {
    below = λ n p h. let b = f.below n p h in (b.0, omega (arith, b.1, longer));
    apart = f.apart;
    fresh = λ m h. over m ∙ f.fresh m (omega (arith, h, longer));
    ends = λ n p h. over p.number ∙ f.ends n p h;
    given = f.given;
    waits = λ k. waits k ∙ f.waits k;
  }

  -- a read lock is given, or a lock is handed back
  pub lock-lent : (n : ℕ) → LockFits permits (lends n ∷ locks) next c
  lock-lent n = record { below = f.below; apart = f.apart; fresh = f.fresh; ends = f.ends; given = f.given; waits = f.waits }

  pub lock-spent : (n : ℕ) → LockFits permits (spends n ∷ locks) next c
  lock-spent n = record { below = f.below; apart = f.apart; fresh = f.fresh; ends = f.ends; given = f.given; waits = f.waits }

  pub lock-later : (later : ℕ) → next ≤ later → LockFits permits locks later c
  lock-later later l = record {
    below = λ n p h. let b = f.below n p h in (omega (arith, b.0, l), b.1);
    apart = f.apart;
    fresh = f.fresh;
    ends = f.ends;
    given = f.given;
    waits = f.waits;
  }

  -- ---- a permit ends

  module _ (n : ℕ) (p : Permit) (named : permits n ≡ Some p) (how : LockStatus) (over : end_of how ≡ Some how) (not_waiting : is_waiting how ≡ false) where
    -- numbers are one where those in the changes are
    same-permit : (m : ℕ) (q : Permit) → permits m ≡ Some q → (p.number == q.number) ≡ (m == n)
    same-permit m q h = by_tests (p.number == q.number) (m == n) refl refl
      where
        by_tests : (u v : Bool) → (p.number == q.number) ≡ u → (m == n) ≡ v → u ≡ v
        by_tests true true s t = refl
        by_tests false false s t = refl
        by_tests true false s t =
            let same : n ≡ m = f.apart n m p q named h (eqb-true p.number q.number s) in
            let yes : (m == n) ≡ true = eq-eqb m n (sym same) in
            absurd cc
        by_tests false true s t =
            let one : Some q ≡ Some p = sym h ∙ ap permits (eqb-true m n t) ∙ named in
            let same : q ≡ p = cc in
            let yes : (p.number == q.number) ≡ true = eq-eqb p.number q.number (ap (λ (r : Permit). r.number) (sym same)) in
            absurd cc

    ends_of : (m : ℕ) (q : Permit) → permits m ≡ Some q → cond (p.number == q.number) (Some how) (ended q.number c) ≡ end_of (cond (m == n) how (last_status m locks))
    ends_of m q h = ap (λ (v : Bool). cond v (Some how) (ended q.number c)) (same-permit m q h) ∙ by_test (m == n)
      where
        by_test : (v : Bool) → cond v (Some how) (ended q.number c) ≡ end_of (cond v how (last_status m locks))
        by_test true = sym over
        by_test false = f.ends m q h

    waits_of : (o : Option ℕ) → unless_is p.number (waiting_of permits locks o) ≡ waiting_of permits (stores n how ∷ locks) o
    waits_of None = refl
    waits_of (Some m) = by_number (permits m) refl (m == n) refl (is_waiting (last_status m locks)) refl
      where
        by_number : (o : Option Permit) → permits m ≡ o → (v : Bool) → (m == n) ≡ v → (w : Bool) → is_waiting (last_status m locks) ≡ w
            → unless_is p.number (cond w o None) ≡ cond (is_waiting (cond v how (last_status m locks))) o None
        by_number o is true t w e = by_wait w ∙ sym (ap (λ (u : Bool). cond u o None) not_waiting)
          where
            at : o ≡ Some p
            at = sym is ∙ ap permits (eqb-true m n t) ∙ named

            by_wait : (w : Bool) → unless_is p.number (cond w o None) ≡ None
            by_wait false = refl
            by_wait true = ap (unless_is p.number) at ∙ ap (λ (u : Bool). cond u None (Some p)) (itself p.number)
        by_number None is false t true e = sym (ap (λ (u : Bool). cond u None None) e)
        by_number None is false t false e = sym (ap (λ (u : Bool). cond u None None) e)
        by_number (Some q) is false t true e = ap (λ (u : Bool). cond u None (Some q)) (same-permit m q is ∙ t) ∙ sym (ap (λ (u : Bool). cond u (Some q) None) e)
        by_number (Some q) is false t false e = sym (ap (λ (u : Bool). cond u (Some q) None) e)

    pub lock-stores : LockFits permits (stores n how ∷ locks) next (ends p.number how ∷ c)
    lock-stores = record {
      below = λ m q h. let b = f.below m q h in (b.0, omega (arith, b.1));
      apart = f.apart;
      fresh = λ m h.
          let none : (p.number == m) ≡ false = apart_number p.number m (λ e. let b = (f.below n p named).1 in absurd (omega (arith, e, b, h))) in
          ap (λ (v : Bool). cond v (Some how) (ended m c)) none ∙ f.fresh m (omega (arith, h));
      ends = ends_of;
      given = f.given;
      waits = λ k. ap (unless_is p.number) (f.waits k) ∙ waits_of (core_of k locks);
    }

  -- a key has no core any more, where the one that it had doesn't wait
  taken_of : (k key : StoredKey) (v : Bool) → ((n : ℕ) → core_of key locks ≡ Some n → is_waiting (last_status n locks) ≡ false) → same_key k key ≡ v
      → waiting_of permits locks (core_of k locks) ≡ waiting_of permits locks (cond v None (core_of k locks))
  taken_of k key false gone t = refl
  taken_of k key true gone t = by_core (core_of k locks) refl
    where
      at : k ≡ key
      at = same_bytes-tells.equal k key t

      by_core : (o : Option ℕ) → core_of k locks ≡ o → waiting_of permits locks o ≡ None
      by_core None e = refl
      by_core (Some n) e = ap (λ (u : Bool). cond u (permits n) None) (gone n (ap (λ (j : StoredKey). core_of j locks) (sym at) ∙ e))

  pub lock-takes : (key : StoredKey) → ((n : ℕ) → core_of key locks ≡ Some n → is_waiting (last_status n locks) ≡ false) → LockFits permits (takes_out key ∷ locks) next c
  lock-takes key gone = record {
    below = f.below;
    apart = f.apart;
    fresh = f.fresh;
    ends = f.ends;
    given = f.given;
    waits = λ k. f.waits k ∙ taken_of k key (same_key k key) gone refl;
  }

-- a status is stored, and the key has no core any more, in either order
pub lock-swap : (permits : Permits) (locks : LockChanges) (next : ℕ) (c : Changes) (n : ℕ) (how : LockStatus) (key : StoredKey) → LockFits permits (takes_out key ∷ stores n how ∷ locks) next c
    → LockFits permits (stores n how ∷ takes_out key ∷ locks) next c
lock-swap permits locks next c n how key f = record { below = f.below; apart = f.apart; fresh = f.fresh; ends = f.ends; given = f.given; waits = λ k. f.waits k ∙ by_core k (same_key k key) (core_of k locks) }
  where
    by_core : (k : StoredKey) (v : Bool) (o : Option ℕ) → waiting_of permits (takes_out key ∷ stores n how ∷ locks) (cond v None o) ≡ waiting_of permits (stores n how ∷ takes_out key ∷ locks) (cond v None o)
    by_core k true o = refl
    by_core k false None = refl
    by_core k false (Some m) = refl

-- ---- a permit is given

-- with a permit more
abbrev pub with_permit : ℕ → Permit → Permits → Permits
with_permit n p permits = λ i. cond (i == n) (Some p) (permits i)

module _ (permits : Permits) (locks : LockChanges) (next : ℕ) (c : Changes) (f : LockFits permits locks next c) (p : Permit) (stale : Bool) (new : p.number ≤ length c) (not_ended : ended p.number c ≡ None)
    (alone : (i : ℕ) (q : Permit) → permits i ≡ Some q → q.number ≡ p.number → ⊥) (known : (k : StoredKey) (n : ℕ) → core_of k locks ≡ Some n → n < next) where
  abbrev more : Permits
  more = with_permit next p permits

  pub permit-more : (i : ℕ) (q : Permit) → permits i ≡ Some q → more i ≡ Some q
  permit-more i q h = ap (λ (v : Bool). cond v (Some p) (permits i)) (apart_number i next (λ e. let b = (f.below i q h).0 in absurd (omega (arith, b, e)))) ∙ h

  pub permit-new : more next ≡ Some p
  permit-new = ap (λ (v : Bool). cond v (Some p) (permits next)) (itself next)

  abbrev Of : (ℕ → Permit → Type 0) → Type 0
  Of P = (i : ℕ) (q : Permit) (v : Bool) → (i == next) ≡ v → cond v (Some p) (permits i) ≡ Some q → P i q

  new_below : Of (λ i q. (i < next + 1) × (q.number < length (gives p ∷ c)))
  new_below i q true t h = let at : i ≡ next = eqb-true i next t in let same : p ≡ q = cc in let number : p.number ≡ q.number = ap (λ (r : Permit). r.number) same in (omega (arith, at), omega (arith, number, new))
  new_below i q false t h = let b = f.below i q h in (omega (arith, b.0), omega (arith, b.1))

  new_ends : Of (λ i q. ended q.number c ≡ end_of (cond (i == next) status.Waiting (last_status i locks)))
  new_ends i q true t h = let same : p ≡ q = cc in ap (λ (r : Permit). ended r.number c) (sym same) ∙ not_ended ∙ sym (ap (λ (v : Bool). end_of (cond v status.Waiting (last_status i locks))) t)
  new_ends i q false t h = f.ends i q h ∙ sym (ap (λ (v : Bool). end_of (cond v status.Waiting (last_status i locks))) t)

  new_given : Of (λ i q. cond (i == next) (Some p.given) (began_at i locks) ≡ Some q.given)
  new_given i q true t h = let same : p ≡ q = cc in ap (λ (v : Bool). cond v (Some p.given) (began_at i locks)) t ∙ ap (λ (r : Permit). Some r.given) same
  new_given i q false t h = ap (λ (v : Bool). cond v (Some p.given) (began_at i locks)) t ∙ f.given i q h

  new_apart : (i j : ℕ) (q r : Permit) (u v : Bool) → (i == next) ≡ u → (j == next) ≡ v → cond u (Some p) (permits i) ≡ Some q → cond v (Some p) (permits j) ≡ Some r → q.number ≡ r.number → i ≡ j
  new_apart i j q r true true s t g h e = eqb-true i next s ∙ sym (eqb-true j next t)
  new_apart i j q r true false s t g h e = let same : p ≡ q = cc in absurd (alone j r h (sym e ∙ ap (λ (x : Permit). x.number) (sym same)))
  new_apart i j q r false true s t g h e = let same : p ≡ r = cc in absurd (alone i q g (e ∙ ap (λ (x : Permit). x.number) (sym same)))
  new_apart i j q r false false s t g h e = f.apart i j q r g h e

  -- the core of another key is another
  old_core : (k : StoredKey) (o : Option ℕ) → core_of k locks ≡ o → waiting_of permits locks o ≡ waiting_of more (lock.gives next p.key stale p.given ∷ locks) o
  old_core k None e = refl
  old_core k (Some m) e =
      let other : (m == next) ≡ false = apart_number m next (λ h. let b = known k m e in absurd (omega (arith, b, h))) in
      sym (ap (λ (v : Bool). cond (is_waiting (cond v status.Waiting (last_status m locks))) (cond v (Some p) (permits m)) None) other)

  new_waits : (k : StoredKey) (v : Bool) → same_bytes p.key k ≡ v → cond v (Some p) (waiting k c) ≡ waiting_of more (lock.gives next p.key stale p.given ∷ locks) (cond v (Some next) (core_of k locks))
  new_waits k true t = sym (ap (λ (v : Bool). cond (is_waiting (cond v status.Waiting (last_status next locks))) (cond v (Some p) (permits next)) None) (itself next))
  new_waits k false t = f.waits k ∙ old_core k (core_of k locks) refl

  pub lock-gives : LockFits more (lock.gives next p.key stale p.given ∷ locks) (next + 1) (gives p ∷ c)
  lock-gives = record {
    below = λ i q h. new_below i q (i == next) refl h;
    apart = λ i j q r g h e. new_apart i j q r (i == next) (j == next) refl refl g h e;
    fresh = λ m h. f.fresh m (omega (arith, h));
    ends = λ i q h. new_ends i q (i == next) refl h;
    given = λ i q h. new_given i q (i == next) refl h;
    waits = λ k. new_waits k (same_bytes p.key k) refl
        ∙ ap (λ (v : Bool). waiting_of more (lock.gives next p.key stale p.given ∷ locks) (cond v (Some next) (core_of k locks))) (same-sym same_bytes same_bytes-tells p.key k);
  }
