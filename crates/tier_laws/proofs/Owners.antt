-- Whose each number is: the key under which a write or a permit of that number came first. What an event changes is its own key's, or goes by what
-- its outcome lists; and then each key's writes and permits stay its own.
use Rattle.std.proofs.Common.{◌≡◌, ℕ, ◌≤◌, ◌<◌, refl, ap, sym, ◌∙◌, true, false, subst, cond, [], ◌∷◌, ◌++◌, ◌||◌, ◌==◌, length, arith}
use Rattle.std.specs.Prelude.{Bool, List, Option, Some, None, option_map, not, find}
use Rattle.std.specs.List.{AllByRecursion}
use Rattle.std.specs.Option.{option_or}
use Rattle.std.proofs.lemmas.Bool.{eqb-true, eq-eqb}
use Rattle.cache_entries.specs.Keys.{same_bytes}
use Rattle.cache_entries.specs.SameEntry.{same_bytes-tells}
use Rattle.cache_entries.specs.declared.entry.CacheEntryKey.{CacheEntryKey}
use Rattle.cache_changes.specs.Bound.{is_entry_of}
use Rattle.cache_changes.specs.Changes.{StoredKey, stored_key}
use Rattle.cache_changes.proofs.RowLaws.{find-passes}
use Rattle.cache_heads.specs.declared.meta.CacheMeta.{CacheMeta}
use Rattle.cache_lock.specs.declared.status.LockStatus.{LockStatus}
use Rattle.tier_model.specs.Keys.{Entry}
use Rattle.tier_promise.specs.Promise.{Write, Permit, Change, Changes, begins, appends, lands, renews, takes, gives, ends, has_number, with_meta, bytes_of, is_done, flying, body_of, ended, unless_is, waiting}
use Rattle.tier_laws.specs.Others.{lists}
use Rattle.tier_laws.proofs.Lists.{all-mapped, all-pushed, all-filtered, all-changed, found-holds}

abbrev pub owner : ℕ → Changes → Option StoredKey
owner n [] = None
owner n (begins w ∷ before) = option_or (owner n before) (cond (n == w.number) (Some (stored_key w.entry)) None)
owner n (_ ∷ before) = owner n before

abbrev pub granted : ℕ → Changes → Option StoredKey
granted n [] = None
granted n (gives p ∷ before) = option_or (granted n before) (cond (n == p.number) (Some p.key) None)
granted n (_ ∷ before) = granted n before

-- what an event may change: its key, the entries that its outcome lists, whether it gives a permit, whether it replaces what is stored of its key, and
-- whether it confirms that
pub record Scope : Type 0 where
  pub key : Option StoredKey
  pub gone : List CacheEntryKey
  pub gives : Bool
  pub replaces : Bool
  pub confirms : Bool

abbrev pub IsOwnWrite : Scope → ℕ → Changes → Type 0
IsOwnWrite s n c = (k : StoredKey) × (owner n c ≡ Some k) × (s.key ≡ Some k)

abbrev pub IsOwnPermit : Scope → ℕ → Changes → Type 0
IsOwnPermit s n c = (k : StoredKey) × (granted n c ≡ Some k) × (s.key ≡ Some k)

-- a change that comes after others is within it
abbrev pub Own : Scope → Change → Changes → Type 0
Own s (begins w) c = (w.number ≡ length c) × (s.key ≡ Some (stored_key w.entry))
Own s (appends n bytes last) c = IsOwnWrite s n c × (is_done n c ≡ false)
Own s (lands n true) c = IsOwnWrite s n c × (s.replaces ≡ true)
Own s (lands n false) c = IsOwnWrite s n c
Own s (renews n e meta) c = IsOwnWrite s n c × (s.confirms ≡ true)
Own s (takes e) c = (k : StoredKey) → is_entry_of k e ≡ true → lists k s.gone ≡ false → (s.key ≡ Some k) × (s.replaces ≡ true)
Own s (gives p) c = (p.number ≤ length c) × (granted p.number c ≡ None) × (s.key ≡ Some p.key) × (s.gives ≡ true)
Own s (ends n how) c = IsOwnPermit s n c
Own s _ c = Unit {0}

-- numbers are new when they come, and what is shown of a key or waits for it is its own
pub record AreOwned (c : Changes) : Type 0 where
  pub begun : (n : ℕ) (k : StoredKey) → owner n c ≡ Some k → n < length c
  pub given : (n : ℕ) (k : StoredKey) → granted n c ≡ Some k → n < length c
  pub over : (n : ℕ) (how : LockStatus) → ended n c ≡ Some how → (k : StoredKey) × (granted n c ≡ Some k)
  pub done : (n : ℕ) → is_done n c ≡ true → n < length c
  pub unwritten : (n : ℕ) → owner n c ≡ None → bytes_of n c ≡ []
  pub flies : (k : StoredKey) → AllByRecursion (λ w. owner w.number c ≡ Some k) (flying k c)
  pub stays : (k : StoredKey) (w : Write) → body_of k c ≡ Some w → (owner w.number c ≡ Some k) × (is_done w.number c ≡ true)
  pub waits : (k : StoredKey) (p : Permit) → waiting k c ≡ Some p → (granted p.number c ≡ Some k) × (ended p.number c ≡ None)

-- ---- words

pub or-true : (a b : Bool) → b ≡ true → (a || b) ≡ true
or-true true b e = refl
or-true false b e = e

pub number-kept : (n : ℕ) (e : Entry) (meta : CacheMeta) (w : Write) → (with_meta n e meta w).number ≡ w.number
number-kept n e meta w = by_test (n == w.number)
  where
    by_test : (t : Bool) → (cond t (record w { entry = e; meta = meta }) w).number ≡ w.number
    by_test true = refl
    by_test false = refl

pub owner-later : (n : ℕ) (k : StoredKey) (x : Change) (c : Changes) → owner n c ≡ Some k → owner n (x ∷ c) ≡ Some k
owner-later n k (begins w) c e = ap (λ (o : Option StoredKey). option_or o (cond (n == w.number) (Some (stored_key w.entry)) None)) e
owner-later n k _ c e = e

pub granted-later : (n : ℕ) (k : StoredKey) (x : Change) (c : Changes) → granted n c ≡ Some k → granted n (x ∷ c) ≡ Some k
granted-later n k (gives p) c e = ap (λ (o : Option StoredKey). option_or o (cond (n == p.number) (Some p.key) None)) e
granted-later n k _ c e = e

module _ (c : Changes) (o : AreOwned c) where
  -- a number that no write has yet
  pub owner-new : (n : ℕ) → length c ≤ n → owner n c ≡ None
  owner-new n l = by_owner (owner n c) refl
    where
      by_owner : (v : Option StoredKey) → owner n c ≡ v → v ≡ None
      by_owner None is = refl
      by_owner (Some k) is = let m = o.begun n k is in absurd (omega (arith, l, m))

  pub granted-new : (n : ℕ) → length c ≤ n → granted n c ≡ None
  granted-new n l = by_owner (granted n c) refl
    where
      by_owner : (v : Option StoredKey) → granted n c ≡ v → v ≡ None
      by_owner None is = refl
      by_owner (Some k) is = let m = o.given n k is in absurd (omega (arith, l, m))

  pub done-new : (n : ℕ) → length c ≤ n → is_done n c ≡ false
  done-new n l = by_done (is_done n c) refl
    where
      by_done : (v : Bool) → is_done n c ≡ v → v ≡ false
      by_done false is = refl
      by_done true is = let m = o.done n is in absurd (omega (arith, l, m))

  never-over : (n : ℕ) → granted n c ≡ None → ended n c ≡ None
  never-over n none = by_end (ended n c) refl
    where
      by_end : (v : Option LockStatus) → ended n c ≡ v → v ≡ None
      by_end None is = refl
      by_end (Some how) is = let g = o.over n how is in let no : None ≡ Some g.0 = sym none ∙ g.1 in absurd cc

-- ---- what a change leaves

module _ (s : Scope) (c : Changes) (o : AreOwned c) where
  begun-later : (x : Change) → Own s x c → (n : ℕ) (k : StoredKey) → owner n (x ∷ c) ≡ Some k → n < length (x ∷ c)
  begun-later (begins w) own n k e = by_owner (owner n c) refl e
    where
      by_number : (t : Bool) → (n == w.number) ≡ t → cond t (Some (stored_key w.entry)) None ≡ Some k → n < length (begins w ∷ c)
      by_number true t e = let same : n ≡ w.number = eqb-true n w.number t in let at = own.0 in omega (arith, same, at)
      by_number false t e = absurd cc

      by_owner : (v : Option StoredKey) → owner n c ≡ v → option_or v (cond (n == w.number) (Some (stored_key w.entry)) None) ≡ Some k → n < length (begins w ∷ c)
      by_owner (Some j) is e = let l = o.begun n j is in omega (arith, l)
      by_owner None is e = by_number (n == w.number) refl e
  begun-later _ own n k e = let l = o.begun n k e in omega (arith, l)

  given-later : (x : Change) → Own s x c → (n : ℕ) (k : StoredKey) → granted n (x ∷ c) ≡ Some k → n < length (x ∷ c)
  given-later (gives p) own n k e = by_owner (granted n c) refl e
    where
      by_number : (t : Bool) → (n == p.number) ≡ t → cond t (Some p.key) None ≡ Some k → n < length (gives p ∷ c)
      by_number true t e = let same : n ≡ p.number = eqb-true n p.number t in let at = own.0 in omega (arith, same, at)
      by_number false t e = absurd cc

      by_owner : (v : Option StoredKey) → granted n c ≡ v → option_or v (cond (n == p.number) (Some p.key) None) ≡ Some k → n < length (gives p ∷ c)
      by_owner (Some j) is e = let l = o.given n j is in omega (arith, l)
      by_owner None is e = by_number (n == p.number) refl e
  given-later _ own n k e = let l = o.given n k e in omega (arith, l)

  over-later : (x : Change) → Own s x c → (n : ℕ) (how : LockStatus) → ended n (x ∷ c) ≡ Some how → (k : StoredKey) × (granted n (x ∷ c) ≡ Some k)
  over-later (ends m h) own n how e = by_number (m == n) refl e
    where
      by_number : (t : Bool) → (m == n) ≡ t → cond t (Some h) (ended n c) ≡ Some how → (k : StoredKey) × (granted n c ≡ Some k)
      by_number true t e = (own.0, ap (λ (i : ℕ). granted i c) (sym (eqb-true m n t)) ∙ own.1)
      by_number false t e = o.over n how e
  over-later (gives p) own n how e = let g = o.over n how e in (g.0, granted-later n g.0 (gives p) c g.1)
  over-later _ own n how e = o.over n how e

  done-later : (x : Change) → Own s x c → (n : ℕ) → is_done n (x ∷ c) ≡ true → n < length (x ∷ c)
  done-later (appends m bytes true) own n e = by_number (m == n) refl e
    where
      by_number : (t : Bool) → (m == n) ≡ t → (t || is_done n c) ≡ true → n < length (appends m bytes true ∷ c)
      by_number true t e = let same : m ≡ n = eqb-true m n t in let l = o.begun m own.0.0 own.0.1 in omega (arith, same, l)
      by_number false t e = let l = o.done n e in omega (arith, l)
  done-later (lands m true) own n e = by_number (m == n) refl e
    where
      by_number : (t : Bool) → (m == n) ≡ t → (t || is_done n c) ≡ true → n < length (lands m true ∷ c)
      by_number true t e = let same : m ≡ n = eqb-true m n t in let l = o.begun m own.0.0 own.0.1 in omega (arith, same, l)
      by_number false t e = let l = o.done n e in omega (arith, l)
  done-later (lands m false) own n e = by_number (m == n) refl e
    where
      by_number : (t : Bool) → (m == n) ≡ t → (t || is_done n c) ≡ true → n < length (lands m false ∷ c)
      by_number true t e = let same : m ≡ n = eqb-true m n t in let l = o.begun m own.0 own.1 in omega (arith, same, l)
      by_number false t e = let l = o.done n e in omega (arith, l)
  done-later _ own n e = let l = o.done n e in omega (arith, l)

  unwritten-later : (x : Change) → Own s x c → (n : ℕ) → owner n (x ∷ c) ≡ None → bytes_of n (x ∷ c) ≡ []
  unwritten-later (begins w) own n e = by_owner (owner n c) refl e
    where
      by_owner : (v : Option StoredKey) → owner n c ≡ v → option_or v (cond (n == w.number) (Some (stored_key w.entry)) None) ≡ None → bytes_of n c ≡ []
      by_owner None is e = o.unwritten n is
      by_owner (Some j) is e = absurd cc
  unwritten-later (appends m bytes last) own n e = by_number (m == n) refl
    where
      by_number : (t : Bool) → (m == n) ≡ t → cond t (bytes_of n c ++ bytes) (bytes_of n c) ≡ []
      by_number true t = let clash : None ≡ Some own.0.0 = sym e ∙ ap (λ (i : ℕ). owner i c) (sym (eqb-true m n t)) ∙ own.0.1 in absurd cc
      by_number false t = o.unwritten n e
  unwritten-later _ own n e = o.unwritten n e

  -- of a key
  module _ (k : StoredKey) where
    abbrev Owned : Changes → Write → Type 0
    Owned d w = owner w.number d ≡ Some k

    flies-later : (x : Change) → Own s x c → AllByRecursion (Owned (x ∷ c)) (flying k (x ∷ c))
    flies-later (begins w) own = by_key (same_bytes (stored_key w.entry) k) refl (all-mapped (Owned c) (Owned (begins w ∷ c)) (flying k c) (λ v i. owner-later v.number k (begins w) c i) (o.flies k))
      where
        new : same_bytes (stored_key w.entry) k ≡ true → Owned (begins w ∷ c) w
        new t =
            let at = own.0 in
            ap (λ (y : Option StoredKey). option_or y (cond (w.number == w.number) (Some (stored_key w.entry)) None)) (owner-new c o w.number (omega (arith, at)))
            ∙ ap (λ (v : Bool). cond v (Some (stored_key w.entry)) None) (eq-eqb w.number w.number refl) ∙ ap (λ (j : StoredKey). Some j) (same_bytes-tells.equal (stored_key w.entry) k t)

        by_key : (t : Bool) → same_bytes (stored_key w.entry) k ≡ t → AllByRecursion (Owned (begins w ∷ c)) (flying k c) → AllByRecursion (Owned (begins w ∷ c)) (cond t (flying k c ++ w ∷ []) (flying k c))
        by_key true t old = all-pushed (Owned (begins w ∷ c)) (flying k c) w old (new t)
        by_key false t old = old
    flies-later (lands n whole) own = all-filtered (Owned c) (Owned (lands n whole ∷ c)) (λ w. not (has_number n w)) (flying k c) (λ w t i. i) (o.flies k)
    flies-later (renews n e meta) own =
        all-changed (Owned c) (Owned (renews n e meta ∷ c)) (with_meta n e meta) (flying k c) (λ w i. ap (λ (m : ℕ). owner m c) (number-kept n e meta w) ∙ i) (o.flies k)
    flies-later (takes e) own = by_key (is_entry_of k e)
      where
        by_key : (t : Bool) → AllByRecursion (Owned (takes e ∷ c)) (cond t [] (flying k c))
        by_key true = tt
        by_key false = o.flies k
    flies-later _ own = o.flies k

    abbrev Stays : Changes → Write → Type 0
    Stays d w = (owner w.number d ≡ Some k) × (is_done w.number d ≡ true)

    stays-later : (x : Change) → Own s x c → (w : Write) → body_of k (x ∷ c) ≡ Some w → Stays (x ∷ c) w
    stays-later (begins v) own w e = let y = o.stays k w e in (owner-later w.number k (begins v) c y.0, y.1)
    stays-later (appends n bytes true) own w e = let y = o.stays k w e in (y.0, or-true (n == w.number) (is_done w.number c) y.1)
    stays-later (appends n bytes false) own w e = o.stays k w e
    stays-later (lands n false) own w e = let y = o.stays k w e in (y.0, or-true (n == w.number) (is_done w.number c) y.1)
    stays-later (lands n true) own w e = by_found (find (has_number n) (flying k c)) refl e
      where
        by_found : (v : Option Write) → find (has_number n) (flying k c) ≡ v → option_or v (body_of k c) ≡ Some w → Stays (lands n true ∷ c) w
        by_found None is e = let y = o.stays k w e in (y.0, or-true (n == w.number) (is_done w.number c) y.1)
        by_found (Some v) is e =
            let one : v ≡ w = cc in
            subst (Stays (lands n true ∷ c)) one
            (found-holds (Owned c) (has_number n) (flying k c) v (o.flies k) is, ap (λ (t : Bool). t || is_done v.number c) (find-passes (has_number n) (flying k c) v is))
    stays-later (renews n e meta) own w is = by_body (body_of k c) refl is
      where
        by_body : (v : Option Write) → body_of k c ≡ v → option_map (with_meta n e meta) v ≡ Some w → Stays (renews n e meta ∷ c) w
        by_body None at is = absurd cc
        by_body (Some v) at is =
            let one : with_meta n e meta v ≡ w = cc in
            let y = o.stays k v at in
            let number = number-kept n e meta v in
            subst (Stays (renews n e meta ∷ c)) one (ap (λ (m : ℕ). owner m c) number ∙ y.0, ap (λ (m : ℕ). is_done m c) number ∙ y.1)
    stays-later (takes x) own w e = by_key (is_entry_of k x) e
      where
        by_key : (t : Bool) → cond t None (body_of k c) ≡ Some w → Stays (takes x ∷ c) w
        by_key true e = absurd cc
        by_key false e = o.stays k w e
    stays-later _ own w e = o.stays k w e

    abbrev Waits : Changes → Permit → Type 0
    Waits d p = (granted p.number d ≡ Some k) × (ended p.number d ≡ None)

    waits-later : (x : Change) → Own s x c → (p : Permit) → waiting k (x ∷ c) ≡ Some p → Waits (x ∷ c) p
    waits-later (gives g) own p e = by_key (same_bytes g.key k) refl e
      where
        new : same_bytes g.key k ≡ true → Waits (gives g ∷ c) g
        new t = (
          ap (λ (y : Option StoredKey). option_or y (cond (g.number == g.number) (Some g.key) None)) own.1 ∙ ap (λ (v : Bool). cond v (Some g.key) None) (eq-eqb g.number g.number refl)
              ∙ ap (λ (j : StoredKey). Some j) (same_bytes-tells.equal g.key k t),
          never-over c o g.number own.1,
        )

        by_key : (t : Bool) → same_bytes g.key k ≡ t → cond t (Some g) (waiting k c) ≡ Some p → Waits (gives g ∷ c) p
        by_key true t e = let one : g ≡ p = cc in subst (Waits (gives g ∷ c)) one (new t)
        by_key false t e = let y = o.waits k p e in (granted-later p.number k (gives g) c y.0, y.1)
    waits-later (ends n how) own p e = by_permit (waiting k c) refl e
      where
        by_number : (v : Permit) → waiting k c ≡ Some v → (t : Bool) → (n == v.number) ≡ t → cond t None (Some v) ≡ Some p → Waits (ends n how ∷ c) p
        by_number v is true t e = absurd cc
        by_number v is false t e =
            let one : v ≡ p = cc in
            let y = o.waits k v is in
            subst (Waits (ends n how ∷ c)) one (y.0, ap (λ (b : Bool). cond b (Some how) (ended v.number c)) t ∙ y.1)

        by_permit : (v : Option Permit) → waiting k c ≡ v → unless_is n v ≡ Some p → Waits (ends n how ∷ c) p
        by_permit None is e = absurd cc
        by_permit (Some v) is e = by_number v is (n == v.number) refl e
    waits-later _ own p e = o.waits k p e

  pub owned-later : (x : Change) → Own s x c → AreOwned (x ∷ c)
  owned-later x own = record {
    begun = begun-later x own;
    given = given-later x own;
    over = over-later x own;
    done = done-later x own;
    unwritten = unwritten-later x own;
    flies = λ k. flies-later k x own;
    stays = λ k w e. stays-later k x own w e;
    waits = λ k p e. waits-later k x own p e;
  }
