-- What changes within a scope leave of a key.
use Rattle.std.proofs.Common.{◌≡◌, ℕ, refl, ap, sym, ◌∙◌, true, false, cond, [], ◌∷◌, ◌++◌, ◌==◌, ◌||◌}
use Rattle.std.specs.Prelude.{Bool, List, Option, Some, None, option_map, not, find, filter, map}
use Rattle.std.specs.Option.{option_or}
use Rattle.std.proofs.lemmas.Bool.{eqb-true}
use Rattle.cache_entries.specs.Keys.{same_bytes}
use Rattle.cache_entries.specs.SameEntry.{same_bytes-tells}
use Rattle.cache_entries.specs.declared.entry.CacheEntryKey.{CacheEntryKey}
use Rattle.cache_changes.specs.Bound.{is_entry_of}
use Rattle.cache_changes.specs.Changes.{StoredKey, stored_key}
use Rattle.cache_changes.proofs.RowLaws.{find-passes}
use Rattle.tier_model.specs.Calls.{extended}
use Rattle.tier_promise.specs.Promise.{Write, Permit, Change, Changes, begins, appends, lands, renews, takes, gives, ends, has_number, with_meta, bytes_of, is_done, flying, body_of, unless_is, waiting}
use Rattle.tier_laws.specs.Others.{lists, KeepsBody}
use Rattle.tier_laws.proofs.Lists.{found-holds, none-found, all-kept, all-same}
use Rattle.tier_laws.proofs.Owners.{owner, granted, Scope, Own, IsOwnWrite, AreOwned, number-kept, owner-later, owned-later}
use Rattle.tier_laws.proofs.Turns.{InTurn, takes_one, takes_any}

-- what is no test passes fails
fails : (v : Bool) → (v ≡ true → ⊥) → v ≡ false
fails true not_so = absurd (not_so refl)
fails false not_so = refl

pub apart-number : (i j : ℕ) → (i ≡ j → ⊥) → (i == j) ≡ false
apart-number i j unequal = fails (i == j) (λ e. unequal (eqb-true i j e))

-- a key's own number is none of another key
two-owners : (n m : ℕ) (j k : StoredKey) (c : Changes) → owner n c ≡ Some j → owner m c ≡ Some k → (j ≡ k → ⊥) → (n == m) ≡ false
two-owners n m j k c a b unequal = apart-number n m (λ same. let one : Some j ≡ Some k = sym a ∙ ap (λ (i : ℕ). owner i c) same ∙ b in unequal cc)

-- of a key, what is as before
pub record IsSame (k : StoredKey) (old new : Changes) : Type 0 where
  pub flies : flying k new ≡ flying k old
  pub stays : body_of k new ≡ body_of k old
  pub bytes : (n : ℕ) → owner n old ≡ Some k → bytes_of n new ≡ bytes_of n old

-- nothing is stored of it
abbrev pub HasNone : StoredKey → Changes → Type 0
HasNone k c = (flying k c ≡ []) × (body_of k c ≡ None)

-- a change of another key
module _ (s : Scope) (k : StoredKey) (other : s.key ≡ Some k → ⊥) (c : Changes) (o : AreOwned c) where
  unlike : (j : StoredKey) → s.key ≡ Some j → same_bytes j k ≡ false
  unlike j key = fails (same_bytes j k) (λ same. other (key ∙ ap (λ (i : StoredKey). Some i) (same_bytes-tells.equal j k same)))

  -- a number of it is none of this key
  not-mine : (n m : ℕ) → IsOwnWrite s n c → owner m c ≡ Some k → (n == m) ≡ false
  not-mine n m own mine = two-owners n m own.0 k c own.1 mine (λ same. other (own.2 ∙ ap (λ (i : StoredKey). Some i) same))

  flies-same : (x : Change) → Own s x c → lists k s.gone ≡ false → flying k (x ∷ c) ≡ flying k c
  flies-same (begins w) own others = ap (λ (v : Bool). cond v (flying k c ++ w ∷ []) (flying k c)) (unlike (stored_key w.entry) own.1)
  flies-same (lands n true) own others =
      all-kept (λ w. owner w.number c ≡ Some k) (λ w. not (has_number n w)) (flying k c) (λ w mine. ap not (not-mine n w.number own.0 mine)) (o.flies k)
  flies-same (lands n false) own others =
      all-kept (λ w. owner w.number c ≡ Some k) (λ w. not (has_number n w)) (flying k c) (λ w mine. ap not (not-mine n w.number own mine)) (o.flies k)
  flies-same (renews n e meta) own others =
      all-same (λ w. owner w.number c ≡ Some k) (with_meta n e meta) (flying k c)
      (λ w mine. ap (λ (v : Bool). cond v (record w { entry = e; meta = meta }) w) (not-mine n w.number own.0 mine)) (o.flies k)
  flies-same (takes e) own others = ap (λ (v : Bool). cond v [] (flying k c)) (fails (is_entry_of k e) (λ is. other (own k is others).0))
  flies-same _ own others = refl

  stays-same : (x : Change) → Own s x c → lists k s.gone ≡ false → body_of k (x ∷ c) ≡ body_of k c
  stays-same (lands n true) own others =
      ap (λ (v : Option Write). option_or v (body_of k c))
      (none-found (λ w. owner w.number c ≡ Some k) (has_number n) (flying k c) (λ w mine. not-mine n w.number own.0 mine) (o.flies k))
  stays-same (lands n false) own others = refl
  stays-same (renews n e meta) own others = by_body (body_of k c) refl
    where
      by_body : (v : Option Write) → body_of k c ≡ v → option_map (with_meta n e meta) v ≡ v
      by_body None is = refl
      by_body (Some w) is =
          ap (λ (y : Write). Some y) (ap (λ (v : Bool). cond v (record w { entry = e; meta = meta }) w) (not-mine n w.number own.0 (o.stays k w is).0))
  stays-same (takes e) own others = ap (λ (v : Bool). cond v None (body_of k c)) (fails (is_entry_of k e) (λ is. other (own k is others).0))
  stays-same _ own others = refl

  bytes-same : (x : Change) → Own s x c → (n : ℕ) → owner n c ≡ Some k → bytes_of n (x ∷ c) ≡ bytes_of n c
  bytes-same (appends m bytes last) own n mine = ap (λ (v : Bool). cond v (bytes_of n c ++ bytes) (bytes_of n c)) (not-mine m n own.0 mine)
  bytes-same _ own n mine = refl

  waits-same : (x : Change) → Own s x c → waiting k (x ∷ c) ≡ waiting k c
  waits-same (gives p) own = ap (λ (v : Bool). cond v (Some p) (waiting k c)) (unlike p.key own.2)
  waits-same (ends n how) own = by_permit (waiting k c) refl
    where
      by_permit : (v : Option Permit) → waiting k c ≡ v → unless_is n v ≡ v
      by_permit None is = refl
      by_permit (Some p) is =
          let mine = (o.waits k p is).0 in
          ap (λ (v : Bool). cond v None (Some p))
          (apart-number n p.number (λ same. let one : Some own.0 ≡ Some k = sym own.1 ∙ ap (λ (i : ℕ). granted i c) same ∙ mine in other (own.2 ∙ one)))
  waits-same _ own = refl

  -- what is gone stays so
  gone-later : (x : Change) → Own s x c → HasNone k c → HasNone k (x ∷ c)
  gone-later (begins w) own g = (ap (λ (v : Bool). cond v (flying k c ++ w ∷ []) (flying k c)) (unlike (stored_key w.entry) own.1) ∙ g.0, g.1)
  gone-later (lands n true) own g = (ap (filter (λ w. not (has_number n w))) g.0, ap (λ (ws : List Write). option_or (find (has_number n) ws) (body_of k c)) g.0 ∙ g.1)
  gone-later (lands n false) own g = (ap (filter (λ w. not (has_number n w))) g.0, g.1)
  gone-later (renews n e meta) own g = (ap (map (with_meta n e meta)) g.0, ap (option_map (with_meta n e meta)) g.1)
  gone-later (takes e) own g = by_key (is_entry_of k e)
    where
      by_key : (v : Bool) → (cond v [] (flying k c) ≡ []) × (cond v None (body_of k c) ≡ None)
      by_key true = (refl, refl)
      by_key false = g
  gone-later _ own g = g

taken-none : (k : StoredKey) (x : Change) (c : Changes) → takes_one k x ≡ true → HasNone k (x ∷ c)
taken-none k (takes e) c is = (ap (λ (v : Bool). cond v [] (flying k c)) is, ap (λ (v : Bool). cond v None (body_of k c)) is)
taken-none k _ c is = absurd cc

-- changes in turn
module _ (s : Scope) (k : StoredKey) (other : s.key ≡ Some k → ⊥) where
  pub turn-same : (xs : List Change) (c : Changes) → AreOwned c → InTurn s xs c → lists k s.gone ≡ false → IsSame k c (extended c xs)
  turn-same [] c o t others = record { flies = refl; stays = refl; bytes = λ n mine. refl }
  turn-same (x ∷ xs) c o t others =
      let rest = turn-same xs (x ∷ c) (owned-later s c o x t.0) t.1 others in
      record {
        flies = rest.flies ∙ flies-same s k other c o x t.0 others;
        stays = rest.stays ∙ stays-same s k other c o x t.0 others;
        bytes = λ n mine. rest.bytes n (owner-later n k x c mine) ∙ bytes-same s k other c o x t.0 n mine;
      }

  pub turn-waits : (xs : List Change) (c : Changes) → AreOwned c → InTurn s xs c → waiting k (extended c xs) ≡ waiting k c
  turn-waits [] c o t = refl
  turn-waits (x ∷ xs) c o t = turn-waits xs (x ∷ c) (owned-later s c o x t.0) t.1 ∙ waits-same s k other c o x t.0

  turn-gone : (xs : List Change) (c : Changes) → AreOwned c → InTurn s xs c → HasNone k c → HasNone k (extended c xs)
  turn-gone [] c o t g = g
  turn-gone (x ∷ xs) c o t g = turn-gone xs (x ∷ c) (owned-later s c o x t.0) t.1 (gone-later s k other c o x t.0 g)

  pub turn-taken : (xs : List Change) (c : Changes) → AreOwned c → InTurn s xs c → takes_any k xs ≡ true → HasNone k (extended c xs)
  turn-taken [] c o t e = absurd cc
  turn-taken (x ∷ xs) c o t e = by_test (takes_one k x) refl e (turn-taken xs (x ∷ c) (owned-later s c o x t.0) t.1)
    where
      by_test : (v : Bool) → takes_one k x ≡ v → (v || takes_any k xs) ≡ true → (takes_any k xs ≡ true → HasNone k (extended (x ∷ c) xs)) → HasNone k (extended (x ∷ c) xs)
      by_test true is e ih = turn-gone xs (x ∷ c) (owned-later s c o x t.0) t.1 (taken-none k x c is)
      by_test false is e ih = ih e

-- a change of whatever key, that replaces nothing of this one
module _ (s : Scope) (k : StoredKey) (spared : s.key ≡ Some k → s.replaces ≡ false) (others : lists k s.gone ≡ false) where
  not-replaced : s.key ≡ Some k → s.replaces ≡ true → ⊥
  not-replaced key so = let no : true ≡ false = sym so ∙ spared key in absurd cc

  -- none of its writes lands as a body
  none-lands : (n : ℕ) (c : Changes) → AreOwned c → Own s (lands n true) c → find (has_number n) (flying k c) ≡ None
  none-lands n c o own = by_found (find (has_number n) (flying k c)) refl
    where
      by_found : (v : Option Write) → find (has_number n) (flying k c) ≡ v → v ≡ None
      by_found None f = refl
      by_found (Some v) f =
          let mine = found-holds (λ y. owner y.number c ≡ Some k) (has_number n) (flying k c) v (o.flies k) f in
          let number : n ≡ v.number = eqb-true n v.number (find-passes (has_number n) (flying k c) v f) in
          let one : Some own.0.0 ≡ Some k = sym own.0.1 ∙ ap (λ (i : ℕ). owner i c) number ∙ mine in
          absurd (not-replaced (own.0.2 ∙ one) own.1)

  none-taken : (e : CacheEntryKey) (c : Changes) → Own s (takes e) c → is_entry_of k e ≡ false
  none-taken e c own = fails (is_entry_of k e) (λ mine. let y = own k mine others in not-replaced y.0 y.1)

  keeps-one : (x : Change) (c : Changes) → AreOwned c → Own s x c → (w : Write) → body_of k c ≡ Some w → KeepsBody k w c (x ∷ c)
  keeps-one (appends n bytes last) c o own w is =
      let done = (o.stays k w is).1 in (
        w,
        is,
        refl,
        ap (λ (v : Bool). cond v (bytes_of w.number c ++ bytes) (bytes_of w.number c))
            (apart-number n w.number (λ same. let no : false ≡ true = sym own.1 ∙ ap (λ (i : ℕ). is_done i c) same ∙ done in absurd cc)),
      )
  keeps-one (lands n true) c o own w is = (w, ap (λ (v : Option Write). option_or v (body_of k c)) (none-lands n c o own) ∙ is, refl, refl)
  keeps-one (lands n false) c o own w is = (w, is, refl, refl)
  keeps-one (renews n e meta) c o own w is = (with_meta n e meta w, ap (option_map (with_meta n e meta)) is, number-kept n e meta w, refl)
  keeps-one (takes e) c o own w is =
      (w, ap (λ (v : Bool). cond v None (body_of k c)) (none-taken e c own) ∙ is, refl, refl)
  keeps-one _ c o own w is = (w, is, refl, refl)

  pub turn-keeps : (xs : List Change) (c : Changes) → AreOwned c → InTurn s xs c → (w : Write) → body_of k c ≡ Some w → KeepsBody k w c (extended c xs)
  turn-keeps [] c o t w is = (w, is, refl, refl)
  turn-keeps (x ∷ xs) c o t w is =
      let one = keeps-one x c o t.0 w is in
      let rest = turn-keeps xs (x ∷ c) (owned-later s c o x t.0) t.1 one.0 one.1 in
      (rest.0, rest.1, rest.2 ∙ one.2, ap (λ (n : ℕ). bytes_of n (extended (x ∷ c) xs)) (sym one.2) ∙ rest.3 ∙ ap (λ (n : ℕ). bytes_of n (x ∷ c)) one.2 ∙ one.3)

  -- the same, and it confirms nothing of this key
  module _ (unconfirmed : s.key ≡ Some k → s.confirms ≡ false) where
    same-one : (x : Change) (c : Changes) → AreOwned c → Own s x c → (w : Write) → body_of k c ≡ Some w → body_of k (x ∷ c) ≡ Some w
    same-one (lands n true) c o own w is = ap (λ (v : Option Write). option_or v (body_of k c)) (none-lands n c o own) ∙ is
    same-one (lands n false) c o own w is = is
    same-one (renews n e meta) c o own w is =
        ap (option_map (with_meta n e meta)) is
        ∙ ap (λ (y : Write). Some y) (ap (λ (v : Bool). cond v (record w { entry = e; meta = meta }) w) (apart-number n w.number clash))
      where
        clash : n ≡ w.number → ⊥
        clash same =
            let one : Some own.0.0 ≡ Some k = sym own.0.1 ∙ ap (λ (i : ℕ). owner i c) same ∙ (o.stays k w is).0 in
            let both : true ≡ false = sym own.1 ∙ unconfirmed (own.0.2 ∙ one) in
            absurd cc
    same-one (takes e) c o own w is = ap (λ (v : Bool). cond v None (body_of k c)) (none-taken e c own) ∙ is
    same-one _ c o own w is = is

    pub turn-unconfirmed : (xs : List Change) (c : Changes) → AreOwned c → InTurn s xs c → (w : Write) → body_of k c ≡ Some w → body_of k (extended c xs) ≡ Some w
    turn-unconfirmed [] c o t w is = is
    turn-unconfirmed (x ∷ xs) c o t w is = turn-unconfirmed xs (x ∷ c) (owned-later s c o x t.0) t.1 w (same-one x c o t.0 w is)
