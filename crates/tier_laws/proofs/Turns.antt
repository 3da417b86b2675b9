-- Changes that come in turn, each within one scope.
use Rattle.std.proofs.Common.{◌≡◌, ℕ, refl, ap, sym, ◌∙◌, true, false, cond, [], ◌∷◌, ◌++◌, ◌||◌}
use Rattle.std.specs.Prelude.{Bool, List, Some, is_some, map}
use Rattle.cache_entries.specs.SameEntry.{same_bytes-tells}
use Rattle.cache_entries.specs.declared.entry.CacheEntryKey.{CacheEntryKey}
use Rattle.cache_changes.specs.Bound.{is_entry_of}
use Rattle.cache_changes.specs.Changes.{StoredKey, stored_key}
use Rattle.cache_lock.specs.declared.status.LockStatus.{LockStatus}
use Rattle.tier_model.specs.Keys.{Entry, alone}
use Rattle.tier_model.specs.Calls.{extended}
use Rattle.tier_promise.specs.Promise.{Change, Changes, takes, ends, Hold, no_lock, holds, waits, ended, released, dropped}
use Rattle.tier_laws.specs.Others.{lists}
use Rattle.tier_laws.proofs.Owners.{owner, granted, Scope, Own, AreOwned, owner-later, granted-later, owned-later}

abbrev pub InTurn : Scope → List Change → Changes → Type 0
InTurn s [] c = Unit {0}
InTurn s (x ∷ xs) c = Own s x c × InTurn s xs (x ∷ c)

pub in-turn-both : (s : Scope) (xs ys : List Change) (c : Changes) → InTurn s xs c → InTurn s ys (extended c xs) → InTurn s (xs ++ ys) c
in-turn-both s [] ys c a b = b
in-turn-both s (x ∷ xs) ys c a b = (a.0, in-turn-both s xs ys (x ∷ c) a.1 b)

pub owner-kept : (n : ℕ) (k : StoredKey) (xs : List Change) (c : Changes) → owner n c ≡ Some k → owner n (extended c xs) ≡ Some k
owner-kept n k [] c e = e
owner-kept n k (x ∷ xs) c e = owner-kept n k xs (x ∷ c) (owner-later n k x c e)

pub granted-kept : (n : ℕ) (k : StoredKey) (xs : List Change) (c : Changes) → granted n c ≡ Some k → granted n (extended c xs) ≡ Some k
granted-kept n k [] c e = e
granted-kept n k (x ∷ xs) c e = granted-kept n k xs (x ∷ c) (granted-later n k x c e)

pub owned-kept : (s : Scope) (xs : List Change) (c : Changes) → AreOwned c → InTurn s xs c → AreOwned (extended c xs)
owned-kept s [] c o t = o
owned-kept s (x ∷ xs) c o t = owned-kept s xs (x ∷ c) (owned-later s c o x t.0) t.1

-- ---- what goes

pub both-false : (a b : Bool) → (a || b) ≡ false → (a ≡ false) × (b ≡ false)
both-false false b e = (refl, e)
both-false true b e = absurd cc

-- what is listed
pub listed-in-turn : (s : Scope) (es : List CacheEntryKey) (c : Changes) → ((k : StoredKey) → lists k s.gone ≡ false → lists k es ≡ false) → InTurn s (map takes es) c
listed-in-turn s [] c all = tt
listed-in-turn s (e ∷ es) c all =
    let both = λ (k : StoredKey) (others : lists k s.gone ≡ false). both-false (is_entry_of k e) (lists k es) (all k others) in
    (λ k is others. let clash : true ≡ false = sym is ∙ (both k others).0 in absurd cc, listed-in-turn s es (takes e ∷ c) (λ k others. (both k others).1))

-- the event's own entry, where it replaces what is stored
pub own-goes : (s : Scope) (e : Entry) (c : Changes) → s.key ≡ Some (stored_key e) → s.replaces ≡ true → Own s (takes (alone e)) c
own-goes s e c key so = λ k is others. (key ∙ ap (λ (j : StoredKey). Some j) (same_bytes-tells.equal (stored_key e) k is), so)

-- one of the changes takes an entry of k
abbrev pub takes_one : StoredKey → Change → Bool
takes_one k (takes e) = is_entry_of k e
takes_one k _ = false

abbrev pub takes_any : StoredKey → List Change → Bool
takes_any k [] = false
takes_any k (x ∷ xs) = takes_one k x || takes_any k xs

pub any-listed : (k : StoredKey) (es : List CacheEntryKey) → lists k es ≡ true → takes_any k (map takes es) ≡ true
any-listed k [] l = l
any-listed k (e ∷ es) l = by_test (is_entry_of k e) l (any-listed k es)
  where
    by_test : (v : Bool) → (v || lists k es) ≡ true → (lists k es ≡ true → takes_any k (map takes es) ≡ true) → (v || takes_any k (map takes es)) ≡ true
    by_test true l ih = refl
    by_test false l ih = ih l

pub any-left : (k : StoredKey) (xs ys : List Change) → takes_any k xs ≡ true → takes_any k (xs ++ ys) ≡ true
any-left k [] ys e = absurd cc
any-left k (x ∷ xs) ys e = by_test (takes_one k x) e (any-left k xs ys)
  where
    by_test : (v : Bool) → (v || takes_any k xs) ≡ true → (takes_any k xs ≡ true → takes_any k (xs ++ ys) ≡ true) → (v || takes_any k (xs ++ ys)) ≡ true
    by_test true e ih = refl
    by_test false e ih = ih e

-- ---- permits that end

-- what is held of the lock is of that key
abbrev pub HoldsOf : StoredKey → Hold → Changes → Type 0
HoldsOf k no_lock c = Unit {0}
HoldsOf k (holds p) c = granted p.number c ≡ Some k
HoldsOf k (waits p first) c = granted p.number c ≡ Some k

pub holds-kept : (k : StoredKey) (h : Hold) (xs : List Change) (c : Changes) → HoldsOf k h c → HoldsOf k h (extended c xs)
holds-kept k no_lock xs c i = tt
holds-kept k (holds p) xs c i = granted-kept p.number k xs c i
holds-kept k (waits p first) xs c i = granted-kept p.number k xs c i

pub released-in-turn : (s : Scope) (k : StoredKey) (how : LockStatus) (h : Hold) (before c : Changes) → s.key ≡ Some k → HoldsOf k h c → InTurn s (released how h before) c
released-in-turn s k how no_lock before c key i = tt
released-in-turn s k how (waits p first) before c key i = tt
released-in-turn s k how (holds p) before c key i = by_end (is_some (ended p.number before))
  where
    by_end : (v : Bool) → InTurn s (cond v [] (ends p.number how ∷ [])) c
    by_end true = tt
    by_end false = ((k, i, key), tt)

pub dropped-in-turn : (s : Scope) (k : StoredKey) (h : Hold) (c : Changes) → s.key ≡ Some k → HoldsOf k h c → InTurn s (dropped h) c
dropped-in-turn s k no_lock c key i = tt
dropped-in-turn s k (waits p first) c key i = tt
dropped-in-turn s k (holds p) c key i = ((k, i, key), tt)
