-- Bytes only come to what was there, none to a write that is no longer in flight, and a key has one body.
use Rattle.std.proofs.Common.{◌≡◌, ℕ, refl, ap, sym, ◌∙◌, true, false, cond, [], ◌∷◌, ◌++◌, ◌||◌, ◌&&◌, append_assoc}
use Rattle.std.specs.Prelude.{Bool, ◌==◌, List, Option, Some, None, option_map, not}
use Rattle.std.proofs.lemmas.List.{append-nil}
use Rattle.cache_changes.specs.Changes.{StoredKey, Write, Changes, appends, leaves}
use Rattle.cache_changes.specs.Writes.{bytes_of, removes_key, leaves_write, IsInFlight, IsBody, IsShown, HasBegun, IsOrderly}
use Rattle.cache_changes.specs.Store.{Stored, stored_of}
use Rattle.cache_changes.proofs.WriteLaws.{life, life_by, begun_by, lived, life-began, life-tells, is_flight, begun_none}
use Rattle.cache_changes.proofs.BodyLaws.{body_now-of, no_leaving}
use Rattle.cache_changes.proofs.FoundLaws.{shown-is}

-- bytes that come go to the end
pub bytes-later : {M : Type 0} (n : ℕ) (since before : Changes M) → bytes_of n (since ++ before) ≡ bytes_of n before ++ bytes_of n since
bytes-later n [] before = sym (append-nil (bytes_of n before))
bytes-later n (appends m bytes ∷ since) before = by_number (m == n) (bytes-later n since before)
  where
    by_number : (v : Bool) → bytes_of n (since ++ before) ≡ bytes_of n before ++ bytes_of n since
        → cond v (bytes_of n (since ++ before) ++ bytes) (bytes_of n (since ++ before)) ≡ bytes_of n before ++ cond v (bytes_of n since ++ bytes) (bytes_of n since)
    by_number true ih = ap (λ (l : List ℕ). l ++ bytes) ih ∙ append_assoc (bytes_of n before) (bytes_of n since) bytes
    by_number false ih = ih
bytes-later n (_ ∷ since) before = bytes-later n since before

-- a write that is no longer in flight stays so
landed-later : {M : Type 0} (w : Write M) (a : Bool) (since before : Changes M) → IsOrderly (since ++ before) → life w.number before ≡ Some (record { write = w; flies = false; alive = a })
    → (b : Bool) × (life w.number (since ++ before) ≡ Some (record { write = w; flies = false; alive = b }))
landed-later w a [] before o h = (a, h)
landed-later {M = M} w a (c ∷ since) before o h =
    let rest = landed-later w a since before o.1 h in
    let known = life-tells w.number (since ++ before) (record { write = w; flies = false; alive = rest.0 }) rest.1 in
    let none : begun_by w.number c ≡ None = begun_none w c (since ++ before) o.0 (record { since = known.since; before = known.before; split = known.split }) in (
      rest.0 && not (removes_key w.key c || leaves_write w.number c),
      ap (λ (x : Option (Write M)). life_by x c (life w.number (since ++ before))) none ∙ ap (option_map (lived c)) rest.1,
    )

bytes-landed : {M : Type 0} (w : Write M) (a : Bool) (since before : Changes M) → IsOrderly (since ++ before) → life w.number before ≡ Some (record { write = w; flies = false; alive = a })
    → bytes_of w.number (since ++ before) ≡ bytes_of w.number before
bytes-landed w a [] before o h = refl
bytes-landed w a (appends m bytes ∷ since) before o h =
    let rest = landed-later w a since before o.1 h in
    rw (no_leaving w rest.0 (leaves m) (since ++ before) o.0.0 o.1 rest.1) (bytes-landed w a since before o.1 h)
bytes-landed w a (_ ∷ since) before o h = bytes-landed w a since before o.1 h

orderly_before : {M : Type 0} (since before : Changes M) → IsOrderly (since ++ before) → IsOrderly before
orderly_before [] before o = o
orderly_before (c ∷ since) before o = orderly_before since before o.1

pub bytes-stay : {M : Type 0} (w : Write M) (since before : Changes M) → IsOrderly (since ++ before) → HasBegun w before → (IsInFlight w before → ⊥)
    → bytes_of w.number (since ++ before) ≡ bytes_of w.number before
bytes-stay {M = M} w since before o b landed = let found = life-began w before (orderly_before since before o) b in by_flag found.flies found.alive found.is
  where
    by_flag : (f a : Bool) → life w.number before ≡ Some (record { write = w; flies = f; alive = a }) → bytes_of w.number (since ++ before) ≡ bytes_of w.number before
    by_flag true a e = absurd (landed (is_flight w.number before (record { write = w; flies = true; alive = a }) e refl))
    by_flag false a e = bytes-landed w a since before o e

-- one body a key, and one write that it shows
pub one_body : {M : Type 0} (k : StoredKey) (v w : Write M) (changes : Changes M) → IsOrderly changes → IsBody k v changes → IsBody k w changes → v ≡ w
one_body k v w changes o a b = let both = sym (body_now-of k changes v o a) ∙ body_now-of k changes w o b in cc

pub one_shown : {M : Type 0} (k : StoredKey) (v w : Write M) (changes : Changes M) → IsOrderly changes → IsShown k v changes → IsShown k w changes → v ≡ w
one_shown {M = M} k v w changes o a b =
    let both = sym ((shown-is changes o k (stored_of v changes)).1 (a, refl)) ∙ (shown-is changes o k (stored_of w changes)).1 (b, refl) in
    let same : stored_of v changes ≡ stored_of w changes = cc in
    ap (λ (x : Stored M). x.write) same
