-- The plain state that changes leave of writes: finished bodies, one a key, and the writes in flight.
use Rattle.std.specs.Prelude.{◌≡◌, ◌↔◌, ℕ, ◌==◌, Bool, true, false, ◌||◌, ◌&&◌, not, List, [], ◌∷◌, ◌++◌, Option, Some, None, option_map, is_some, find, filter, map, if◌then◌else◌}
use Rattle.std.specs.Option.{option_or}
use Rattle.cache_entries.specs.Keys.{same_bytes}
use Rattle.cache_changes.specs.Changes.{StoredKey, Write, Change, Changes, begins, appends, ends, finishes, leaves, renews, removes, admits, uses, reweighs, departs, evicts, key_alone, is_key}
use Rattle.cache_changes.specs.Writes.{bytes_of, has_ended, meta_of, IsInFlight, IsAlive, IsFound, IsBody, IsShown}

-- a write with what is stored of it: its meta now, and its bytes so far
pub record Stored (M : Type 0) : Type 0 where
  pub write : Write M
  pub meta : M
  pub bytes : List ℕ

-- a write in flight; `removed` where it met a removal of its key
pub record Flying (M : Type 0) : Type 0 where
  pub stored : Stored M
  pub ended : Bool
  pub removed : Bool

-- the writes in flight stand in the order in which they began
pub record Store (M : Type 0) : Type 0 where
  pub bodies : List (Stored M)
  pub flying : List (Flying M)

abbrev pub empty_store : {M : Type 0} → Store M
empty_store = record { bodies = []; flying = [] }

-- what changes say is stored of a write
abbrev pub stored_of : {M : Type 0} → Write M → Changes M → Stored M
stored_of w changes = record { write = w; meta = meta_of w changes; bytes = bytes_of w.number changes }

-- what changes say of a write in flight
pub record IsFlight {M : Type 0} (f : Flying M) (changes : Changes M) : Type 0 where
  pub flies : IsInFlight f.stored.write changes
  pub stored : f.stored ≡ stored_of f.stored.write changes
  pub ended : f.ended ≡ has_ended f.stored.write.number changes
  pub alive : (f.removed ≡ false) ↔ IsAlive f.stored.write changes

-- it is of k
abbrev pub is_of : {M : Type 0} → StoredKey → Stored M → Bool
is_of k x = same_bytes x.write.key k

abbrev pub has_number : {M : Type 0} → ℕ → Flying M → Bool
has_number n f = n == f.stored.write.number

-- the body of k
abbrev pub body_at : {M : Type 0} → StoredKey → Store M → Option (Stored M)
body_at k s = find (is_of k) s.bodies

-- the write in flight of that number
abbrev pub flying_at : {M : Type 0} → ℕ → Store M → Option (Flying M)
flying_at n s = find (has_number n) s.flying

-- an alive write of k in flight
abbrev pub flies_for : {M : Type 0} → StoredKey → Flying M → Bool
flies_for k f = is_of k f.stored && not f.removed

-- what a look-up of k shows: the alive write in flight that began first; without one the body
abbrev pub shown_at : {M : Type 0} → StoredKey → Store M → Option (Stored M)
shown_at k s = option_or (option_map (λ f. f.stored) (find (flies_for k) s.flying)) (body_at k s)

abbrev pub is_found_at : {M : Type 0} → StoredKey → Store M → Bool
is_found_at k s = is_some (shown_at k s)

-- the state is what changes say: it has just their bodies and writes in flight, finds just the keys that have an alive write,
-- and shows what a look-up is to show
pub record IsStateOf {M : Type 0} (s : Store M) (changes : Changes M) : Type 0 where
  pub bodies : (k : StoredKey) (x : Stored M) → (body_at k s ≡ Some x) ↔ (IsBody k x.write changes × (x ≡ stored_of x.write changes))
  pub flights : (n : ℕ) (f : Flying M) → (flying_at n s ≡ Some f) ↔ ((f.stored.write.number ≡ n) × IsFlight f changes)
  pub found : (k : StoredKey) → (is_found_at k s ≡ true) ↔ IsFound k changes
  pub shown : (k : StoredKey) (x : Stored M) → (shown_at k s ≡ Some x) ↔ (IsShown k x.write changes × (x ≡ stored_of x.write changes))

-- a write that just began
abbrev pub begun : {M : Type 0} → Write M → Flying M
begun w = record { stored = record { write = w; meta = w.meta; bytes = [] }; ended = false; removed = false }

abbrev pub with_bytes : {M : Type 0} → List ℕ → Flying M → Flying M
with_bytes bytes f = record f { stored = record f.stored { bytes = f.stored.bytes ++ bytes } }

-- with another meta, if it is of that number
abbrev pub renewed : {M : Type 0} → ℕ → M → Stored M → Stored M
renewed n meta x = if n == x.write.number then record x { meta = meta } else x

abbrev pub renewed_flying : {M : Type 0} → ℕ → M → Flying M → Flying M
renewed_flying n meta f = record f { stored = renewed n meta f.stored }

abbrev pub ended : {M : Type 0} → Flying M → Flying M
ended f = record f { ended = true }

-- marked where its key is that one
abbrev pub marked : {M : Type 0} → Option StoredKey → Flying M → Flying M
marked k f = record f { removed = f.removed || is_key f.stored.write.key k }

-- the write of that number with a change, the others as they are
abbrev pub on_flying : {M : Type 0} → ℕ → (Flying M → Flying M) → List (Flying M) → List (Flying M)
on_flying n change fs = map (λ f. if has_number n f then change f else f) fs

-- without the write of that number
abbrev pub landed : {M : Type 0} → ℕ → List (Flying M) → List (Flying M)
landed n fs = filter (λ f. not (has_number n f)) fs

-- a body, if there is one, in the place of what its key had
abbrev pub with_body : {M : Type 0} → Option (Stored M) → List (Stored M) → List (Stored M)
with_body None xs = xs
with_body (Some x) xs = x ∷ filter (λ y. not (is_of x.write.key y)) xs

-- without what is stored under a key; the writes in flight are marked
abbrev pub removed_from : {M : Type 0} → Option StoredKey → Store M → Store M
removed_from k s = record {
  bodies = filter (λ x. not (is_key x.write.key k)) s.bodies;
  flying = map (marked k) s.flying;
}

-- what each change does to the state
abbrev pub after : {M : Type 0} → Change M → Store M → Store M
after (begins w) s = record s { flying = s.flying ++ begun w ∷ [] }
after (appends n bytes) s = record s { flying = on_flying n (with_bytes bytes) s.flying }
after (ends n) s = record s { flying = on_flying n ended s.flying }
after (finishes w) s = record { bodies = with_body (option_map (λ f. f.stored) (flying_at w.number s)) s.bodies; flying = landed w.number s.flying }
after (leaves n) s = record s { flying = landed n s.flying }
after (renews n meta) s = record { bodies = map (renewed n meta) s.bodies; flying = map (renewed_flying n meta) s.flying }
after (removes k) s = removed_from (Some k) s
after (evicts e) s = removed_from (key_alone e) s
after (admits e w) s = s
after (uses e w) s = s
after (reweighs e w) s = s
after (departs e) s = s

-- the state that changes leave
abbrev pub store_of : {M : Type 0} → Changes M → Store M
store_of [] = empty_store
store_of (c ∷ before) = after c (store_of before)
