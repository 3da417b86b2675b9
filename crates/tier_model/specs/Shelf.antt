-- What a tier holds of writes: finished bodies by their keys, and writes in flight with their readers.
use Rattle.std.specs.Prelude.{ℕ, ◌+◌, ◌-◌, ◌==◌, nat_le, Bool, true, false, ◌||◌, ◌&&◌, not, List, [], ◌∷◌, ◌++◌, drop, filter, find, map, if◌then◌else◌, Option, Some, None, option_map, unwrap_or}
use Rattle.std.specs.Prelude.{option_and_then}
use Rattle.std.specs.FinMap.{FinMap, empty, get, insert, remove}
use Rattle.std.specs.Ordering.{nat_cmp}
use Rattle.cache_heads.specs.declared.meta.CacheMeta.{CacheMeta}
use Rattle.cache_entries.specs.Keys.{same_bytes}
use Rattle.cache_entries.specs.declared.entry.CacheEntryKey.{CacheEntryKey}
use Rattle.cache_changes.specs.Changes.{StoredKey, key_alone, is_key}
use Rattle.tier_model.specs.Rows.{Numbered, Bodies, FinishedBody, with_body, with_meta, without_body, without_bodies}

-- a write in flight: its number, its key, its meta and the bytes so far; whether it had its last piece, and whether it met a removal
pub record InFlight : Type 0 where
  pub number : ℕ
  pub key : StoredKey
  pub meta : CacheMeta
  pub bytes : List ℕ
  pub ended : Bool
  pub removed : Bool

-- the readers of a write: how many there are, and the bytes that they were left with once it was in flight no more; whether those are all of it
pub record Readers : Type 0 where
  pub count : ℕ
  pub left : Option (List ℕ)
  pub whole : Bool

-- the writes in flight stand in the order in which they began; readers are found by the number of their write. `writes` is how many
-- writes began: the number of the next
pub record Shelf : Type 0 where
  pub bodies : Bodies
  pub flying : List InFlight
  pub readers : FinMap nat_cmp Readers
  pub writes : ℕ

-- nothing is held, and n writes began
abbrev pub empty_shelf : ℕ → Shelf
empty_shelf n = record { bodies = empty; flying = []; readers = empty; writes = n }

abbrev pub has_number : ℕ → InFlight → Bool
has_number n f = n == f.number

-- the write in flight of that number
abbrev pub flying_at : ℕ → List InFlight → Option InFlight
flying_at n fs = find (has_number n) fs

-- it is a write of k, and met no removal
abbrev pub flies_for : StoredKey → InFlight → Bool
flies_for k f = same_bytes f.key k && not f.removed

-- what a look-up finds: nothing, a write in flight, or a finished body
pub data Look : Type 0 where
  absent : Look
  in_flight : InFlight → Look
  finished : Numbered → Look

abbrev pub look_by : Option InFlight → Option Numbered → Look
look_by (Some f) body = in_flight f
look_by None (Some x) = finished x
look_by None None = absent

-- the first write of k in flight that met no removal; without one the body
abbrev pub look : StoredKey → Shelf → Look
look k shelf = look_by (find (flies_for k) shelf.flying) (get shelf.bodies k)

abbrev pub is_there : Look → Bool
is_there absent = false
is_there _ = true

-- what there is to read of a write, and whether no more comes: of one in flight its bytes, else what its readers were left with
abbrev pub readable_of : Option InFlight → Option Readers → Option (List ℕ × Bool)
readable_of (Some f) readers = Some (f.bytes, f.ended)
readable_of None readers = option_map (λ bytes. (bytes, true)) (option_and_then (λ r. r.left) readers)

abbrev pub readable : ℕ → Shelf → Option (List ℕ × Bool)
readable n shelf = readable_of (flying_at n shelf.flying) (get shelf.readers n)

-- the same from a place on; a write that isn't there has ended
abbrev pub past_place : ℕ → Option (List ℕ × Bool) → List ℕ × Bool
past_place place None = ([], true)
past_place place (Some p) = (drop place p.0, p.1)

-- nothing is ahead, and no more comes
abbrev pub is_at_end : List ℕ × Bool → Bool
is_at_end ([], over) = over
is_at_end _ = false

-- all of a write came: of one in flight it had its last piece; else it had that, or was finished, before its readers were left with its bytes
abbrev pub whole_of : Option InFlight → Option Readers → Bool
whole_of (Some f) readers = f.ended
whole_of None readers = unwrap_or (option_map (λ r. r.whole) readers) false

abbrev pub is_whole : ℕ → Shelf → Bool
is_whole n shelf = whole_of (flying_at n shelf.flying) (get shelf.readers n)

-- ---- what is done to it

abbrev pub one_more : Option Readers → Readers
one_more None = record { count = 1; left = None; whole = false }
one_more (Some r) = record r { count = r.count + 1 }

-- a write has one reader more
abbrev pub joined : ℕ → FinMap nat_cmp Readers → FinMap nat_cmp Readers
joined n readers = insert readers n (one_more (get readers n))

abbrev pub one_less : ℕ → Option Readers → FinMap nat_cmp Readers → FinMap nat_cmp Readers
one_less n None readers = readers
one_less n (Some r) readers = if nat_le r.count 1 then remove readers n else insert readers n (record r { count = r.count - 1 })

-- one reader less; with the last one the bytes go
abbrev pub parted : ℕ → FinMap nat_cmp Readers → FinMap nat_cmp Readers
parted n readers = one_less n (get readers n) readers

-- a write begins
abbrev pub begun : StoredKey → CacheMeta → Shelf → Shelf
begun k meta shelf =
    record shelf { flying = shelf.flying ++ record { number = shelf.writes; key = k; meta = meta; bytes = []; ended = false; removed = false } ∷ [] }

abbrev pub on_flying : ℕ → (InFlight → InFlight) → List InFlight → List InFlight
on_flying n change fs = map (λ f. if has_number n f then change f else f) fs

-- bytes come to a write
abbrev pub appended : ℕ → List ℕ → Shelf → Shelf
appended n bytes shelf = record shelf { flying = on_flying n (λ f. record f { bytes = f.bytes ++ bytes }) shelf.flying }

-- no more come to it
abbrev pub ended : ℕ → Shelf → Shelf
ended n shelf = record shelf { flying = on_flying n (λ f. record f { ended = true }) shelf.flying }

abbrev pub left_with : ℕ → List ℕ → Bool → Option Readers → FinMap nat_cmp Readers → FinMap nat_cmp Readers
left_with n bytes whole None readers = readers
left_with n bytes whole (Some r) readers = insert readers n (record r { left = Some bytes; whole = whole })

-- they are all of it where it is finished, or had its last piece
abbrev pub readers_left : Bool → ℕ → Option InFlight → FinMap nat_cmp Readers → FinMap nat_cmp Readers
readers_left is_finished n None readers = readers
readers_left is_finished n (Some f) readers = left_with n f.bytes (is_finished || f.ended) (get readers n) readers

-- a write is in flight no more, finished or given up; its readers are left with its bytes
abbrev pub landed : Bool → ℕ → Shelf → Shelf
landed is_finished n shelf = record shelf {
  flying = filter (λ f. not (has_number n f)) shelf.flying;
  readers = readers_left is_finished n (flying_at n shelf.flying) shelf.readers;
}

-- the write of that number is finished, with that body
abbrev pub stored : ℕ → FinishedBody → Shelf → Shelf
stored n b shelf = record shelf { bodies = with_body n b shelf.bodies }

-- the body of a key has another meta
abbrev pub renewed : StoredKey → CacheMeta → Shelf → Shelf
renewed k meta shelf = record shelf { bodies = with_meta k meta shelf.bodies }

-- marked where its key is that one
abbrev pub marked : Option StoredKey → InFlight → InFlight
marked k f = record f { removed = f.removed || is_key f.key k }

abbrev pub marked_all : List CacheEntryKey → List InFlight → List InFlight
marked_all [] fs = fs
marked_all (e ∷ es) fs = marked_all es (map (marked (key_alone e)) fs)

-- a key's body is gone, and its writes in flight are marked
abbrev pub removed : StoredKey → Shelf → Shelf
removed k shelf = record shelf { bodies = without_body k shelf.bodies; flying = map (marked (Some k)) shelf.flying }

-- the same of these entries' stored keys, one after another; an entry with an id takes nothing along
abbrev pub cleared : List CacheEntryKey → Shelf → Shelf
cleared es shelf = record shelf { bodies = without_bodies es shelf.bodies; flying = marked_all es shelf.flying }
