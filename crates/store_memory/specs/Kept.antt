-- What is kept of bodies, of writes in flight and of their readers, as a plain state.
use Rattle.std.specs.Prelude.{◌≡◌, ℕ, ◌<◌, Bool, true, false, not, cond, ◌+◌, ◌-◌, nat_lt, List, length, Option, Some, None, option_map, map}
use Rattle.std.specs.List.{AllByRecursion}
use Rattle.std.specs.Ordering.{nat_cmp}
use Rattle.std.specs.BTreeMap as tree
use Rattle.std.specs.BTreeMap.{BTreeMap}
use Rattle.cache_heads.specs.Meta.{meta_weight}
use Rattle.cache_heads.specs.declared.meta.CacheMeta.{CacheMeta}
use Rattle.cache_changes.specs.Changes.{StoredKey}
use Rattle.cache_changes.specs.Store.{Stored, Flying, on_flying, with_bytes, ended}
use Rattle.cache_store.specs.StoreState.{Reading}
use Rattle.store_memory.specs.declared.flight.Buffer.{Buffer}
use Rattle.store_memory.specs.declared.flight.Buffer.TheVariants.{InPieces, Whole}
use Rattle.store_memory.specs.declared.flight.Flight.{Flight}
use Rattle.store_memory.specs.declared.flight.Body.{Body}
use Rattle.store_memory.specs.declared.flight.Readers.{Readers}

-- what bytes weigh with a meta: how many they are, and what the meta weighs
abbrev pub weight_with : CacheMeta → List ℕ → ℕ
weight_with meta bytes = length bytes + meta_weight meta

-- what a stored body weighs
abbrev pub weigh : Stored CacheMeta → ℕ
weigh x = weight_with x.meta x.bytes

abbrev pub bytes_in : Buffer → List ℕ
bytes_in (InPieces bytes) = bytes
bytes_in (Whole bytes) = bytes

abbrev pub stored_flight : ℕ × Flight → Stored CacheMeta
stored_flight e = record { write = record { number = e.0; key = e.1.key; meta = e.1.meta }; meta = e.1.meta; bytes = e.1.pieces }

-- a write in flight, where `alive` says which are
abbrev pub seen : (StoredKey → ℕ → Bool) → ℕ × Flight → Flying CacheMeta
seen alive e = record {
  stored = stored_flight e;
  ended = e.1.ended;
  removed = not (alive e.1.key e.0);
}

abbrev pub flights_of : (StoredKey → ℕ → Bool) → List (ℕ × Flight) → List (Flying CacheMeta)
flights_of alive es = map (seen alive) es

abbrev pub body_of : StoredKey × Body → Stored CacheMeta
body_of e = record { write = record { number = e.1.number; key = e.0; meta = e.1.meta }; meta = e.1.meta; bytes = e.1.bytes }

abbrev pub bodies_of : List (StoredKey × Body) → List (Stored CacheMeta)
bodies_of es = map body_of es

abbrev pub reading_of : ℕ × Readers → Reading
reading_of e = record { number = e.0; others = e.1.others; left = option_map bytes_in e.1.left; whole = e.1.whole }

abbrev pub readings_of : List (ℕ × Readers) → List Reading
readings_of es = map reading_of es

-- the key of the write in flight of that number
abbrev pub key_at : BTreeMap ℕ Flight → ℕ → Option StoredKey
key_at flights n = option_map (λ f. f.key) (tree.get nat_cmp flights n)

-- with more bytes, which may be the last
abbrev pub written : List ℕ → Bool → Flying CacheMeta → Flying CacheMeta
written more eof f = cond eof (ended (with_bytes more f)) (with_bytes more f)

-- the write in flight of that number changed, and no other; and its key is as before
pub record ChangesAt (n : ℕ) (change : Flying CacheMeta → Flying CacheMeta) (old new : BTreeMap ℕ Flight) : Type 0 where
  pub keys : tree.keys new ≡ tree.keys old
  pub known : (m : ℕ) → key_at new m ≡ key_at old m
  pub seen : (alive : StoredKey → ℕ → Bool) → flights_of alive new.entries ≡ on_flying n change (flights_of alive old.entries)

-- numbers ascend and are below the next; and an alive number is that of a write in flight of its key
pub record IsSound (alive : StoredKey → ℕ → Bool) (flights : BTreeMap ℕ Flight) (next : ℕ) : Type 0 where
  pub ordered : tree.IsOrdered nat_cmp flights
  pub below : AllByRecursion (λ n. n < next) (tree.keys flights)
  pub known : (k : StoredKey) (n : ℕ) → alive k n ≡ true → key_at flights n ≡ Some k

-- the readers of a write, the others counted anew, with one more, and with one less
abbrev pub counted : ℕ → Readers → Readers
counted n r = record r { others = n }

abbrev pub joined : Option Readers → Readers
joined None = record { others = 0; left = None; whole = false }
joined (Some r) = counted (r.others + 1) r

abbrev pub parted : Option Readers → Option Readers
parted None = None
parted (Some r) = cond (nat_lt 0 r.others) (Some (counted (r.others - 1) r)) None

-- what readers are to be left with, where there are some
abbrev pub IsShare : Option (List ℕ) → Bool → List ℕ → Type 0
IsShare None there bytes = there ≡ false
IsShare (Some share) there bytes = share ≡ bytes
