-- What a store holds, as a tier's state has it.
use Rattle.std.specs.Prelude.{◌≡◌, ◌<◌, ◌≤◌, ℕ, ◌+◌, List, map, None}
use Rattle.std.specs.List.{AllByRecursion}
use Rattle.std.specs.FinMap.{from_entries, get}
use Rattle.cache_heads.specs.declared.meta.CacheMeta.{CacheMeta}
use Rattle.cache_changes.specs.Changes.{StoredKey}
use Rattle.cache_changes.specs.Store.{Stored, Flying}
use Rattle.cache_store.specs.StoreState.{Reading, StoreState}
use Rattle.tier_model.specs.Rows.{Numbered, Bodies}
use Rattle.tier_model.specs.Shelf.{InFlight, Readers, Shelf}

-- the body that a store has, with the number of its write
abbrev pub found_in : Stored CacheMeta → Numbered
found_in x = record { number = x.write.number; body = record { bytes = x.bytes; meta = x.meta } }

abbrev pub row_of : Stored CacheMeta → StoredKey × Numbered
row_of x = (x.write.key, found_in x)

-- the bodies of a store, by their keys
abbrev pub bodies_in : List (Stored CacheMeta) → Bodies
bodies_in xs = from_entries (map row_of xs)

abbrev pub flight_of : Flying CacheMeta → InFlight
flight_of f = record { number = f.stored.write.number; key = f.stored.write.key; meta = f.stored.meta; bytes = f.stored.bytes; ended = f.ended; removed = f.removed }

abbrev pub readers_of : Reading → Readers
readers_of r = record { count = r.others + 1; left = r.left; whole = r.whole }

abbrev pub reading_row : Reading → ℕ × Readers
reading_row r = (r.number, readers_of r)

-- the bodies, the writes in flight with their readers, and how many writes began
abbrev pub shelf_of : StoreState → Shelf
shelf_of h = record {
  bodies = bodies_in h.store.bodies;
  flying = map flight_of h.store.flying;
  readers = from_entries (map reading_row h.readings);
  writes = h.next;
}

-- the writes in flight, and those that have readers, have begun
pub record IsBelow (shelf : Shelf) : Type 0 where
  pub flying : AllByRecursion (λ f. f.number < shelf.writes) shelf.flying
  pub readers : (n : ℕ) → shelf.writes ≤ n → get shelf.readers n ≡ None
