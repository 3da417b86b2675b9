-- What a store of one body holds.
use Rattle.std.specs.Prelude.{ℕ, Bool, true, false, ◌==◌, ◌||◌, List, [], ◌∷◌, Option, Some, None, if◌then◌else◌}
use Rattle.cache_heads.specs.declared.meta.CacheMeta.{CacheMeta}
use Rattle.cache_entries.specs.Keys.{same_bytes}
use Rattle.cache_entries.specs.declared.entry.CacheEntryId.{CacheEntryId}
use Rattle.cache_changes.specs.Changes.{StoredKey}
use Rattle.cache_changes.specs.Store.{Stored, Flying}
use Rattle.cache_store.specs.StoreState.{StoreState}
use Rattle.cache_store.specs.Readers.{Reader, whole}
use Rattle.test_requests.specs.declared.one_body.Row.{Row}
use Rattle.test_requests.specs.declared.one_body.Flight.{Flight}
use Rattle.test_requests.specs.declared.one_body.OneBody.{OneBody}
use Rattle.test_requests.specs.declared.one_body.OneHit.{OneHit}

abbrev pub stored_in : Row → Stored CacheMeta
stored_in r = record { write = record { number = r.number; key = r.key; meta = r.meta }; meta = r.meta; bytes = r.bytes.items }

abbrev pub flying_in : Flight → Flying CacheMeta
flying_in f = record { stored = stored_in f.row; ended = f.ended; removed = f.removed }

abbrev pub bodies_in : Option Row → List (Stored CacheMeta)
bodies_in None = []
bodies_in (Some r) = stored_in r ∷ []

abbrev pub flights_in : Option Flight → List (Flying CacheMeta)
flights_in None = []
flights_in (Some f) = flying_in f ∷ []

abbrev pub held_in : OneBody → StoreState
held_in s = record { store = record { bodies = bodies_in s.body; flying = flights_in s.flight }; next = s.next; readings = [] }

-- the body has the id of its write's number
abbrev pub id_for : ℕ → CacheEntryId
id_for n = record { 0 = n }

abbrev pub id_in : Option Row → StoredKey → Option CacheEntryId
id_in None k = None
id_in (Some r) k = if same_bytes r.key k then Some (id_for r.number) else None

-- a write is in flight, or the last number was given
abbrev pub is_busy : List (Flying CacheMeta) → Bool
is_busy [] = false
is_busy (f ∷ fs) = true

abbrev pub is_spent : StoreState → Bool
is_spent h = is_busy h.store.flying || (h.next == 18446744073709551615)

abbrev pub reader_in : OneHit → Reader
reader_in h = whole h.number h.body.items h.rest.items
