-- The ids of what is stored.
use Rattle.std.specs.Prelude.{◌≡◌, false, Option, Some, None}
use Rattle.cache_entries.specs.declared.entry.CacheEntryId.{CacheEntryId}
use Rattle.cache_changes.specs.Changes.{StoredKey, is_key}
use Rattle.cache_store.specs.declared.storage.PurgeOutcome.{PurgeOutcome}
use Rattle.cache_store.specs.declared.storage.PurgeOutcome.TheVariants.{NotFound, Purged, Expired}

-- each key but that one, if it is any, has the id that it had
abbrev pub SameBut : Option StoredKey → (StoredKey → Option CacheEntryId) → (StoredKey → Option CacheEntryId) → Type 0
SameBut key old new = (j : StoredKey) → is_key j key ≡ false → new j ≡ old j

-- what is stored under a key, if it is any, has that id, and each other the one that it had
pub record IsGiven (key : Option StoredKey) (id : Option CacheEntryId) (old new : StoredKey → Option CacheEntryId) : Type 0 where
  pub given : (k : StoredKey) → key ≡ Some k → new k ≡ id
  pub others : SameBut key old new

-- after a purge: what was removed under a key has no id any more, and each other the one that it had
abbrev pub IdsAfter : PurgeOutcome → Option StoredKey → (StoredKey → Option CacheEntryId) → (StoredKey → Option CacheEntryId) → Type 0
IdsAfter (Purged id) key old new = IsGiven key None old new
IdsAfter NotFound key old new = new ≡ old
IdsAfter Expired key old new = new ≡ old
