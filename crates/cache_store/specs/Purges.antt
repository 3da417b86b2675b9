-- What purges answer.
use Rattle.std.specs.Prelude.{◌≡◌, Option, Some, None, option_map, if◌then◌else◌}
use Rattle.cache_entries.specs.declared.entry.CacheEntryId.{CacheEntryId}
use Rattle.cache_entries.specs.declared.entry.CacheEntryKey.{CacheEntryKey}
use Rattle.cache_entries.specs.Entry.{number_of, key_of, id_of, same_id}
use Rattle.cache_changes.specs.Changes.{StoredKey, stored_key, removes}
use Rattle.cache_changes.specs.Store.{after, is_found_at}
use Rattle.cache_store.specs.declared.storage.PurgeType.{PurgeType}
use Rattle.cache_store.specs.declared.storage.PurgeTarget.{PurgeTarget}
use Rattle.cache_store.specs.declared.storage.PurgeTarget.TheVariants.{Active, Exact}
use Rattle.cache_store.specs.declared.storage.PurgeOutcome.{PurgeOutcome}
use Rattle.cache_store.specs.declared.storage.PurgeOutcome.TheVariants.{NotFound, Purged}
use Rattle.cache_store.specs.Agree.{Agree}
use Rattle.cache_store.specs.StoreState.{StoreState}
use Rattle.cache_store.specs.Ids.{IdsAfter}

-- the key that an entry names, where what is stored under it has the entry's id, or both have none
abbrev pub entry_key : (StoredKey → Option CacheEntryId) → CacheEntryKey → Option StoredKey
entry_key ids entry = if same_id (id_of entry) (option_map number_of (ids (stored_key (key_of entry)))) then Some (stored_key (key_of entry)) else None

-- the key that a target names, by the ids of what is stored
abbrev pub target_key : (StoredKey → Option CacheEntryId) → PurgeTarget → Option StoredKey
target_key ids (Active key) = Some (stored_key key.now)
target_key ids (Exact entry) = entry_key ids entry.now

abbrev pub id_at : (StoredKey → Option CacheEntryId) → Option StoredKey → Option CacheEntryId
id_at ids None = None
id_at ids (Some k) = ids k

-- what is stored under a key is removed, where anything is found, and its id is reported
abbrev pub PurgeAnswer : Option StoredKey → Option CacheEntryId → StoreState → PurgeOutcome → StoreState → Type 0
PurgeAnswer None id old outcome new = (outcome ≡ NotFound) × (new ≡ old)
PurgeAnswer (Some k) id old outcome new =
    (outcome ≡ (if is_found_at k old.store then Purged id else NotFound)) × Agree new.store (after (removes k) old.store) × (new.next ≡ old.next) × (new.readings ≡ old.readings)

-- what is stored under a key, if one is named, is purged of a store for that cause
pub record IsPurged {S : Type 0} (held : S → StoreState) (ids : S → StoredKey → Option CacheEntryId) (purged_as : S → PurgeType → S → Type 0)
    (key : Option StoredKey) (cause : PurgeType) (outcome : PurgeOutcome) (old new : S) : Type 0 where
  pub answer : PurgeAnswer key (id_at (ids old) key) (held old) outcome (held new)
  pub ids_then : IdsAfter outcome key (ids old) (ids new)
  pub caused : purged_as old cause new
