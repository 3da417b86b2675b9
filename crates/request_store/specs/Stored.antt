-- What is purged of a store: evicted entries, and what is stored under a key.
use Rattle.std.specs.Prelude.{◌≡◌, List, [], ◌∷◌, Option, Some}
use Rattle.cache_entries.specs.declared.entry.CacheEntryId.{CacheEntryId}
use Rattle.cache_entries.specs.declared.entry.CacheEntryKey.{CacheEntryKey}
use Rattle.cache_changes.specs.Changes.{StoredKey}
use Rattle.cache_store.specs.declared.storage.PurgeOutcome.{PurgeOutcome}
use Rattle.cache_store.specs.declared.storage.PurgeType.{PurgeType}
use Rattle.cache_store.specs.declared.storage.PurgeType.TheVariants.{Eviction, Invalidation}
use Rattle.cache_store.specs.StoreState.{StoreState}
use Rattle.cache_store.specs.Purges.{IsPurged, entry_key}

-- the entries are purged from a store as evicted, in order
abbrev pub Purged : {S : Type 0} → (S → StoreState) → (S → StoredKey → Option CacheEntryId) → (S → PurgeType → S → Type 0) → List CacheEntryKey → S → S → Type 0
Purged held ids purged_as [] old new = new ≡ old
Purged {S} held ids purged_as (e ∷ es) old new =
    (mid : S) × (outcome : PurgeOutcome) × IsPurged held ids purged_as (entry_key (ids old) e) Eviction outcome old mid × Purged held ids purged_as es mid new

-- what is stored under a key is removed from a store, as no longer valid
abbrev pub Removed : {S : Type 0} → (S → StoreState) → (S → StoredKey → Option CacheEntryId) → (S → PurgeType → S → Type 0) → StoredKey → S → S → Type 0
Removed held ids purged_as k old new = (outcome : PurgeOutcome) × IsPurged held ids purged_as (Some k) Invalidation outcome old new
