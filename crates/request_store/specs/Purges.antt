-- What is purged under a key, or goes stale.
use Rattle.std.specs.Prelude.{◌≡◌, ℕ, Bool, true, false, Option, Some, if◌then◌else◌}
use Rattle.cache_words.specs.Key.{CacheKeyValue}
use Rattle.cache_words.specs.Time.{MomentValue}
use Rattle.cache_entries.specs.declared.entry.CacheEntryId.{CacheEntryId}
use Rattle.cache_changes.specs.Changes.{StoredKey}
use Rattle.cache_evict.specs.Managed.{Managed, taken_out}
use Rattle.cache_store.specs.declared.storage.PurgeOutcome.{PurgeOutcome}
use Rattle.cache_store.specs.declared.storage.PurgeOutcome.TheVariants.{NotFound, Purged}
use Rattle.cache_store.specs.declared.storage.PurgeType.{PurgeType}
use Rattle.cache_store.specs.declared.storage.PurgeType.TheVariants.{Invalidation}
use Rattle.cache_store.specs.StoreState.{StoreState}
use Rattle.cache_store.specs.Ids.{IdsAfter}
use Rattle.cache_store.specs.Purges.{IsPurged}
use Rattle.cache_store.specs.Renewals.{StaleAnswer}
use Rattle.request_store.specs.Entries.{entry_at, stored_at}

-- something was found
abbrev pub is_found : PurgeOutcome → Bool
is_found NotFound = false
is_found _ = true

-- the order of use after a purge of a key, in n shards: the entry of what was removed is out of it, where the manager is on
abbrev pub untracked : ℕ → Bool → Option CacheKeyValue → PurgeOutcome → Managed → Managed
untracked n evicts key (Purged id) m = if evicts then taken_out n (entry_at key id) m else m
untracked n evicts key _ m = m

-- a store, and the order of use
pub record Kept (S : Type 0) : Type 0 where
  pub store : S
  pub managed : Managed

abbrev pub kept_in : {S : Type 0} → S → Managed → Kept S
kept_in store managed = record { store = store; managed = managed }

module _ {S : Type 0} (held : S → StoreState) (ids : S → StoredKey → Option CacheEntryId) (purged_as : S → PurgeType → S → Type 0) (shards : ℕ) (evicts : Bool) (key : Option CacheKeyValue) where
  -- what is stored under a key is purged as no longer valid, and where the manager is on its entry is tracked no more. `found` says whether
  -- something was found
  pub record PurgesKey (found : Bool) (old new : Kept S) : Type 0 where
    pub outcome : PurgeOutcome
    pub told : found ≡ is_found outcome
    pub purged : IsPurged held ids purged_as (Some (stored_at key)) Invalidation outcome old.store new.store
    pub managed : new.managed ≡ untracked shards evicts key outcome old.managed

  -- what is stored under a key goes stale at a moment; a store in which nothing goes stale removes it, as no longer valid,
  -- and then, where the manager is on, its entry is tracked no more
  pub record ExpiresKey (moment : MomentValue) (found : Bool) (old new : Kept S) : Type 0 where
    pub outcome : PurgeOutcome
    pub told : found ≡ is_found outcome
    pub expired : StaleAnswer (Some (stored_at key)) (ids old.store (stored_at key)) moment (purged_as old.store Invalidation new.store) (held old.store) outcome (held new.store)
    pub ids_then : IdsAfter outcome (Some (stored_at key)) (ids old.store) (ids new.store)
    pub managed : new.managed ≡ untracked shards evicts key outcome old.managed
