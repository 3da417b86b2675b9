-- Purges, one after another.
use Rattle.std.proofs.Common.{refl, subst, List, [], ◌∷◌, ◌++◌}
use Rattle.std.specs.Prelude.{Option}
use Rattle.cache_entries.specs.declared.entry.CacheEntryId.{CacheEntryId}
use Rattle.cache_entries.specs.declared.entry.CacheEntryKey.{CacheEntryKey}
use Rattle.cache_changes.specs.Changes.{StoredKey}
use Rattle.cache_store.specs.declared.storage.PurgeOutcome.{PurgeOutcome}
use Rattle.cache_store.specs.declared.storage.PurgeType.{PurgeType}
use Rattle.cache_store.specs.declared.storage.PurgeType.TheVariants.{Eviction}
use Rattle.cache_store.specs.StoreState.{StoreState}
use Rattle.cache_store.specs.Purges.{IsPurged, entry_key}
use Rattle.request_store.specs.Stored.{Purged}

module _ {S : Type 0} (held : S → StoreState) (ids : S → StoredKey → Option CacheEntryId) (purged_as : S → PurgeType → S → Type 0) where
  -- one entry more
  pub purged-more : (es : List CacheEntryKey) (e : CacheEntryKey) (old mid new : S) (outcome : PurgeOutcome) → Purged held ids purged_as es old mid
      → IsPurged held ids purged_as (entry_key (ids mid) e) Eviction outcome mid new → Purged held ids purged_as (es ++ e ∷ []) old new
  purged-more [] e old mid new outcome p step =
      (new, outcome, subst (λ (s : S). IsPurged held ids purged_as (entry_key (ids s) e) Eviction outcome s new) p step, refl)
  purged-more (x ∷ es) e old mid new outcome p step = (p.0, p.1, p.2, purged-more es e p.0 mid new outcome p.3 step)
