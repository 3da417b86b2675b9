-- What a tier's store shows.
use Rattle.std.specs.Prelude.{◌≡◌, Bool, true, false, map, Some, option_map}
use Rattle.cache_heads.specs.declared.meta.CacheMeta.{CacheMeta}
use Rattle.cache_changes.specs.Changes.{StoredKey, Write}
use Rattle.cache_changes.specs.Store.{Stored, body_at, store_of}
use Rattle.cache_changes.specs.Writes.{IsBody}
use Rattle.cache_store.specs.StoreState.{StoreState}
use Rattle.cache_store.specs.declared.storage.PurgeOutcome.{PurgeOutcome}
use Rattle.cache_store.specs.declared.storage.PurgeOutcome.TheVariants.{Purged}
use Rattle.tier_model.specs.Calls.{History}
use Rattle.tier_model.specs.Histories.{Kept, Opening, told_of, writes_begun, changes_of}
use Rattle.tier_model.specs.Past.{plain}
use Rattle.tier_requests.specs.Shelves.{found_in, flight_of}

abbrev pub is_purged : PurgeOutcome → Bool
is_purged (Purged id) = true
is_purged _ = false

-- the store shows the bodies that a history has, one a key: each under its key with its number, its bytes and the meta that was stored.
-- Its writes in flight are those that the history has in flight, each as the history says, in the order in which they
-- began. As many writes began as the history says
pub record ShowsBodies (h : StoreState) (start : Opening) (past : History) : Type 0 where
  pub bodies : (k : StoredKey) (w : Write Kept) → IsBody k w (changes_of start past)
      → option_map found_in (body_at k h.store) ≡ Some (record { number = w.number; body = told_of (changes_of start past) w })
  pub others : (k : StoredKey) (x : Stored CacheMeta) → body_at k h.store ≡ Some x → (w : Write Kept) × IsBody k w (changes_of start past)
  pub flights : map flight_of h.store.flying ≡ map plain (store_of (changes_of start past)).flying
  pub writes : h.next ≡ writes_begun start past
