-- The state in which a recorded tier began.
use Rattle.std.specs.Prelude.{◌≡◌, ◌<◌, ℕ, List, [], length, slice_index_or}
use Rattle.cache_entries.specs.declared.rows.Tracked.{Tracked}
use Rattle.cache_evict.specs.Managed.{IsSharded, rows_at}
use Rattle.cache_evict.specs.Stored.{IsText}
use Rattle.tier_model.specs.State.{State}
use Rattle.tier_model.specs.Started.{HasOnlyOrder, settings_of}
use Rattle.tier_single.specs.Options.{settings_with}
use Rattle.tier_recorded.specs.declared.snapshot.Snapshot.{Snapshot}

-- the texts are those of the shards' rows, shard by shard
pub record AreTexts (shards : List (List Tracked)) (texts : List (List ℕ)) : Type 0 where
  pub count : length texts ≡ length shards
  pub each : (i : ℕ) → i < length shards → IsText (rows_at shards i) (slice_index_or texts i [])

-- a tier of n shards that a snapshot describes began in this state: it held nothing but its order of use and had counted nothing, it was
-- made with these options, and its shards, each with rows of its own entries alone, have these texts
pub record Opens {R : Type 0} (n : ℕ) (opening : Snapshot R) (first : State) : Type 0 where
  pub only_order : HasOnlyOrder first
  pub made : settings_of first ≡ settings_with n opening.options
  pub sharded : IsSharded n first.managed
  pub texts : AreTexts first.managed.shards opening.texts
