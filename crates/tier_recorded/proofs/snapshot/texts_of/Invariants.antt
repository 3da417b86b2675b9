use Rattle.std.proofs.Common.{◌≡◌, ◌<◌, ◌≤◌, ℕ, [], length, vec_capacity}
use Rattle.std.specs.Prelude.{slice_index_or}
use Rattle.cache_evict.specs.Managed.{rows_at}
use Rattle.cache_evict.specs.Stored.{IsText}
use Rattle.tier_recorded.proofs.snapshot.texts_of.Given as goal

abbrev pub invariant-loop-shard : goal.invariant-loop-shard
invariant-loop-shard g l = record {
  counted : length l.items.items ≡ l.shard;
  room : l.count ≤ vec_capacity l.items;
  each : (i : ℕ) → i < l.shard → IsText (rows_at l.manager.shards i) (slice_index_or l.items.items i []);
}
