-- Of one shard the first is picked, whatever is drawn.
use Rattle.std.proofs.Common.{◌≡◌, List, refl}
use Rattle.rand_core.specs.Stream.{Stream, next_u64}
use Rattle.cache_entries.specs.declared.rows.Tracked.{Tracked}
use Rattle.cache_evict.specs.Managed.{pick_by_draws, pick_first}
use Rattle.cache_evict.proofs.OneLaws.{picked-one}

pub draws-first : (shards : List (List Tracked)) (s : Stream) → (pick_by_draws 1 shards s).0 ≡ 0
draws-first shards s = picked-one shards (next_u64 s).0 (next_u64 (next_u64 s).1).0

pub only-first : (shards : List (List Tracked)) (s : Stream) → (pick_first shards s).0 ≡ 0
only-first shards s = refl
