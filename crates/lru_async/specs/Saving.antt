-- What handing out the rows of shards does.
use Rattle.std.specs.Prelude.{◌≡◌, ℕ, ◌+◌, Result, Ok, Err}
use Rattle.lru_async.specs.declared.running.saving.ShardData.{ShardData}

-- The rows of the shards below a number were handed out in turn, but for shards that were left out: so many were written.
pub data Writes {D K E : Type 0} (step : D → ShardData K → Result (Unit {0}) E → D → Type 0) : ℕ → ℕ → D → D → Type 0 where
  NoShard : (start : D) → Writes step 0 0 start start
  Written : (n written : ℕ) (start now next : D) (rows : ShardData K)
      → Writes step n written start now → rows.shard ≡ n → step now rows (Ok tt) next → Writes step (n + 1) (written + 1) start next
  Refused : (n written : ℕ) (start now next : D) (rows : ShardData K) (error : E)
      → Writes step n written start now → rows.shard ≡ n → step now rows (Err error) next → Writes step (n + 1) written start next
  LeftOut : (n written : ℕ) (start now : D) → Writes step n written start now → Writes step (n + 1) written start now
