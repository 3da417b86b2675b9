-- The sums over the shards of a core, which it keeps.
use Rattle.std.specs.Prelude.{◌≡◌, ℕ, ◌<◌, ◌≤◌, List, length, map, slice_set, slice_index_or}
use Rattle.std.specs.List.{All}
use Rattle.lru_core.specs.declared.sharded.totals.Totals.{Totals}
use Rattle.lru_core.specs.Rows.{Shard, total_weight}
use Rattle.lru_core.specs.Cores.{core_weight, core_len, shard_bound}

-- the sums of one shard, within its bound
pub record AreSums {T : Type 0} (sums : Totals) (s : Shard T) : Type 0 where
  pub len : sums.len ≡ length s.rows
  pub weight : sums.weight ≡ total_weight s.rows
  pub len_bound : sums.len ≤ s.bound
  pub weight_bound : sums.weight ≤ s.bound

-- a shard of one of n: neither its weight nor its length is past an n-th of what can be counted
abbrev pub IsBounded : {T : Type 0} → ℕ → Shard T → Type 0
IsBounded n s = (s.bound ≡ shard_bound n) × (total_weight s.rows ≤ s.bound) × (length s.rows ≤ s.bound)

-- n shards, and the sums over them
pub record IsSummed {T : Type 0} (n : ℕ) (units : List (Shard T)) (all : Totals) : Type 0 where
  pub some : 0 < n
  pub count : length units ≡ n
  pub weighed : all.weight ≡ core_weight (map (λ u. u.rows) units)
  pub numbered : all.len ≡ core_len (map (λ u. u.rows) units)
  pub bounded : All (IsBounded n) units

-- Shard i of n was changed: it was `was`, with the sums `before`, when `all` were the sums over the shards.
pub record IsChanged {T : Type 0} (n : ℕ) (units : List (Shard T)) (all before : Totals) (i : ℕ) : Type 0 where
  pub was : Shard T
  pub summed : IsSummed n (slice_set units i was) all
  pub sums : AreSums before was
  pub bound : (now : Shard T) → now ≡ slice_index_or units i now → now.bound ≡ was.bound
