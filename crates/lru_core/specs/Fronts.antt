-- The longest front of rows that is within limits.
use Rattle.std.specs.Prelude.{◌≡◌, ℕ, Bool, true, false, ◌||◌, ◌<◌, ◌≤◌, nat_lt, List, length, take, Option}
use Rattle.lru_core.specs.declared.rows.Row.{Row}
use Rattle.lru_core.specs.Rows.{total_weight}
use Rattle.lru_core.specs.Cores.{Core, rows_at, passes}

-- the weight of the rows is past the limit, or their number past the watermark
abbrev pub exceeds : {T : Type 0} → ℕ → Option ℕ → List (Row T) → Bool
exceeds limit watermark rows = nat_lt limit (total_weight rows) || passes watermark (length rows)

-- `front` is a front of the rows, within both limits, and each longer one exceeds them
pub record IsLongestFront {T : Type 0} (limit : ℕ) (watermark : Option ℕ) (rows front : List (Row T)) : Type 0 where
  pub shorter : length front ≤ length rows
  pub is_front : front ≡ take (length front) rows
  pub within : exceeds limit watermark front ≡ false
  pub longest : (n : ℕ) → length front < n → n ≤ length rows → exceeds limit watermark (take n rows) ≡ true

-- what the one shard of `new` has is such a front of what that of `old` has
abbrev pub LeavesLongestFront : {T : Type 0} → Core T → Core T → Type 0
LeavesLongestFront old new = IsLongestFront old.limit old.watermark (rows_at old.shards 0) (rows_at new.shards 0)
