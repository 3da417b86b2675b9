-- Lists of rows in shards: where a key lives, and what one eviction takes.
use Rattle.std.specs.Prelude.{◌≡◌, ℕ, zero, suc, Bool, true, false, ◌||◌, ◌==◌, ◌+◌, ◌-◌, ◌/◌, ◌%◌, ◌^◌, ◌≤◌, nat_lt, if◌then◌else◌, List, [], ◌∷◌, ◌++◌, length, slice_set, slice_index_or, Option}
use Rattle.std.specs.Prelude.{Some, None}
use Rattle.std.specs.List.{sum_by}
use Rattle.rand_core.specs.Stream.{Stream, next_u64}
use Rattle.lru_core.specs.declared.rows.Row.{Row}
use Rattle.lru_core.specs.Rows.{total_weight, a_row}

-- `shards` are plain lists of rows, most recent first; `limit` is the weight that they may have together, and
-- `watermark` the number of rows; the rest counts what was evicted, from 0 again at 2 ^ 64
pub record Core (T : Type 0) : Type 0 where
  pub shards : List (List (Row T))
  pub limit : ℕ
  pub watermark : Option ℕ
  pub evicted_weight : ℕ
  pub evicted_len : ℕ

-- the rows of shard i
abbrev pub rows_at : {T : Type 0} → List (List (Row T)) → ℕ → List (Row T)
rows_at shards i = slice_index_or shards i []

-- the rows of the shard of key k, of n shards
abbrev pub shard_of : {T : Type 0} → ℕ → Core T → ℕ → List (Row T)
shard_of n core k = rows_at core.shards (k % n)

-- the core with other rows in the shard of key k, of n shards
abbrev pub with_shard : {T : Type 0} → ℕ → Core T → ℕ → List (Row T) → Core T
with_shard n core k rows = record core { shards = slice_set core.shards (k % n) rows }

-- what neither the number of rows of one of n shards nor their weight may pass
abbrev pub shard_bound : ℕ → ℕ
shard_bound n = (2 ^ 64 - 1) / n

-- neither the number of a shard's rows nor their weight is past that bound
abbrev pub IsWithin : {T : Type 0} → ℕ → List (Row T) → Type 0
IsWithin n rows = (total_weight rows ≤ shard_bound n) × (length rows ≤ shard_bound n)

-- the weight of all rows
abbrev pub core_weight : {T : Type 0} → List (List (Row T)) → ℕ
core_weight shards = sum_by total_weight shards

-- the number of all rows
abbrev pub core_len : {T : Type 0} → List (List (Row T)) → ℕ
core_len shards = sum_by length shards

abbrev pub passes : Option ℕ → ℕ → Bool
passes None n = false
passes (Some mark) n = nat_lt mark n

-- the weight is past the limit, or the number of rows past the watermark
abbrev pub is_over : {T : Type 0} → Core T → Bool
is_over c = nat_lt c.limit (core_weight c.shards) || passes c.watermark (core_len c.shards)

-- of two shards the longer, of equally long ones the first
abbrev pub longer_of_two : {T : Type 0} → List (List (Row T)) → ℕ → ℕ → ℕ
longer_of_two shards a b = if nat_lt (length (rows_at shards a)) (length (rows_at shards b)) then b else a

-- the shard after i on a circle of n
abbrev pub next_of : ℕ → ℕ → ℕ
next_of n i = if i + 1 == n then 0 else i + 1

-- the first shard from i on that is not empty, around the circle of n, with `steps` looked at
abbrev pub first_nonempty_from : {T : Type 0} → ℕ → List (List (Row T)) → ℕ → ℕ → ℕ
first_nonempty_from n shards zero i = i
first_nonempty_from n shards (suc steps) i = if length (rows_at shards i) == 0 then first_nonempty_from n shards steps (next_of n i) else i

-- the last row of shard j is taken out
abbrev pub IsTail : {T : Type 0} → List (List (Row T)) → List (List (Row T)) → ℕ → T × ℕ → Type 0
IsTail {T} old new j pair = (front : List (Row T)) × (k : ℕ) × (rows_at old j ≡ front ++ a_row k pair.0 pair.1 ∷ []) × (new ≡ slice_set old j front)

-- the last row of shard j is evicted, and counted
abbrev pub IsEviction : {T : Type 0} → Core T → ℕ → T × ℕ → Core T → Type 0
IsEviction old j pair new =
    IsTail old.shards new.shards j pair × (new.limit ≡ old.limit) × (new.watermark ≡ old.watermark)
    × (new.evicted_weight ≡ (old.evicted_weight + pair.1) % 2 ^ 64) × (new.evicted_len ≡ (old.evicted_len + 1) % 2 ^ 64)

-- one step with the draws a and b, over n shards
abbrev pub IsStep : {T : Type 0} → ℕ → Core T → ℕ → ℕ → T × ℕ → Core T → Type 0
IsStep n old a b pair new = (is_over old ≡ true) × IsEviction old (first_nonempty_from n old.shards n (longer_of_two old.shards (a % n) (b % n))) pair new

-- steps that give these pairs in turn, each by the next two words of a stream
abbrev pub Evicts : {T : Type 0} → ℕ → Core T → List (T × ℕ) → Stream → Core T → Stream → Type 0
Evicts n old [] s new rest = (new ≡ old) × (rest ≡ s)
Evicts {T} n old (pair ∷ pairs) s new rest =
    (mid : Core T) × IsStep n old (next_u64 s).0 (next_u64 (next_u64 s).1).0 pair mid × Evicts n mid pairs (next_u64 (next_u64 s).1).1 new rest
