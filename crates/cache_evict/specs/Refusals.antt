-- Why an entry isn't put into its shard.
use Rattle.std.specs.Prelude.{◌≡◌, ℕ, ◌+◌, ◌%◌, ◌<◌, ◌≤◌, ◌⊎◌, [], length, Option, None}
use Rattle.cache_entries.specs.declared.entry.CacheEntryKey.{CacheEntryKey}
use Rattle.lru_core.specs.Rows.{only, others, total_weight, IsLong as IsShardLong}
use Rattle.lru_core.specs.Cores.{Core, rows_at, shard_of, shard_bound, core_len}
use Rattle.lru_core.specs.declared.rows.TheConstants.{MOST_ROWS}
use Rattle.lru_core.specs.declared.lru_unit.fault.LruFault.{LruFault}
use Rattle.lru_core.specs.declared.lru_unit.fault.LruFault.TheVariants as row
use Rattle.cache_evict.specs.declared.tracker.refusal.Refusal.{Refusal}
use Rattle.cache_evict.specs.declared.tracker.refusal.Refusal.TheVariants.{Memory, Weight, Length, Spent}
use Rattle.lru_numbers.specs.declared.fault.NumbersFault.{NumbersFault}
use Rattle.lru_numbers.specs.declared.fault.NumbersFault.TheVariants as numbers
use Rattle.lru_numbers.specs.Names.{IsSpent, HasMany}
use Rattle.cache_evict.specs.Managed.{Managed, IsHeavy, IsLong, IsFull, HasNoOtherReason}

-- of an entry with weight w, as a manager sees it
abbrev pub IsRefusal : ℕ → CacheEntryKey → ℕ → Managed → Refusal → Type 0
IsRefusal n e w m Memory = HasNoOtherReason n e w m
IsRefusal n e w m Weight = IsHeavy n e w m
IsRefusal n e w m Length = IsLong n e m
IsRefusal n e w m Spent = IsFull n e m

-- of a row of number k, as the core sees it
abbrev pub IsRowRefusal : ℕ → ℕ → ℕ → Core ℕ → Refusal → Type 0
IsRowRefusal n k w core Memory = only k (shard_of n core k) ≡ []
IsRowRefusal n k w core Weight = shard_bound n < total_weight (others k (shard_of n core k)) + w
IsRowRefusal n k w core Length = (only k (shard_of n core k) ≡ []) × IsShardLong (shard_bound n) (shard_of n core k)
IsRowRefusal n k w core Spent = ⊥

-- of a row of an entry that has no number yet, by the number that it would get
abbrev pub IsNewRefusal : ℕ → (ℕ → Option CacheEntryKey) → ℕ → ℕ → Core ℕ → Refusal → Type 0
IsNewRefusal n names hash w core Memory = Unit {0}
IsNewRefusal n names hash w core Weight = (k : ℕ) × (names k ≡ None) × (k % n ≡ hash % n) × IsRowRefusal n k w core Weight
IsNewRefusal n names hash w core Length = HasMany MOST_ROWS names ⊎ ((k : ℕ) × (names k ≡ None) × (k % n ≡ hash % n) × IsRowRefusal n k w core Length)
IsNewRefusal n names hash w core Spent = IsSpent n names hash

-- shard s has room for one row more, of weight w, and so have all shards together
abbrev pub HasRoom : ℕ → ℕ → ℕ → Core ℕ → Type 0
HasRoom n s w core = (total_weight (rows_at core.shards s) + w ≤ shard_bound n) × (length (rows_at core.shards s) < shard_bound n) × (core_len core.shards < MOST_ROWS)

-- why there is no room, which is reported before anything grows
abbrev pub IsRoomRefusal : ℕ → ℕ → ℕ → Core ℕ → Refusal → Type 0
IsRoomRefusal n s w core Memory = ⊥
IsRoomRefusal n s w core Weight = shard_bound n < total_weight (rows_at core.shards s) + w
IsRoomRefusal n s w core Length = (shard_bound n ≤ length (rows_at core.shards s)) ⊎ (MOST_ROWS ≤ core_len core.shards)
IsRoomRefusal n s w core Spent = ⊥

abbrev pub refusal_of : NumbersFault → Refusal
refusal_of (numbers.Memory back) = Memory
refusal_of (numbers.Length back) = Length
refusal_of (numbers.NumbersSpent back) = Spent

abbrev pub row_refusal : {D : Type 0} → LruFault D → Refusal
row_refusal (row.Memory back) = Memory
row_refusal (row.Weight back) = Weight
row_refusal (row.Length back) = Length
