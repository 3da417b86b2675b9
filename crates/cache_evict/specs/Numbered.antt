-- Rows of numbers, and the entries that the numbers stand for.
use Rattle.std.specs.Prelude.{◌≡◌, ◌≢◌, ℕ, ◌%◌, ◌<◌, ◌⊎◌, List, [], ◌∷◌, ◌++◌, length, map, unwrap_or, Option, Some, None}
use Rattle.cache_entries.specs.declared.entry.CacheEntryKey.{CacheEntryKey}
use Rattle.cache_entries.specs.declared.entry.CacheEntryKey.TheVariants.{KeyOnly}
use Rattle.cache_entries.specs.declared.rows.Tracked.{Tracked}
use Rattle.lru_core.specs.declared.rows.Row.{Row}
use Rattle.lru_core.specs.Rows.{only, a_row}
use Rattle.lru_core.specs.Cores.{Core, rows_at}
use Rattle.cache_evict.specs.declared.tracker.rows.End.{End}
use Rattle.cache_evict.specs.declared.tracker.rows.End.TheVariants.{First, Last}
use Rattle.lru_numbers.specs.Names.{IsOneToOne}
use Rattle.cache_evict.specs.Managed.{Managed, shard_of}

-- what stands for a number without an entry, which no row has
abbrev pub nobody : CacheEntryKey
nobody = KeyOnly (record { primary = []; variance = None; user_tag = [] })

-- a row with its number's entry
abbrev pub tracked_row : (ℕ → Option CacheEntryKey) → Row ℕ → Tracked
tracked_row names r = record { entry = unwrap_or (names r.key) nobody; weight = r.weight }

abbrev pub tracked : (ℕ → Option CacheEntryKey) → List (Row ℕ) → List Tracked
tracked names rows = map (tracked_row names) rows

-- the row of a number and a weight
abbrev pub row_of_pair : (ℕ → Option CacheEntryKey) → ℕ × ℕ → Tracked
row_of_pair names p = record { entry = unwrap_or (names p.0) nobody; weight = p.1 }

-- the entry of a number
abbrev pub entry_of_pair : (ℕ → Option CacheEntryKey) → ℕ × ℕ → CacheEntryKey
entry_of_pair names p = (row_of_pair names p).entry

-- each of the numbers has an entry
abbrev pub AreNamed : (ℕ → Option CacheEntryKey) → List (ℕ × ℕ) → Type 0
AreNamed names [] = Unit {0}
AreNamed names (p ∷ pairs) = (names p.0 ≢ None) × AreNamed names pairs

-- what a core of numbers says of entries
abbrev pub managed_in : (ℕ → Option CacheEntryKey) → Core ℕ → ℕ → ℕ → Managed
managed_in names core size items =
    record { shards = map (tracked names) core.shards; limit = core.limit; watermark = core.watermark; evicted_size = size; evicted_items = items }

-- each row of shard s, of n shards, holds its own number, which has an entry
abbrev pub AreNumbered : ℕ → (ℕ → Option CacheEntryKey) → ℕ → List (Row ℕ) → Type 0
AreNumbered n names s [] = Unit {0}
AreNumbered n names s (r ∷ rows) = (r.data ≡ r.key) × (r.key % n ≡ s) × (names r.key ≢ None) × AreNumbered n names s rows

-- a number's row, if it has one, holds that number
abbrev pub HasOwnRow : ℕ → List (Row ℕ) → Type 0
HasOwnRow k rows = (only k rows ≡ []) ⊎ ((w : ℕ) × (only k rows ≡ a_row k k w ∷ []))

-- rows with one more at that end
abbrev pub placed : End → Row ℕ → List (Row ℕ) → List (Row ℕ)
placed First row rows = row ∷ rows
placed Last row rows = rows ++ row ∷ []

-- of n shards, the hash leads to the one of e
abbrev pub LeadsHome : ℕ → CacheEntryKey → ℕ → Type 0
LeadsHome n e hash = hash % n ≡ shard_of n e

-- entries, numbers and rows are one to one, and each stands in its entry's shard
pub record IsNumbered (n : ℕ) (names : ℕ → Option CacheEntryKey) (shards : List (List (Row ℕ))) : Type 0 where
  pub some : 0 < n
  pub count : length shards ≡ n
  pub one : IsOneToOne names
  pub home : (k : ℕ) (e : CacheEntryKey) → names k ≡ Some e → k % n ≡ shard_of n e
  pub numbered : (s : ℕ) → AreNumbered n names s (rows_at shards s)
  pub known : (k : ℕ) (e : CacheEntryKey) → names k ≡ Some e → (w : ℕ) × (only k (rows_at shards (k % n)) ≡ a_row k k w ∷ [])
