-- Where a manager's rows are stored.
use Rattle.std.specs.Prelude.{◌≡◌, ◌≢◌, ◌<◌, ◌++◌, ℕ, List, [], codes, slice_index, Result, Ok, Err, Vec}
use Rattle.std.specs.declared.alloc.Global.{Global}
use Rattle.lru_files.specs.Folder.{Files, path_in}
use Rattle.lru_files.specs.Names.{hex_word, shard_path, temp_path}
use Rattle.lru_files.specs.declared.fault.ShardSaveError.{ShardSaveError}
use Rattle.lru_files.specs.declared.fault.ShardSaveFailure.{ShardSaveFailure}
use Rattle.lru_files.specs.declared.fault.ShardSaveError.TheVariants.{Setup, AllShardsFailed}
use Rattle.lru_files.specs.declared.fault.ShardSaveReport.{ShardSaveReport}
use Rattle.lru_files.specs.declared.fault.ShardSaveSetupError.TheVariants.{CreateDir, Memory as NoMemory}
use Rattle.cache_entries.specs.declared.entry.CacheEntryKey.{CacheEntryKey}
use Rattle.cache_entries.specs.declared.rows.Tracked.{Tracked}
use Rattle.cache_entries.specs.RowText.{SpellsRecency, recency_text}
use Rattle.cache_words.specs.declared.pack.fault.PackWriteFault.{PackWriteFault}
use Rattle.cache_words.specs.declared.pack.fault.PackWriteFault.TheVariants.{Memory, TooLong}
use Rattle.cache_evict.specs.declared.fault.EvictFault.{EvictFault}
use Rattle.cache_evict.specs.declared.fault.EvictFault.TheVariants as fault
use Rattle.cache_evict.specs.Loads.{CantBeWritten}

-- each shard in a file of its own, or one list in one file
pub data Stored : Type 0 where
  Sharded : (file_name : List ℕ) → Stored
  Single : (file_name : List ℕ) → Stored

-- of `lru::Manager` and of `simple_lru::Manager`
abbrev pub lru_stored : Stored
lru_stored = Sharded (codes "lru.data")

abbrev pub simple_stored : Stored
simple_stored = Single (codes "simple_lru.data")

-- in a directory, the path of a shard's file
abbrev pub file_at : Stored → List ℕ → ℕ → List ℕ
file_at (Sharded file_name) dir shard = shard_path dir file_name shard
file_at (Single file_name) dir shard = path_in dir file_name

-- the name under which one list is written before it is renamed
abbrev pub single_temp : List ℕ → ℕ → List ℕ
single_temp file_name word = file_name ++ (codes "." ++ (hex_word word ++ codes ".tmp"))

-- the path under which a shard is written before it is renamed, by the shard's word
abbrev pub temp_at : Stored → List ℕ → List ℕ → ℕ → List ℕ
temp_at (Sharded file_name) dir words shard = temp_path dir file_name shard (slice_index words shard)
temp_at (Single file_name) dir words shard = path_in dir (single_temp file_name (slice_index words shard))

-- no path but those of n shards changed
abbrev pub OthersStay : (at temp : ℕ → List ℕ) → ℕ → Files → Files → Type 0
OthersStay at temp n old new = (path : List ℕ) → ((i : ℕ) → i < n → path ≢ at i) → ((i : ℕ) → i < n → path ≢ temp i) → new path ≡ old path

-- the bytes are the text of these rows, as it is written
abbrev pub IsText : List Tracked → List ℕ → Type 0
IsText rows bytes = (bytes ≡ recency_text rows) × SpellsRecency rows bytes

-- what writing the text of rows gives
abbrev pub Serializes : List Tracked → Result (Vec ℕ Global) PackWriteFault → Type 0
Serializes rows (Ok text) = IsText rows text.items
Serializes rows (Err Memory) = Unit {0}
Serializes rows (Err TooLong) = CantBeWritten rows

-- the shards that were not saved, with the reasons
abbrev pub Failures : Type 0
Failures = List (ℕ × ShardSaveFailure PackWriteFault)

-- the manager's answer to a save that ended so: out of memory only where nothing was done
abbrev pub Answers : Result (ShardSaveReport PackWriteFault) (ShardSaveError PackWriteFault) → Result (ShardSaveReport PackWriteFault) EvictFault → Type 0
Answers (Ok report) result = result ≡ Ok report
Answers (Err (Setup NoMemory)) result = (v : Vec CacheEntryKey Global) × (result ≡ Err (fault.Memory v)) × (v.items ≡ [])
Answers (Err (Setup CreateDir)) result = (v : Vec CacheEntryKey Global) × (result ≡ Err (fault.File v)) × (v.items ≡ [])
Answers (Err (AllShardsFailed failed)) result =
    (v : Vec CacheEntryKey Global) × (result ≡ Err (fault.File v)) × (v.items ≡ [])
