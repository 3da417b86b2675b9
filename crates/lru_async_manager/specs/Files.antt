-- What saves and loads over actors do to the files.
use Rattle.std.specs.Prelude.{◌≡◌, ◌<◌, ◌+◌, ℕ, List, [], ◌++◌, length, codes, Some, None, Result, Ok, Err, Vec}
use Rattle.std.specs.declared.alloc.Global.{Global}
use Rattle.lru_files.specs.Folder.{Files, FolderCall, Outcome, IsSame}
use Rattle.lru_files.specs.Load.{CleansUp, load_errors}
use Rattle.lru_files.specs.Load as file
use Rattle.lru_files.specs.Names.{shard_path}
use Rattle.lru_files.specs.Save.{SaveCounts, SaveLeft, SaveTells}
use Rattle.lru_files.specs.Told.{Tells}
use Rattle.lru_files.specs.declared.fault.ShardLoadReport.{ShardLoadReport}
use Rattle.lru_files.specs.declared.fault.ShardSaveError.{ShardSaveError}
use Rattle.lru_files.specs.declared.fault.ShardSaveError.TheVariants.{Setup, AllShardsFailed}
use Rattle.lru_files.specs.declared.fault.ShardSaveReport.{ShardSaveReport}
use Rattle.lru_files.specs.declared.fault.ShardSaveSetupError.TheVariants.{CreateDir, Memory as NoMemory}
use Rattle.cache_entries.specs.declared.entry.CacheEntryKey.{CacheEntryKey}
use Rattle.cache_entries.specs.declared.rows.Tracked.{Tracked}
use Rattle.cache_entries.specs.RowText.{recency_at, recency_text}
use Rattle.cache_evict.specs.declared.fault.EvictFault.{EvictFault}
use Rattle.cache_evict.specs.declared.fault.EvictFault.TheVariants as fault
use Rattle.cache_evict.specs.Loads.{CantBeWritten}
use Rattle.lru_async_manager.specs.declared.fault.RowsFault.{RowsFault}
use Rattle.lru_async_manager.specs.declared.fault.RowsFault.TheVariants.{Text, Memory, Put}
use Rattle.lru_async_manager.specs.declared.fault.TextFault.{TextFault}

-- the whole text of some rows, or a fault
abbrev pub IsSomeText : Result (Vec ℕ Global) TextFault → Type 0
IsSomeText (Ok text) = (rows : List Tracked) × (text.items ≡ recency_text rows) × (CantBeWritten rows → ⊥)
IsSomeText (Err fault) = Unit {0}

-- the manager's answer to a save that ended so: out of memory only where nothing was done
abbrev pub Answers : Result (ShardSaveReport TextFault) (ShardSaveError TextFault) → Result (ShardSaveReport TextFault) EvictFault → Type 0
Answers (Ok report) result = result ≡ Ok report
Answers (Err (Setup NoMemory)) result = (v : Vec CacheEntryKey Global) × (result ≡ Err (fault.Memory v)) × (v.items ≡ [])
Answers (Err (Setup CreateDir)) result = (v : Vec CacheEntryKey Global) × (result ≡ Err (fault.File v)) × (v.items ≡ [])
Answers (Err (AllShardsFailed failed)) result =
    (v : Vec CacheEntryKey Global) × (result ≡ Err (fault.File v)) × (v.items ≡ [])

-- it is out of memory
abbrev pub IsMemory : {X : Type 0} → Result X EvictFault → Type 0
IsMemory (Err (fault.Memory v)) = Unit {0}
IsMemory _ = ⊥

-- the fault of a row, and not of the text
abbrev pub IsOfRow : RowsFault → Type 0
IsOfRow (Text fault) = ⊥
IsOfRow Memory = Unit {0}
IsOfRow (Put fault) = Unit {0}

-- a text is reported as faulty just where it is
abbrev pub IsRead : List ℕ → Result (Unit {0}) RowsFault → Type 0
IsRead bytes (Ok done) = (recency_at bytes).1 ≡ None
IsRead bytes (Err (Text fault)) = (recency_at bytes).1 ≡ Some fault
IsRead bytes (Err Memory) = (recency_at bytes).1 ≡ None
IsRead bytes (Err (Put fault)) = (recency_at bytes).1 ≡ None

module _ {D : Type 0} (did : D → FolderCall → Outcome → D → Type 0) (failures : D → ℕ) (keeps : Type 0) (files : D → Files) (n : ℕ) where
  -- a save of n shards, which ended in some way, of which this is the answer
  pub record SavesTexts (dir words : List ℕ) (old new : D) (result : Result (ShardSaveReport TextFault) EvictFault) : Type 0 where
    pub ended : Result (ShardSaveReport TextFault) (ShardSaveError TextFault)
    pub answer : Answers ended result
    pub left : keeps → SaveLeft dir (codes "lru.data") words (λ shard. IsSomeText) n (files old) (files new) ended
    pub counts : SaveCounts n ended
    pub told : SaveTells did failures dir old new ended

  -- the files of n shards were read in turn, after the temporary ones went
  pub record ReadsEach (dir : List ℕ) (old new : D) (report : ShardLoadReport RowsFault) : Type 0 where
    pub loads : file.Loads keeps (λ i. files old (shard_path dir (codes "lru.data") i)) (λ (before : Unit {0}) i bytes result after. IsRead bytes result)
        n report.loaded report.missing report.errored.items tt tt
    pub counts : report.loaded + report.missing + length report.errored.items ≡ n
    pub cleaned : keeps → CleansUp dir (codes "lru.data") (files old) (files new) report.cleanup
    pub stay : keeps → (i : ℕ) → i < n → files new (shard_path dir (codes "lru.data") i) ≡ files old (shard_path dir (codes "lru.data") i)
    pub told : Tells did failures (report.cleanup.failed.items ++ load_errors report.errored.items) old new

  -- what a load does to the files, by its result
  abbrev pub LoadsTexts : List ℕ → D → D → Result (ShardLoadReport RowsFault) EvictFault → Type 0
  LoadsTexts dir old new (Ok report) = ReadsEach dir old new report
  LoadsTexts dir old new (Err (fault.Memory v)) = (v.items ≡ []) × (keeps → IsSame (files old) (files new)) × Tells did failures [] old new
  LoadsTexts dir old new (Err (fault.File v)) = ⊥
  LoadsTexts dir old new (Err (fault.Weight v)) = ⊥
  LoadsTexts dir old new (Err (fault.Length v)) = ⊥
  LoadsTexts dir old new (Err (fault.NumbersSpent v)) = ⊥
