-- What a save of a manager's shards leaves, and what it reports.
use Rattle.std.specs.Prelude.{◌≡◌, ◌⊎◌, ◌<◌, ◌+◌, ℕ, List, [], length, Some, Result, Ok, Err}
use Rattle.lru_files.specs.Folder.{Files, FolderCall, Outcome, IsSame}
use Rattle.lru_files.specs.Folder.FolderCall.{Make}
use Rattle.lru_files.specs.Folder.Outcome.{Failed}
use Rattle.lru_files.specs.Save.{AreNumbered, ShardLeft, file_errors, outcome_of}
use Rattle.lru_files.specs.Told.{Tells, raised}
use Rattle.lru_files.specs.declared.fault.ShardSaveReport.{ShardSaveReport}
use Rattle.cache_words.specs.declared.pack.fault.PackWriteFault.{PackWriteFault}
use Rattle.cache_evict.specs.declared.fault.EvictFault.{EvictFault}
use Rattle.cache_evict.specs.declared.fault.EvictFault.TheVariants.{Memory, Weight, Length, NumbersSpent, File}
use Rattle.cache_entries.specs.declared.rows.Tracked.{Tracked}
use Rattle.cache_evict.specs.Managed.{Managed, rows_at}
use Rattle.cache_evict.specs.Stored.{Failures, IsText, OthersStay, Serializes}

-- each shard's file is as before or has the whole text of the shard's rows, each by itself, and nothing but the save's temporary files is beside them
pub record AreOldOrWhole (m : Managed) (n : ℕ) (at temp : ℕ → List ℕ) (old new : Files) : Type 0 where
  pub each : (i : ℕ) → i < n → (new (at i) ≡ old (at i)) ⊎ ((bytes : List ℕ) × IsText (rows_at m.shards i) bytes × (new (at i) ≡ Some bytes))
  pub others : OthersStay at temp n old new

-- each shard's file and temporary file are as its outcome says, and no other path changed
pub record AreLeft (m : Managed) (n : ℕ) (at temp : ℕ → List ℕ) (old new : Files) (failed : Failures) : Type 0 where
  pub each : (i : ℕ) → i < n → ShardLeft (Serializes (rows_at m.shards i)) (old (at i)) (old (temp i)) (new (at i)) (new (temp i)) (outcome_of failed i)
  pub others : OthersStay at temp n old new

-- as what it is reported that there is no name for the rows' file, or no text of them
abbrev pub IsUnwritten : EvictFault → Type 0
IsUnwritten (Memory v) = v.items ≡ []
IsUnwritten (File v) = v.items ≡ []
IsUnwritten (Weight v) = ⊥
IsUnwritten (Length v) = ⊥
IsUnwritten (NumbersSpent v) = ⊥

module _ {D : Type 0} (did : D → FolderCall → Outcome → D → Type 0) (failures : D → ℕ) (keeps : Type 0) (files : D → Files) (m : Managed) (n : ℕ) (at temp : ℕ → List ℕ) (dir : List ℕ) where
  -- each of n shards was tried; these failed, and the others are saved
  pub record Tries (old new : D) (failed : Failures) : Type 0 where
    pub numbered : AreNumbered 0 n failed
    pub told : Tells did failures (file_errors failed) old new
    pub left : keeps → AreLeft m n at temp (files old) (files new) failed

  -- the directory could not be made
  pub record IsUnmade (old new : D) : Type 0 where
    pub make : did old (Make dir) Failed new
    pub counted : failures new ≡ raised (failures old) 1
    pub same : keeps → IsSame (files old) (files new)

  -- each of n shards was tried, and all failed
  abbrev pub Fails : D → D → Type 0
  Fails old new = (failed : Failures) × Tries old new failed × (length failed ≡ n)

  -- What a save does, by its result. One that saved no shard is the fault of a file; it is out of memory only where it made no call of the folder.
  abbrev pub Saves : D → D → Result (ShardSaveReport PackWriteFault) EvictFault → Type 0
  Saves old new (Ok report) = Tries old new report.failed.items × (report.saved + length report.failed.items ≡ n) × (0 < report.saved)
  Saves old new (Err (File v)) = (v.items ≡ []) × (IsUnmade old new ⊎ Fails old new)
  Saves old new (Err (Memory v)) = (v.items ≡ []) × (new ≡ old)
  Saves old new (Err (Weight v)) = ⊥
  Saves old new (Err (Length v)) = ⊥
  Saves old new (Err (NumbersSpent v)) = ⊥
