-- What a load of a manager's files does, and what it reports.
use Rattle.std.specs.Prelude.{◌≡◌, ◌≢◌, ◌⊎◌, ◌<◌, ◌+◌, ℕ, Bool, true, List, [], ◌++◌, length, Option, Some, None, Result, Ok, Err}
use Rattle.lru_files.specs.Folder.{Files, FolderCall, Outcome, IsSame}
use Rattle.lru_files.specs.Load.{CleansUp, LoadsOne, load_error, load_errors}
use Rattle.lru_files.specs.Load as file
use Rattle.lru_files.specs.Told.{Tells}
use Rattle.lru_files.specs.declared.fault.ShardLoadFailure.{ShardLoadFailure}
use Rattle.lru_files.specs.declared.fault.ShardLoadFailure.TheVariants.{Deserialize, Memory as Unnamed}
use Rattle.lru_files.specs.declared.fault.ShardLoadReport.{ShardLoadReport}
use Rattle.cache_entries.specs.declared.rows.Tracked.{Tracked}
use Rattle.cache_entries.specs.RowText.{SpellsRecency, recency_at}
use Rattle.cache_evict.specs.declared.fault.EvictFault.{EvictFault}
use Rattle.cache_evict.specs.declared.fault.EvictFault.TheVariants.{Memory, Weight, Length, NumbersSpent, File}
use Rattle.cache_evict.specs.declared.load_fault.LoadFault.{LoadFault}
use Rattle.cache_evict.specs.declared.load_fault.LoadFault.TheVariants as load
use Rattle.cache_evict.specs.declared.tracker.loading.Again.{Again}
use Rattle.cache_evict.specs.declared.tracker.loading.Again.TheVariants.{PassedOver, MovedFirst}
use Rattle.cache_evict.specs.Loads.{Loads}
use Rattle.cache_evict.specs.Managed.{Managed}
use Rattle.cache_evict.specs.Stored.{Stored, file_at}
use Rattle.cache_evict.specs.Stored.Stored.{Sharded, Single}

-- the file has a text of the rows, or there is no file and no row
abbrev pub HasRows : List Tracked → Option (List ℕ) → Type 0
HasRows rows (Some bytes) = SpellsRecency rows bytes
HasRows rows None = rows ≡ []

-- of n shards, the rows of a text go in as they are read
abbrev pub TakesText : Again → ℕ → Managed → List ℕ → Result (Unit {0}) LoadFault → Managed → Type 0
TakesText again n old bytes result new = Loads again n (recency_at bytes) old new result

-- the same of the text of a shard, whichever it is
abbrev pub TakesShard : ℕ → Managed → ℕ → List ℕ → Result (Unit {0}) LoadFault → Managed → Type 0
TakesShard n old shard bytes result new = TakesText PassedOver n old bytes result new

-- what the fault of a row or of its text is reported as
abbrev pub IsRowFault : LoadFault → EvictFault → Type 0
IsRowFault fault (Memory v) = (v.items ≡ []) × (fault ≡ load.Memory)
IsRowFault fault (File v) = (v.items ≡ []) × (fault ≢ load.Memory)
IsRowFault fault (Weight v) = ⊥
IsRowFault fault (Length v) = ⊥
IsRowFault fault (NumbersSpent v) = ⊥

module _ {D : Type 0} (did : D → FolderCall → Outcome → D → Type 0) (failures : D → ℕ) (keeps : Type 0) (files : D → Files) (n : ℕ) where
  -- nothing was done, and no call failed
  pub record IsUntouched (m m' : Managed) (old new : D) : Type 0 where
    pub manager : m' ≡ m
    pub same : keeps → IsSame (files old) (files new)
    pub told : Tells did failures [] old new

  -- the files of n shards were loaded in turn, after the temporary ones went
  pub record LoadsEach (file_name dir : List ℕ) (m m' : Managed) (old new : D) (report : ShardLoadReport LoadFault) : Type 0 where
    pub loads : file.Loads keeps (λ i. files old (file_at (Sharded file_name) dir i)) (TakesShard n) n report.loaded report.missing report.errored.items m m'
    pub counts : report.loaded + report.missing + length report.errored.items ≡ n
    pub cleaned : keeps → CleansUp dir file_name (files old) (files new) report.cleanup
    pub stay : keeps → (i : ℕ) → i < n → files new (file_at (Sharded file_name) dir i) ≡ files old (file_at (Sharded file_name) dir i)
    pub told : Tells did failures (report.cleanup.failed.items ++ load_errors report.errored.items) old new

  -- the one file was opened and loaded, with this outcome: true if its rows were taken, false if there is no file
  pub record LoadsFile (at : List ℕ) (m m' : Managed) (old new : D) (outcome : Result Bool (ShardLoadFailure LoadFault)) : Type 0 where
    pub named : outcome ≢ Err Unnamed
    pub loads : LoadsOne keeps (files old at) (TakesText MovedFirst n m) m m' outcome
    pub same : keeps → IsSame (files old) (files new)
    pub told : Tells did failures (load_error outcome) old new

  -- the report of one file that was loaded
  pub record IsOneLoaded (report : ShardLoadReport LoadFault) : Type 0 where
    pub loaded : report.loaded ≡ 1
    pub missing : report.missing ≡ 0
    pub errored : report.errored.items ≡ []
    pub removed : report.cleanup.removed ≡ 0
    pub failed : report.cleanup.failed.items ≡ []

  -- What a load does, by its result. Where one file is asked for, and it is absent or faulty, that is the fault of a file; a row of it that is refused for memory is
  -- reported as that. Without memory for the report nothing was done.
  abbrev pub LoadsStored : Stored → List ℕ → Managed → Managed → D → D → Result (ShardLoadReport LoadFault) EvictFault → Type 0
  LoadsStored (Sharded file_name) dir m m' old new (Ok report) = LoadsEach file_name dir m m' old new report
  LoadsStored (Single file_name) dir m m' old new (Ok report) = IsOneLoaded report × LoadsFile (file_at (Single file_name) dir 0) m m' old new (Ok true)
  LoadsStored (Sharded file_name) dir m m' old new (Err (File v)) = ⊥
  LoadsStored (Single file_name) dir m m' old new (Err (File v)) =
      (v.items ≡ []) × ((outcome : Result Bool (ShardLoadFailure LoadFault)) × (outcome ≢ Ok true) × (outcome ≢ Err (Deserialize load.Memory)) × LoadsFile (file_at (Single file_name) dir 0) m m' old new outcome)
  LoadsStored (Sharded file_name) dir m m' old new (Err (Memory v)) = (v.items ≡ []) × IsUntouched m m' old new
  LoadsStored (Single file_name) dir m m' old new (Err (Memory v)) =
      (v.items ≡ []) × (IsUntouched m m' old new ⊎ LoadsFile (file_at (Single file_name) dir 0) m m' old new (Err (Deserialize load.Memory)))
  LoadsStored stored dir m m' old new (Err (Weight v)) = ⊥
  LoadsStored stored dir m m' old new (Err (Length v)) = ⊥
  LoadsStored stored dir m m' old new (Err (NumbersSpent v)) = ⊥
