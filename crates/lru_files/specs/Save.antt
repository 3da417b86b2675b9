-- What a save leaves.
use Rattle.std.specs.Prelude.{◌≡◌, ◌≢◌, ◌⊎◌, ◌<◌, ◌≤◌, ◌+◌, ◌==◌, if◌then◌else◌, ℕ, List, [], ◌∷◌, flat_map, length, take, slice_index, Option, Some, None, Result, Ok, Err, Vec}
use Rattle.std.specs.declared.alloc.Global.{Global}
use Rattle.lru_files.specs.Folder.{Files, FolderCall, Outcome, IsSame, IsPut}
use Rattle.lru_files.specs.Folder.FolderCall.{Make}
use Rattle.lru_files.specs.Folder.Outcome.{Failed}
use Rattle.lru_files.specs.Names.{shard_path, temp_path}
use Rattle.lru_files.specs.Told.{Tells, raised}
use Rattle.lru_files.specs.declared.fault.ShardSaveFailure.{ShardSaveFailure}
use Rattle.lru_files.specs.declared.fault.ShardSaveFailure.TheVariants.{Serialize, Io, Memory}
use Rattle.lru_files.specs.declared.fault.ShardSaveError.{ShardSaveError}
use Rattle.lru_files.specs.declared.fault.ShardSaveError.TheVariants.{Setup, AllShardsFailed}
use Rattle.lru_files.specs.declared.fault.ShardSaveReport.{ShardSaveReport}
use Rattle.lru_files.specs.declared.fault.ShardSaveSetupError.TheVariants.{CreateDir as NoFolder, Memory as NoMemory}
use Rattle.lru_files.specs.declared.fault.ShardFileError.{ShardFileError}
use Rattle.lru_files.specs.declared.fault.ShardFileError.TheVariants.{Create, Write, Flush, Rename, Open, Read, ReadDir, ReadDirEntry, Remove}

-- the file at this path is as before or has all these bytes, and no path but this and the temporary one changed
pub record IsOldOrNew (old : Files) (temp at bytes : List ℕ) (new : Files) : Type 0 where
  pub file : (new at ≡ old at) ⊎ (new at ≡ Some bytes)
  pub others : (path : List ℕ) → path ≢ at → path ≢ temp → new path ≡ old path

-- the shard's bytes are at its path, its temporary path had no file and has none, and no other path changed
pub record IsReplaced (old new : Files) (temp at bytes : List ℕ) : Type 0 where
  pub was : old temp ≡ None
  pub there : new at ≡ Some bytes
  pub gone : new temp ≡ None
  pub others : (path : List ℕ) → path ≢ at → path ≢ temp → new path ≡ old path

-- a new file with these bytes is at the temporary path, and no other path changed
pub record IsAdded (old new : Files) (temp bytes : List ℕ) : Type 0 where
  pub was : old temp ≡ None
  pub put : IsPut old new temp bytes

-- What writing these bytes by way of the temporary path leaves. Where that path has a file, nothing changes, and the writing fails.
abbrev pub LeftByWriting : Files → Files → List ℕ → List ℕ → List ℕ → Result (Unit {0}) ShardFileError → Type 0
LeftByWriting old new temp at bytes (Ok done) = IsReplaced old new temp at bytes
LeftByWriting old new temp at bytes (Err Create) = IsSame old new
LeftByWriting old new temp at bytes (Err Write) = (n : ℕ) × IsAdded old new temp (take n bytes)
LeftByWriting old new temp at bytes (Err Flush) = IsAdded old new temp bytes
LeftByWriting old new temp at bytes (Err Rename) = IsAdded old new temp bytes
LeftByWriting old new temp at bytes (Err Open) = ⊥
LeftByWriting old new temp at bytes (Err Read) = ⊥
LeftByWriting old new temp at bytes (Err ReadDir) = ⊥
LeftByWriting old new temp at bytes (Err ReadDirEntry) = ⊥
LeftByWriting old new temp at bytes (Err Remove) = ⊥

-- the failed call that the writing of a file reports
abbrev pub error_in : Result (Unit {0}) ShardFileError → List ShardFileError
error_in (Ok done) = []
error_in (Err call) = call ∷ []

-- what a failed call leaves at the temporary path: what was there where it isn't created; else a beginning of the bytes, or all of them, where there was no file
abbrev pub TempLeft : List ℕ → (temp new_temp : Option (List ℕ)) → ShardFileError → Type 0
TempLeft bytes temp new_temp Create = new_temp ≡ temp
TempLeft bytes temp new_temp Write = (temp ≡ None) × ((n : ℕ) × (new_temp ≡ Some (take n bytes)))
TempLeft bytes temp new_temp Flush = (temp ≡ None) × (new_temp ≡ Some bytes)
TempLeft bytes temp new_temp Rename = (temp ≡ None) × (new_temp ≡ Some bytes)
TempLeft bytes temp new_temp Open = ⊥
TempLeft bytes temp new_temp Read = ⊥
TempLeft bytes temp new_temp ReadDir = ⊥
TempLeft bytes temp new_temp ReadDirEntry = ⊥
TempLeft bytes temp new_temp Remove = ⊥

-- the outcome of a shard, by the list of those that failed
abbrev pub outcome_of : {X : Type 0} → List (ℕ × X) → ℕ → Result (Unit {0}) X
outcome_of [] shard = Ok tt
outcome_of (failed ∷ rest) shard = if failed.0 == shard then Err failed.1 else outcome_of rest shard

-- numbers from the first on, below the bound, each once and in order
abbrev pub AreNumbered : {X : Type 0} → ℕ → ℕ → List (ℕ × X) → Type 0
AreNumbered first bound [] = Unit {0}
AreNumbered first bound (failed ∷ rest) = (first ≤ failed.0) × (failed.0 < bound) × AreNumbered (failed.0 + 1) bound rest

-- no path but those of the shards changed
abbrev pub OthersStay : (dir file_name : List ℕ) → List ℕ → ℕ → Files → Files → Type 0
OthersStay dir file_name words shards old new = (path : List ℕ)
    → ((i : ℕ) → i < shards → path ≢ shard_path dir file_name i) → ((i : ℕ) → i < shards → path ≢ temp_path dir file_name i (slice_index words i))
    → new path ≡ old path

module _ {E : Type 0} where
  -- the bytes are those that `serialize` gave for this shard
  abbrev pub Gives : (Result (Vec ℕ Global) E → Type 0) → List ℕ → Type 0
  Gives serialized bytes = (given : Vec ℕ Global) × serialized (Ok given) × (given.items ≡ bytes)

  -- What is at a shard's path and at its temporary path, before and after, by the shard's outcome. A shard is saved only where its temporary path has no file.
  abbrev pub ShardLeft : (Result (Vec ℕ Global) E → Type 0) → (file temp new_file new_temp : Option (List ℕ)) → Result (Unit {0}) (ShardSaveFailure E) → Type 0
  ShardLeft serialized file temp new_file new_temp (Ok done) = (bytes : List ℕ) × Gives serialized bytes × (temp ≡ None) × (new_file ≡ Some bytes) × (new_temp ≡ None)
  ShardLeft serialized file temp new_file new_temp (Err (Serialize e)) = serialized (Err e) × (new_file ≡ file) × (new_temp ≡ temp)
  ShardLeft serialized file temp new_file new_temp (Err Memory) = (new_file ≡ file) × (new_temp ≡ temp)
  ShardLeft serialized file temp new_file new_temp (Err (Io call)) = (bytes : List ℕ) × Gives serialized bytes × (new_file ≡ file) × TempLeft bytes temp new_temp call

  -- what a save left at the paths of each shard
  abbrev pub ShardsLeft : (dir file_name : List ℕ) → List ℕ → (ℕ → Result (Vec ℕ Global) E → Type 0) → ℕ → Files → Files → List (ℕ × ShardSaveFailure E) → Type 0
  ShardsLeft dir file_name words serialized shards old new failed = (i : ℕ) → i < shards →
      ShardLeft (serialized i) (old (shard_path dir file_name i)) (old (temp_path dir file_name i (slice_index words i)))
      (new (shard_path dir file_name i)) (new (temp_path dir file_name i (slice_index words i))) (outcome_of failed i)

  -- each shard's file is as before or has all the bytes that were to be saved, each by itself, and nothing but the save's temporary files is beside them
  pub record AreOldOrNew (dir file_name words : List ℕ) (serialized : ℕ → Result (Vec ℕ Global) E → Type 0) (shards : ℕ) (old new : Files) : Type 0 where
    pub each : (i : ℕ) → i < shards → (new (shard_path dir file_name i) ≡ old (shard_path dir file_name i))
        ⊎ ((bytes : List ℕ) × Gives (serialized i) bytes × (new (shard_path dir file_name i) ≡ Some bytes))
    pub others : OthersStay dir file_name words shards old new

  -- what one shard's save left
  pub record OneLeft (serialized : Result (Vec ℕ Global) E → Type 0) (temp at : List ℕ) (old new : Files) (result : Result (Unit {0}) (ShardSaveFailure E)) : Type 0 where
    pub shard : ShardLeft serialized (old at) (old temp) (new at) (new temp) result
    pub others : (path : List ℕ) → path ≢ at → path ≢ temp → new path ≡ old path

  -- one shard's file is as before or has all the bytes that were to be saved
  pub record IsOneOldOrNew (serialized : Result (Vec ℕ Global) E → Type 0) (temp at : List ℕ) (old new : Files) : Type 0 where
    pub file : (new at ≡ old at) ⊎ ((bytes : List ℕ) × Gives serialized bytes × (new at ≡ Some bytes))
    pub others : (path : List ℕ) → path ≢ at → path ≢ temp → new path ≡ old path

  -- what a save left, by its result
  abbrev pub SaveLeft : (dir file_name : List ℕ) → List ℕ → (ℕ → Result (Vec ℕ Global) E → Type 0) → ℕ → Files → Files → Result (ShardSaveReport E) (ShardSaveError E) → Type 0
  SaveLeft dir file_name words serialized shards old new (Ok report) =
      ShardsLeft dir file_name words serialized shards old new report.failed.items × OthersStay dir file_name words shards old new
  SaveLeft dir file_name words serialized shards old new (Err (AllShardsFailed failed)) =
      ShardsLeft dir file_name words serialized shards old new failed.items × OthersStay dir file_name words shards old new
  SaveLeft dir file_name words serialized shards old new (Err (Setup error)) = IsSame old new

  -- the shards saved and those that failed, each once, are all; a save fails as a whole where none of some was saved
  abbrev pub SaveCounts : ℕ → Result (ShardSaveReport E) (ShardSaveError E) → Type 0
  SaveCounts shards (Ok report) = (report.saved + length report.failed.items ≡ shards) × AreNumbered 0 shards report.failed.items × (0 < shards → 0 < report.saved)
  SaveCounts shards (Err (AllShardsFailed failed)) = (length failed.items ≡ shards) × AreNumbered 0 shards failed.items × (0 < shards)
  SaveCounts shards (Err (Setup error)) = Unit {0}

  -- the failed call on a file that a shard's failure reports
  abbrev pub file_error : Result (Unit {0}) (ShardSaveFailure E) → List ShardFileError
  file_error (Ok done) = []
  file_error (Err (Serialize e)) = []
  file_error (Err Memory) = []
  file_error (Err (Io call)) = call ∷ []

  abbrev pub file_errors : List (ℕ × ShardSaveFailure E) → List ShardFileError
  file_errors = flat_map (λ failed. file_error (Err failed.1))

  -- what a save reports of its calls: the failures on files are those in the report, in order; the directory was not made exactly if that is reported; without memory there was no call
  abbrev pub SaveTells : {D : Type 0} → (D → FolderCall → Outcome → D → Type 0) → (D → ℕ) → (dir : List ℕ) → D → D → Result (ShardSaveReport E) (ShardSaveError E) → Type 0
  SaveTells did failures dir old new (Ok report) = Tells did failures (file_errors report.failed.items) old new
  SaveTells did failures dir old new (Err (AllShardsFailed failed)) = Tells did failures (file_errors failed.items) old new
  SaveTells did failures dir old new (Err (Setup NoFolder)) = did old (Make dir) Failed new × (failures new ≡ raised (failures old) 1)
  SaveTells did failures dir old new (Err (Setup NoMemory)) = new ≡ old
