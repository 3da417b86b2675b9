-- What a load reads, and what it leaves in the folder.
use Rattle.std.specs.Prelude.{◌≡◌, ◌⊎◌, ◌<◌, ◌+◌, ◌^◌, ℕ, Bool, true, false, List, [], ◌∷◌, ◌++◌, length, filter, map, flat_map, Option, Some, None, Result, Ok, Err}
use Rattle.lru_files.specs.Folder.{Files, FolderCall, Outcome, IsSame, IsGone, IsListing, path_in}
use Rattle.lru_files.specs.Names.{is_temp_name, shard_path}
use Rattle.lru_files.specs.Told.{Tells}
use Rattle.lru_files.specs.declared.fault.ShardFileError.{ShardFileError}
use Rattle.lru_files.specs.declared.fault.ShardFileError.TheVariants.{Open, Read, ReadDir, ReadDirEntry, Remove}
use Rattle.lru_files.specs.declared.fault.ShardLoadFailure.{ShardLoadFailure}
use Rattle.lru_files.specs.declared.fault.ShardLoadFailure.TheVariants.{Io, Deserialize, Memory}
use Rattle.lru_files.specs.declared.fault.ShardLoadReport.{ShardLoadReport}
use Rattle.lru_files.specs.declared.fault.TempFileCleanupReport.{TempFileCleanupReport}

-- so many of the files at these paths were removed, each of which was there; the other removals changed nothing
pub data Removes : List (List ℕ) → ℕ → Files → Files → Type 0 where
  NoPath : (old new : Files) → IsSame old new → Removes [] 0 old new
  Gone : (paths : List (List ℕ)) (at : List ℕ) (removed : ℕ) (old now new : Files)
      → Removes paths removed old now → IsGone now new at → Removes (paths ++ at ∷ []) (removed + 1) old new
  Left : (paths : List (List ℕ)) (at : List ℕ) (removed : ℕ) (old now new : Files)
      → Removes paths removed old now → IsSame now new → Removes (paths ++ at ∷ []) removed old new

-- a failure before the loader was asked
abbrev pub IsUnread : {E : Type 0} → ShardLoadFailure E → Type 0
IsUnread (Io call) = (call ≡ Open) ⊎ (call ≡ Read)
IsUnread (Deserialize error) = ⊥
IsUnread Memory = Unit {0}

-- The shards below a number were loaded in turn: so many had a file that the loader took, so many had none, and these failed.
-- Where the folder keeps its files (`keeps`), what was read is what is at the shard's path.
pub data Loads {D E : Type 0} (keeps : Type 0) (file_of : ℕ → Option (List ℕ)) (step : D → ℕ → List ℕ → Result (Unit {0}) E → D → Type 0) :
    ℕ → ℕ → ℕ → List (ℕ × ShardLoadFailure E) → D → D → Type 0 where
  NoShard : (start : D) → Loads keeps file_of step 0 0 0 [] start start
  Taken : (n loaded missing : ℕ) (errored : List (ℕ × ShardLoadFailure E)) (start now next : D) (bytes : List ℕ)
      → Loads keeps file_of step n loaded missing errored start now → (keeps → file_of n ≡ Some bytes) → step now n bytes (Ok tt) next
      → Loads keeps file_of step (n + 1) (loaded + 1) missing errored start next
  Missing : (n loaded missing : ℕ) (errored : List (ℕ × ShardLoadFailure E)) (start now : D)
      → Loads keeps file_of step n loaded missing errored start now → (keeps → file_of n ≡ None)
      → Loads keeps file_of step (n + 1) loaded (missing + 1) errored start now
  Refused : (n loaded missing : ℕ) (errored : List (ℕ × ShardLoadFailure E)) (start now next : D) (bytes : List ℕ) (error : E)
      → Loads keeps file_of step n loaded missing errored start now → (keeps → file_of n ≡ Some bytes) → step now n bytes (Err error) next
      → Loads keeps file_of step (n + 1) loaded missing (errored ++ (n, Deserialize error) ∷ []) start next
  Unread : (n loaded missing : ℕ) (errored : List (ℕ × ShardLoadFailure E)) (start now : D) (failure : ShardLoadFailure E)
      → Loads keeps file_of step n loaded missing errored start now → IsUnread failure
      → Loads keeps file_of step (n + 1) loaded missing (errored ++ (n, failure) ∷ []) start now

-- what one shard's load did, where its path has this file: true if the loader took it, false if there is none
abbrev pub LoadsOne : {D E : Type 0} → Type 0 → Option (List ℕ) → (List ℕ → Result (Unit {0}) E → D → Type 0) → D → D → Result Bool (ShardLoadFailure E) → Type 0
LoadsOne keeps file step now next (Ok true) = (bytes : List ℕ) × (keeps → file ≡ Some bytes) × step bytes (Ok tt) next
LoadsOne keeps file step now next (Ok false) = (keeps → file ≡ None) × (now ≡ next)
LoadsOne keeps file step now next (Err (Deserialize error)) = (bytes : List ℕ) × (keeps → file ≡ Some bytes) × step bytes (Err error) next
LoadsOne keeps file step now next (Err (Io call)) = ((call ≡ Open) ⊎ (call ≡ Read)) × (now ≡ next)
LoadsOne keeps file step now next (Err Memory) = now ≡ next

-- each of them a failed removal
abbrev pub AreRemovals : List ShardFileError → Type 0
AreRemovals [] = Unit {0}
AreRemovals (call ∷ calls) = (call ≡ Remove) × AreRemovals calls

-- Before a load: either the listing failed and nothing changed, or of all names in the directory those of temporary files were removed, but for failures.
abbrev pub CleansUp : (dir file_name : List ℕ) → Files → Files → TempFileCleanupReport → Type 0
CleansUp dir file_name old new report = ((report.removed ≡ 0) × ((report.failed.items ≡ ReadDir ∷ []) ⊎ (report.failed.items ≡ ReadDirEntry ∷ [])) × IsSame old new)
    ⊎ ((names : List (List ℕ)) × IsListing old dir names × AreRemovals report.failed.items
    × (report.removed + length report.failed.items ≡ length (filter (is_temp_name file_name) names))
    × Removes (map (path_in dir) (filter (is_temp_name file_name) names)) report.removed old new)

-- the files after a load: those of the shards stay
abbrev pub ShardsStay : (dir file_name : List ℕ) → Files → Files → Type 0
ShardsStay dir file_name old new = (i : ℕ) → i < 2 ^ 64 → new (shard_path dir file_name i) ≡ old (shard_path dir file_name i)

-- the failed call on a file that a shard's failure reports
abbrev pub load_error : {E : Type 0} → Result Bool (ShardLoadFailure E) → List ShardFileError
load_error (Ok found) = []
load_error (Err (Deserialize error)) = []
load_error (Err Memory) = []
load_error (Err (Io call)) = call ∷ []

abbrev pub load_errors : {E : Type 0} → List (ℕ × ShardLoadFailure E) → List ShardFileError
load_errors = flat_map (λ failed. load_error (Err failed.1))

-- what a load reports of its calls: the failures on files are those in the report, in order; where memory was refused, no call failed
abbrev pub LoadTells : {D E X : Type 0} → (D → FolderCall → Outcome → D → Type 0) → (D → ℕ) → D → D → Result (ShardLoadReport E) X → Type 0
LoadTells did failures old new (Ok report) = Tells did failures (report.cleanup.failed.items ++ load_errors report.errored.items) old new
LoadTells did failures old new (Err error) = Tells did failures [] old new
