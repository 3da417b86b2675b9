-- How failures of calls are reported and counted.
use Rattle.std.specs.Prelude.{◌≡◌, ◌+◌, ◌-◌, ◌^◌, ℕ, zero, suc, min, List, [], ◌∷◌, flat_map, length, Result, Ok, Err}
use Rattle.lru_files.specs.Folder.{FolderCall, Outcome, FolderStep, IsRun}
use Rattle.lru_files.specs.Folder.Outcome.{Done, Failed, FailedAtEntry}
use Rattle.lru_files.specs.Folder.FolderCall.{Make, Create, Write, Flush, Rename, Open, Read, Names, Remove}
use Rattle.lru_files.specs.declared.folder.ListFault.{ListFault}
use Rattle.lru_files.specs.declared.folder.ListFault.TheVariants.{Dir, Entry}
use Rattle.lru_files.specs.declared.fault.ShardFileError.{ShardFileError}
use Rattle.lru_files.specs.declared.fault.ShardFileError.TheVariants as told

-- the outcome of a call with this result
abbrev pub outcome_of : {X E : Type 0} → Result X E → Outcome
outcome_of (Ok x) = Done
outcome_of (Err e) = Failed

abbrev pub list_outcome : {X : Type 0} → Result X ListFault → Outcome
list_outcome (Ok x) = Done
list_outcome (Err Dir) = Failed
list_outcome (Err Entry) = FailedAtEntry

-- the count of failures after so many more; at the greatest u64 it stays
abbrev pub raised : ℕ → ℕ → ℕ
raised count zero = count
raised count (suc more) = min (raised count more + 1) (2 ^ 64 - 1)

-- a call that failed is counted, and no other
abbrev pub Counts : {X E : Type 0} → Result X E → ℕ → ℕ → Type 0
Counts (Ok x) before now = now ≡ before
Counts (Err e) before now = now ≡ raised before 1

-- what a call that ended so is reported as; that a directory could not be made is reported apart
abbrev pub error_of : Outcome → FolderCall → List ShardFileError
error_of Done call = []
error_of FailedAtEntry call = told.ReadDirEntry ∷ []
error_of Failed (Make dir) = []
error_of Failed (Create at) = told.Create ∷ []
error_of Failed (Write bytes) = told.Write ∷ []
error_of Failed Flush = told.Flush ∷ []
error_of Failed (Rename from to) = told.Rename ∷ []
error_of Failed (Open at) = told.Open ∷ []
error_of Failed Read = told.Read ∷ []
error_of Failed (Names dir) = told.ReadDir ∷ []
error_of Failed (Remove at) = told.Remove ∷ []

module _ {D : Type 0} where
  abbrev pub errors_of : List (FolderStep D) → List ShardFileError
  errors_of = flat_map (λ step. error_of step.outcome step.call)

  -- These errors are just the failures of the calls that led from the one state to the other, in order, and each was counted.
  pub record Tells (did : D → FolderCall → Outcome → D → Type 0) (failures : D → ℕ) (errors : List ShardFileError) (old new : D) : Type 0 where
    pub steps : List (FolderStep D)
    pub run : IsRun did old steps new
    pub told : errors_of steps ≡ errors
    pub counted : failures new ≡ raised (failures old) (length errors)
