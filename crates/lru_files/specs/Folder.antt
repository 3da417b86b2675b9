-- Files under paths, what each call of a folder does to them, and what a stop may leave.
use Rattle.std.specs.Prelude.{◌≡◌, ◌≢◌, ◌⊎◌, ◌↔◌, ℕ, List, [], ◌∷◌, ◌++◌, take, Option, Some, None, Bool, true, false, IsSome, Contains}

-- the bytes under each path
abbrev pub Files : Type 0
Files = List ℕ → Option (List ℕ)

-- a call of a folder; paths, names and written data are bytes
pub data FolderCall : Type 0 where
  Make : List ℕ → FolderCall
  Create : List ℕ → FolderCall
  Write : List ℕ → FolderCall
  Flush : FolderCall
  Rename : List ℕ → List ℕ → FolderCall
  Open : List ℕ → FolderCall
  Read : FolderCall
  Names : List ℕ → FolderCall
  Remove : List ℕ → FolderCall

-- how a call ended; a listing may also fail at one of its entries
pub data Outcome : Type 0 where
  Done : Outcome
  Failed : Outcome
  FailedAtEntry : Outcome

-- nothing changed
abbrev pub IsSame : Files → Files → Type 0
IsSame old new = (path : List ℕ) → new path ≡ old path

-- this path has these bytes, and no other path changed
pub record IsPut (old new : Files) (at bytes : List ℕ) : Type 0 where
  pub there : new at ≡ Some bytes
  pub others : (path : List ℕ) → path ≢ at → new path ≡ old path

-- this path had a file and has none, and no other path changed
pub record IsGone (old new : Files) (at : List ℕ) : Type 0 where
  pub was : IsSome (old at)
  pub gone : new at ≡ None
  pub others : (path : List ℕ) → path ≢ at → new path ≡ old path

-- the file of the one path is under the other, in the place of what was there, and no third path changed
pub record IsMoved (old new : Files) (from to : List ℕ) : Type 0 where
  pub there : new to ≡ old from
  pub gone : from ≢ to → new from ≡ None
  pub others : (path : List ℕ) → path ≢ from → path ≢ to → new path ≡ old path

-- this path had a file, which has these bytes after those that it had, and no other path changed
pub record IsGrown (old new : Files) (at bytes : List ℕ) : Type 0 where
  pub was : IsSome (old at)
  pub grown : (before : List ℕ) → old at ≡ Some before → new at ≡ Some (before ++ bytes)
  pub others : (path : List ℕ) → path ≢ at → new path ≡ old path

-- what a write does, where this path is open
abbrev pub Writes : List ℕ → Option (List ℕ) → Files → Files → Type 0
Writes bytes None old new = IsSame old new
Writes bytes (Some at) old new = IsGrown old new at bytes

-- what a call does, where this path is open
abbrev pub DoesFolderCall : FolderCall → Option (List ℕ) → Files → Files → Type 0
DoesFolderCall (Create at) opened old new = IsPut old new at []
DoesFolderCall (Write bytes) opened old new = Writes bytes opened old new
DoesFolderCall (Rename from to) opened old new = IsMoved old new from to
DoesFolderCall (Remove at) opened old new = IsGone old new at
DoesFolderCall (Make dir) opened old new = IsSame old new
DoesFolderCall Flush opened old new = IsSame old new
DoesFolderCall (Open at) opened old new = IsSame old new
DoesFolderCall Read opened old new = IsSame old new
DoesFolderCall (Names dir) opened old new = IsSame old new

-- what a failed call leaves: nothing, or of a write any beginning of its bytes
abbrev pub Refuses : FolderCall → Option (List ℕ) → Files → Files → Type 0
Refuses (Write bytes) opened old new = IsSame old new ⊎ ((n : ℕ) × Writes (take n bytes) opened old new)
Refuses (Create at) opened old new = IsSame old new
Refuses (Rename from to) opened old new = IsSame old new
Refuses (Remove at) opened old new = IsSame old new
Refuses (Make dir) opened old new = IsSame old new
Refuses Flush opened old new = IsSame old new
Refuses (Open at) opened old new = IsSame old new
Refuses Read opened old new = IsSame old new
Refuses (Names dir) opened old new = IsSame old new

-- what a call that ended so did
abbrev pub Ends : FolderCall → Outcome → Option (List ℕ) → Files → Files → Type 0
Ends call Done opened old new = DoesFolderCall call opened old new
Ends call Failed opened old new = Refuses call opened old new
Ends call FailedAtEntry opened old new = Refuses call opened old new

-- what a stop during a call may leave: all that the call does, or what it leaves where it fails
abbrev pub StoppedIn : FolderCall → Option (List ℕ) → Files → Files → Type 0
StoppedIn call opened old new = Refuses call opened old new ⊎ DoesFolderCall call opened old new

-- the file is there and open, or there is none
abbrev pub OpensFile : List ℕ → Files → Bool → Option (List ℕ) → Type 0
OpensFile at files true opened = IsSome (files at) × (opened ≡ Some at)
OpensFile at files false opened = files at ≡ None

-- the path of a name in a directory
abbrev pub path_in : List ℕ → List ℕ → List ℕ
path_in dir name = dir ++ 47 ∷ name

-- a name, and not a path: without '/'
abbrev pub IsName : List ℕ → Type 0
IsName name = Contains name 47 → ⊥

-- each name once
abbrev pub EachOnce : List (List ℕ) → Type 0
EachOnce [] = Unit {0}
EachOnce (name ∷ names) = (Contains names name → ⊥) × EachOnce names

-- the names of a directory's files, each once
pub record IsListing (files : Files) (dir : List ℕ) (names : List (List ℕ)) : Type 0 where
  pub each : (name : List ℕ) → Contains names name ↔ (IsName name × IsSome (files (path_in dir name)))
  pub once : EachOnce names

-- a call, how it ended, and the state after it
pub record FolderStep (D : Type 0) : Type 0 where
  pub call : FolderCall
  pub outcome : Outcome
  pub after : D

module _ {D : Type 0} where
  -- these calls led from the one state to the other
  abbrev pub IsRun : (D → FolderCall → Outcome → D → Type 0) → D → List (FolderStep D) → D → Type 0
  IsRun did start [] end = start ≡ end
  IsRun did start (step ∷ steps) end = did start step.call step.outcome step.after × IsRun did step.after steps end

  -- a stop before, during or after any of these calls leaves files with P
  abbrev pub EachStop : (D → Option (List ℕ)) → (D → Files) → (Files → Type 0) → D → List (FolderStep D) → Type 0
  EachStop opened files P start [] = P (files start)
  EachStop opened files P start (step ∷ steps) =
      ((left : Files) → StoppedIn step.call (opened start) (files start) left → P left) × EachStop opened files P step.after steps

  -- the calls that led from the one state to the other, stopped anywhere, leave files with P
  pub record StopsLeave (did : D → FolderCall → Outcome → D → Type 0) (opened : D → Option (List ℕ)) (files : D → Files) (P : Files → Type 0) (old new : D) : Type 0 where
    pub steps : List (FolderStep D)
    pub run : IsRun did old steps new
    pub stops : EachStop opened files P old steps
