-- Saves and loads of one directory, one after another.
use Rattle.std.specs.Prelude.{◌≡◌, ◌⊎◌, ◌<◌, ℕ, List, [], ◌∷◌, Some}
use Rattle.lru_files.specs.Folder.{Files, IsSame}
use Rattle.cache_evict.specs.Managed.{Managed, rows_at}
use Rattle.cache_evict.specs.Saves.{AreOldOrWhole}
use Rattle.cache_evict.specs.Stored.{IsText}

-- a save of what a manager holds, under these temporary paths, which ended or was stopped anywhere; or a load
pub data Turn : Type 0 where
  Save : Managed → (temp : ℕ → List ℕ) → Turn
  Load : Turn

module _ (n : ℕ) (at : ℕ → List ℕ) where
  -- what a turn leaves of the files of n shards
  abbrev pub Leaves : Turn → Files → Files → Type 0
  Leaves (Save m temp) old new = AreOldOrWhole m n at temp old new
  Leaves Load old new = (i : ℕ) → i < n → new (at i) ≡ old (at i)

  abbrev pub LeaveInTurn : List Turn → Files → Files → Type 0
  LeaveInTurn [] old new = IsSame old new
  LeaveInTurn (turn ∷ turns) old new = (mid : Files) × Leaves turn old mid × LeaveInTurn turns mid new

  -- the shard's file has the whole text that one of the saves had for it
  abbrev pub IsOfOneSave : List Turn → ℕ → Files → Type 0
  IsOfOneSave [] i new = ⊥
  IsOfOneSave (Save m temp ∷ turns) i new = ((bytes : List ℕ) × IsText (rows_at m.shards i) bytes × (new (at i) ≡ Some bytes)) ⊎ IsOfOneSave turns i new
  IsOfOneSave (Load ∷ turns) i new = IsOfOneSave turns i new
