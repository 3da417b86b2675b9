-- What a tier reports of the files of its order of use.
use Rattle.std.specs.Prelude.{◌≡◌, ℕ, List, Result, Ok, Err}
use Rattle.std.specs.FinMap.{len}
use Rattle.lru_files.specs.Folder.{Files, FolderCall, Outcome}
use Rattle.lru_files.specs.declared.fault.ShardLoadReport.{ShardLoadReport}
use Rattle.lru_files.specs.declared.fault.ShardSaveReport.{ShardSaveReport}
use Rattle.cache_words.specs.declared.pack.fault.PackWriteFault.{PackWriteFault}
use Rattle.cache_evict.specs.declared.fault.EvictFault.{EvictFault}
use Rattle.cache_evict.specs.declared.load_fault.LoadFault.{LoadFault}
use Rattle.cache_evict.specs.FileLoads.{LoadsStored}
use Rattle.cache_evict.specs.Managed.{Managed}
use Rattle.cache_evict.specs.Saves.{Saves}
use Rattle.cache_evict.specs.Stored.{file_at, temp_at, lru_stored}
use Rattle.tier_model.specs.declared.event.TierFault.{TierFault}
use Rattle.tier_model.specs.Calls.{nothing_done}
use Rattle.tier_model.specs.Rows.{Bodies}
use Rattle.tier_requests.specs.Faults.{fault_for}

-- nothing is stored, and no eviction was counted
pub record IsUnused (stored : Bodies) (m : Managed) : Type 0 where
  pub bodies : len stored ≡ 0
  pub evicted_size : m.evicted_size ≡ 0
  pub evicted_items : m.evicted_items ≡ 0

-- what the tier reports of what came of the files: a fault of the folder is `Folder`, and for memory nothing was done to an entry
abbrev pub IsToldOfFiles : {X : Type 0} → Result X EvictFault → Result X TierFault → Type 0
IsToldOfFiles (Ok report) result = result ≡ Ok report
IsToldOfFiles (Err fault) result = result ≡ Err (fault_for fault nothing_done)

module _ {D : Type 0} (did : D → FolderCall → Outcome → D → Type 0) (failures : D → ℕ) (keeps : Type 0) (files : D → Files) (n : ℕ) (dir : List ℕ) where
  -- the order of use was saved, each of its n shards to its file in `dir`
  abbrev pub SavesOrder : Managed → (words : List ℕ) → D → D → Result (ShardSaveReport PackWriteFault) TierFault → Type 0
  SavesOrder m words old new result =
      (came : Result (ShardSaveReport PackWriteFault) EvictFault) × IsToldOfFiles came result
      × Saves did failures keeps files m n (file_at lru_stored dir) (temp_at lru_stored dir words) dir old new came

  -- what these files have was put behind an order of use
  abbrev pub LoadsOrder : Managed → Managed → D → D → Result (ShardLoadReport LoadFault) TierFault → Type 0
  LoadsOrder m m' old new result =
      (came : Result (ShardLoadReport LoadFault) EvictFault) × IsToldOfFiles came result × LoadsStored did failures keeps files n lru_stored dir m m' old new came
