-- What a start and a save do, over a folder in memory.
use Rattle.std.specs.Prelude.{◌≡◌, ℕ, List, length, codes, replicate, Some, Result, Ok, Err}
use Rattle.lru_files.specs.Folder.{FolderCall, Outcome, Ends, IsSame}
use Rattle.lru_files.specs.MemFolder.{files_of, opened_of}
use Rattle.lru_files.specs.declared.mem_folder.MemFolder.{MemFolder}
use Rattle.lru_files.specs.declared.fault.ShardLoadReport.{ShardLoadReport}
use Rattle.lru_files.specs.declared.fault.ShardSaveReport.{ShardSaveReport}
use Rattle.cache_words.specs.declared.pack.fault.PackWriteFault.{PackWriteFault}
use Rattle.cache_evict.specs.Managed.{fresh}
use Rattle.cache_evict.specs.Stored.{file_at, lru_stored}
use Rattle.cache_evict.specs.declared.load_fault.LoadFault.{LoadFault}
use Rattle.tier_single.specs.Restarts.{SavesOrder, LoadsOrder}
use Rattle.tier_model.specs.Started.{IsNew}
use Rattle.tier_model.specs.State.{State, shards_of}
use Rattle.tier_model.specs.declared.event.TierFault.{TierFault}
use Rattle.tier_calls.specs.Tiers.{state_of, StartsAs}
use Rattle.tier_calls.specs.declared.shards.Loaded.{Loaded}
use Rattle.tier_calls.specs.declared.shards.Saved.{Saved}
use Rattle.tier_calls.specs.declared.shards.Shards.{Shards}
use Rattle.tier_calls.specs.declared.shards.StartFault.{StartFault}
use Rattle.tier_calls.specs.declared.shards.StartFault.TheVariants.{NotNew, Memory}

-- where the files of the shards lie
abbrev pub dir : List ℕ
dir = codes "tier"

-- where the file of a shard lies
abbrev pub file_path : ℕ → List ℕ
file_path shard = file_at lru_stored dir shard

abbrev pub did : MemFolder → FolderCall → Outcome → MemFolder → Type 0
did before call outcome after = Ends call outcome (opened_of before) (files_of before) (files_of after)

-- a new tier loaded what the files of its shards have
abbrev pub Loads : State → MemFolder → Result (ShardLoadReport LoadFault) TierFault → State → MemFolder → Type 0
Loads a before came b after =
    LoadsOrder did (λ f. f.failures) (Unit {0}) files_of (shards_of a) dir (fresh (shards_of a) a.managed.limit a.managed.watermark) b.managed before after came

-- a tier saved its order of use to the files of its shards
abbrev pub Saves : State → MemFolder → Result (ShardSaveReport PackWriteFault) TierFault → MemFolder → Type 0
Saves s before came after =
    SavesOrder did (λ f. f.failures) (Unit {0}) files_of (shards_of s) dir s.managed (replicate (shards_of s) 0) before after came

abbrev pub loaded_of : ShardLoadReport LoadFault → Loaded
loaded_of report = record { loaded = report.loaded; missing = report.missing; errored = length report.errored.items }

abbrev pub saved_of : ShardSaveReport PackWriteFault → Saved
saved_of report = record { saved = report.saved; failed = length report.failed.items }

-- what came of a start: a new tier that goes on from what its files have; a tier that isn't new is refused, and so is one without memory for the
-- report, with nothing done
abbrev pub Starts : State → MemFolder → Result Loaded StartFault → State → MemFolder → Type 0
Starts a before (Ok counts) b after = StartsAs a b × ((report : ShardLoadReport LoadFault) × (counts ≡ loaded_of report) × Loads a before (Ok report) b after)
Starts a before (Err NotNew) b after = (IsNew a → ⊥) × (b ≡ a) × (after ≡ before)
Starts a before (Err Memory) b after = IsNew a × (b ≡ a) × IsSame (files_of before) (files_of after)

-- the same of the tier that is there
abbrev pub StartsIn : Shards → MemFolder → Result Loaded StartFault → Shards → MemFolder → Type 0
StartsIn old before came new after = (a : State) × (b : State) × (state_of old ≡ Some a) × (state_of new ≡ Some b) × Starts a before came b after

-- what came of a save: how many shards were saved, or the tier's fault
abbrev pub SavesAs : State → MemFolder → Result Saved TierFault → MemFolder → Type 0
SavesAs s before (Ok counts) after = (report : ShardSaveReport PackWriteFault) × (counts ≡ saved_of report) × Saves s before (Ok report) after
SavesAs s before (Err fault) after = Saves s before (Err fault) after

abbrev pub SavesIn : Shards → MemFolder → Result Saved TierFault → MemFolder → Type 0
SavesIn tier before came after = (s : State) × (state_of tier ≡ Some s) × SavesAs s before came after
