-- Saves by what serializing gives, and which made no call.
use Rattle.std.proofs.Common.{◌≡◌, ◌⊎◌, inl, inr, ℕ, ◌<◌, List, Option, Some, Result, Ok, Err, Vec, subst}
use Rattle.std.specs.Prelude.{slice_index}
use Rattle.std.specs.declared.alloc.Global.{Global}
use Rattle.lru_files.specs.Folder.{Files, FolderCall, Outcome, StopsLeave}
use Rattle.lru_files.specs.Names.{shard_path, temp_path}
use Rattle.lru_files.specs.Save.{AreOldOrNew, Gives, SaveLeft, SaveTells, ShardLeft, ShardsLeft, outcome_of}
use Rattle.lru_files.specs.declared.fault.ShardSaveFailure.{ShardSaveFailure}
use Rattle.lru_files.specs.declared.fault.ShardSaveFailure.TheVariants.{Serialize, Io, Memory}
use Rattle.lru_files.specs.declared.fault.ShardSaveError.{ShardSaveError}
use Rattle.lru_files.specs.declared.fault.ShardSaveError.TheVariants.{Setup, AllShardsFailed}
use Rattle.lru_files.specs.declared.fault.ShardSaveReport.{ShardSaveReport}
use Rattle.lru_files.specs.declared.fault.ShardSaveSetupError.TheVariants.{CreateDir, Memory as NoMemory}
use Rattle.cache_evict.specs.declared.fault.EvictFault.{EvictFault}
use Rattle.lru_async_manager.specs.Files.{Answers, IsMemory}
use Rattle.lru_async_manager.specs.declared.fault.TextFault.{TextFault}

module _ {E : Type 0} (P Q : Result (Vec ℕ Global) E → Type 0) (turn : (r : Result (Vec ℕ Global) E) → P r → Q r) where
  shard_left-by : (file temp new_file new_temp : Option (List ℕ)) (outcome : Result (Unit {0}) (ShardSaveFailure E)) → ShardLeft P file temp new_file new_temp outcome → ShardLeft Q file temp new_file new_temp outcome
  shard_left-by file temp new_file new_temp (Ok done) h = (h.0, (h.1.0, turn (Ok h.1.0) h.1.1, h.1.2), h.2, h.3, h.4)
  shard_left-by file temp new_file new_temp (Err (Serialize e)) h = (turn (Err e) h.0, h.1, h.2)
  shard_left-by file temp new_file new_temp (Err Memory) h = h
  shard_left-by file temp new_file new_temp (Err (Io call)) h = (h.0, (h.1.0, turn (Ok h.1.0) h.1.1, h.1.2), h.2, h.3)

  whole-by : (file new : Option (List ℕ)) → (new ≡ file) ⊎ ((bytes : List ℕ) × Gives P bytes × (new ≡ Some bytes)) → (new ≡ file) ⊎ ((bytes : List ℕ) × Gives Q bytes × (new ≡ Some bytes))
  whole-by file new (inl same) = inl same
  whole-by file new (inr h) = inr (h.0, (h.1.0, turn (Ok h.1.0) h.1.1, h.1.2), h.2)

module _ {E : Type 0} (dir file_name words : List ℕ) (n : ℕ) (P Q : ℕ → Result (Vec ℕ Global) E → Type 0) (turn : (i : ℕ) → i < n → (r : Result (Vec ℕ Global) E) → P i r → Q i r) (old new : Files) where
  pub are_whole-by : AreOldOrNew dir file_name words P n old new → AreOldOrNew dir file_name words Q n old new
  are_whole-by h = record {
    each = λ i below. whole-by (P i) (Q i) (turn i below) (old (shard_path dir file_name i)) (new (shard_path dir file_name i)) (h.each i below);
    others = h.others;
  }

  shards_left-by : (failed : List (ℕ × ShardSaveFailure E)) → ShardsLeft dir file_name words P n old new failed → ShardsLeft dir file_name words Q n old new failed
  shards_left-by failed h = λ i below. shard_left-by (P i) (Q i) (turn i below) (old (shard_path dir file_name i)) (old (temp_path dir file_name i (slice_index words i)))
      (new (shard_path dir file_name i)) (new (temp_path dir file_name i (slice_index words i))) (outcome_of failed i) (h i below)

  save_left-by : (ended : Result (ShardSaveReport E) (ShardSaveError E)) → SaveLeft dir file_name words P n old new ended → SaveLeft dir file_name words Q n old new ended
  save_left-by (Ok report) h = (shards_left-by report.failed.items h.0, h.1)
  save_left-by (Err (AllShardsFailed failed)) h = (shards_left-by failed.items h.0, h.1)
  save_left-by (Err (Setup error)) h = h

-- where what serializing gives is known from what each stop leaves
pub left-by : {E : Type 0} (dir file_name words : List ℕ) (n : ℕ) {P : ℕ → Result (Vec ℕ Global) E → Type 0} (Q : ℕ → Result (Vec ℕ Global) E → Type 0)
    {D : Type 0} (did : D → FolderCall → Outcome → D → Type 0) (keeps : Type 0) (opened : D → Option (List ℕ)) (files : D → Files) (old new : D) (ended : Result (ShardSaveReport E) (ShardSaveError E))
    → (keeps → StopsLeave did opened files (AreOldOrNew dir file_name words P n (files old)) old new) → (keeps → SaveLeft dir file_name words P n (files old) (files new) ended)
    → ((i : ℕ) → i < n → (r : Result (Vec ℕ Global) E) → P i r → Q i r) → keeps → SaveLeft dir file_name words Q n (files old) (files new) ended
left-by dir file_name words n {P} Q did keeps opened files old new ended stops left turn kept =
    save_left-by dir file_name words n P Q turn (files old) (files new) ended (left kept)

-- ---- out of memory

-- where the answer is out of memory, nothing was done
pub memory_is_uncalled : {D : Type 0} (did : D → FolderCall → Outcome → D → Type 0) (failures : D → ℕ) (dir : List ℕ) (old new : D)
    (ended : Result (ShardSaveReport TextFault) (ShardSaveError TextFault)) (result : Result (ShardSaveReport TextFault) EvictFault)
    → Answers ended result → SaveTells did failures dir old new ended → IsMemory result → new ≡ old
memory_is_uncalled did failures dir old new (Ok report) result answer told memory = absurd (subst IsMemory answer memory)
memory_is_uncalled did failures dir old new (Err (Setup NoMemory)) result answer told memory = told
memory_is_uncalled did failures dir old new (Err (Setup CreateDir)) result answer told memory = absurd (subst IsMemory answer.1 memory)
memory_is_uncalled did failures dir old new (Err (AllShardsFailed failed)) result answer told memory = absurd (subst IsMemory answer.1 memory)
