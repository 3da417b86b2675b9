-- Saves of a manager, from those of its shards' files.
use Rattle.std.proofs.Common.{◌≡◌, ◌≢◌, ◌⊎◌, inl, inr, ℕ, ◌<◌, List, [], ◌∷◌, ◌++◌, length, Option, Some, Result, Ok, Err, Vec, sym, refl, ap, ◌∙◌, subst, arith}
use Rattle.std.specs.Prelude.{codes}
use Rattle.std.proofs.lemmas.List.{append-nil, length-append}
use Rattle.std.specs.declared.alloc.Global.{Global}
use Rattle.lru_files.specs.Folder.{Files, FolderCall, Outcome, IsSame, StopsLeave, StoppedIn, path_in}
use Rattle.lru_files.specs.Folder.FolderCall.{Make}
use Rattle.lru_files.specs.Folder.Outcome.{Done}
use Rattle.lru_files.specs.Names.{hex_word}
use Rattle.lru_files.specs.Save.{AreNumbered, AreOldOrNew, Gives, IsOneOldOrNew, OneLeft, SaveCounts, SaveLeft, SaveTells, ShardLeft, ShardsLeft, file_error, file_errors, outcome_of}
use Rattle.lru_files.specs.Save as file
use Rattle.lru_files.specs.Told.{Tells}
use Rattle.lru_files.specs.declared.fault.ShardSaveFailure.{ShardSaveFailure}
use Rattle.lru_files.specs.declared.fault.ShardSaveFailure.TheVariants.{Serialize, Io, Memory}
use Rattle.lru_files.specs.declared.fault.ShardSaveError.{ShardSaveError}
use Rattle.lru_files.specs.declared.fault.ShardSaveError.TheVariants.{Setup, AllShardsFailed}
use Rattle.lru_files.specs.declared.fault.ShardSaveReport.{ShardSaveReport}
use Rattle.lru_files.specs.declared.fault.ShardSaveSetupError.TheVariants.{CreateDir, Memory as NoMemory}
use Rattle.lru_files.proofs.Runs.{joined, stops_begin, stops_more, weakened}
use Rattle.lru_files.proofs.Told.{tells_call, tells_nothing, tells_then}
use Rattle.cache_entries.specs.declared.entry.CacheEntryKey.{CacheEntryKey}
use Rattle.cache_entries.specs.declared.rows.Tracked.{Tracked}
use Rattle.cache_words.specs.declared.pack.fault.PackWriteFault.{PackWriteFault}
use Rattle.cache_words.specs.declared.pack.fault.PackWriteFault.TheVariants.{Memory as NoText}
use Rattle.cache_evict.specs.declared.fault.EvictFault.{EvictFault}
use Rattle.cache_evict.specs.declared.fault.EvictFault.TheVariants as fault
use Rattle.cache_evict.specs.Managed.{Managed, rows_at}
use Rattle.cache_evict.specs.Saves.{AreLeft, AreOldOrWhole, IsUnwritten, Saves, Tries}
use Rattle.cache_evict.specs.Stored.{Answers, Failures, IsText, Serializes, file_at, temp_at, single_temp}
use Rattle.cache_evict.specs.Stored.Stored.{Sharded}

-- what a shard's save leaves, by what its serializing gives
shard_left-by : (P Q : Result (Vec ℕ Global) PackWriteFault → Type 0) → ((r : Result (Vec ℕ Global) PackWriteFault) → P r → Q r)
    → (file temp new_file new_temp : Option (List ℕ)) (outcome : Result (Unit {0}) (ShardSaveFailure PackWriteFault))
    → ShardLeft P file temp new_file new_temp outcome → ShardLeft Q file temp new_file new_temp outcome
shard_left-by P Q turn file temp new_file new_temp (Ok done) h = (h.0, (h.1.0, turn (Ok h.1.0) h.1.1, h.1.2), h.2, h.3, h.4)
shard_left-by P Q turn file temp new_file new_temp (Err (Serialize e)) h = (turn (Err e) h.0, h.1, h.2)
shard_left-by P Q turn file temp new_file new_temp (Err Memory) h = h
shard_left-by P Q turn file temp new_file new_temp (Err (Io call)) h = (h.0, (h.1.0, turn (Ok h.1.0) h.1.1, h.1.2), h.2, h.3)

-- a file that is as before or whole
whole : (rows : List Tracked) (P : Result (Vec ℕ Global) PackWriteFault → Type 0) → ((r : Result (Vec ℕ Global) PackWriteFault) → P r → Serializes rows r)
    → (file mid new : Option (List ℕ)) → mid ≡ file → (new ≡ mid) ⊎ ((bytes : List ℕ) × Gives P bytes × (new ≡ Some bytes))
    → (new ≡ file) ⊎ ((bytes : List ℕ) × IsText rows bytes × (new ≡ Some bytes))
whole rows P turn file mid new same (inl e) = inl (e ∙ same)
whole rows P turn file mid new same (inr h) = inr (h.0, subst (IsText rows) h.1.2 (turn (Ok h.1.0) h.1.1), h.2)

-- ---- each shard in a file of its own

module _ (dir file_name words : List ℕ) (n : ℕ) (m : Managed) (P : ℕ → Result (Vec ℕ Global) PackWriteFault → Type 0)
    (turn : (i : ℕ) → i < n → (r : Result (Vec ℕ Global) PackWriteFault) → P i r → Serializes (rows_at m.shards i) r) where
  abbrev at : ℕ → List ℕ
  at = file_at (Sharded file_name) dir

  abbrev temp : ℕ → List ℕ
  temp = temp_at (Sharded file_name) dir words

  are_left : (old new : Files) (failed : Failures) → ShardsLeft dir file_name words P n old new failed → file.OthersStay dir file_name words n old new → AreLeft m n at temp old new failed
  are_left old new failed left others = record {
    each = λ i below. shard_left-by (P i) (Serializes (rows_at m.shards i)) (turn i below) (old (at i)) (old (temp i)) (new (at i)) (new (temp i)) (outcome_of failed i) (left i below);
    others = others;
  }

  pub are_whole : (old new : Files) → AreOldOrNew dir file_name words P n old new → AreOldOrWhole m n at temp old new
  are_whole old new h = record {
    each = λ i below. whole (rows_at m.shards i) (P i) (turn i below) (old (at i)) (old (at i)) (new (at i)) refl (h.each i below);
    others = h.others;
  }

  module _ {D : Type 0} (did : D → FolderCall → Outcome → D → Type 0) (failures : D → ℕ) (keeps : Type 0) (files : D → Files) (old new : D) where
    tries : (failed : Failures) → AreNumbered 0 n failed → Tells did failures (file_errors failed) old new
        → (keeps → ShardsLeft dir file_name words P n (files old) (files new) failed × file.OthersStay dir file_name words n (files old) (files new))
        → Tries did failures keeps files m n at temp dir old new failed
    tries failed numbered told left = record {
      numbered = numbered;
      told = told;
      left = λ kept. are_left (files old) (files new) failed (left kept).0 (left kept).1;
    }

    abbrev saves : Result (ShardSaveReport PackWriteFault) EvictFault → Type 0
    saves = Saves did failures keeps files m n at temp dir old new

    saves-answered : (ended : Result (ShardSaveReport PackWriteFault) (ShardSaveError PackWriteFault)) (result : Result (ShardSaveReport PackWriteFault) EvictFault) → 0 < n
        → Answers ended result → SaveCounts n ended → SaveTells did failures dir old new ended → (keeps → SaveLeft dir file_name words P n (files old) (files new) ended) → saves result
    saves-answered (Ok report) result some answer counts told left = subst saves (sym answer) (tries report.failed.items counts.1 told left, counts.0, counts.2 some)
    saves-answered (Err (Setup NoMemory)) result some answer counts told left = subst saves (sym answer.1) (answer.2, told)
    saves-answered (Err (Setup CreateDir)) result some answer counts told left =
        subst saves (sym answer.1) (answer.2, inl (record { make = told.0; counted = told.1; same = left }))
    saves-answered (Err (AllShardsFailed failed)) result some answer counts told left =
        subst saves (sym answer.1) (answer.2, inr (failed.items, tries failed.items counts.1 told left, counts.0))

-- the same, where what serializing gives is known from what each stop leaves
pub saves-by : (dir file_name words : List ℕ) (n : ℕ) (m : Managed) {P : ℕ → Result (Vec ℕ Global) PackWriteFault → Type 0}
    {D : Type 0} (did : D → FolderCall → Outcome → D → Type 0) (failures : D → ℕ) (keeps : Type 0) (opened : D → Option (List ℕ)) (files : D → Files) (old new : D)
    (ended : Result (ShardSaveReport PackWriteFault) (ShardSaveError PackWriteFault)) (result : Result (ShardSaveReport PackWriteFault) EvictFault)
    → (keeps → StopsLeave did opened files (AreOldOrNew dir file_name words P n (files old)) old new) → 0 < n → Answers ended result → SaveCounts n ended → SaveTells did failures dir old new ended → (keeps → SaveLeft dir file_name words P n (files old) (files new) ended)
    → ((i : ℕ) → i < n → (r : Result (Vec ℕ Global) PackWriteFault) → P i r → Serializes (rows_at m.shards i) r)
    → Saves did failures keeps files m n (file_at (Sharded file_name) dir) (temp_at (Sharded file_name) dir words) dir old new result
saves-by dir file_name words n m {P} did failures keeps opened files old new ended result stops some answer counts told left turn =
    saves-answered dir file_name words n m P turn did failures keeps files old new ended result some answer counts told left

-- ---- one list in one file

module _ (m : Managed) (n : ℕ) (one : n ≡ 1) (at temp : ℕ → List ℕ) where
  pub same_whole : (old new : Files) → IsSame old new → AreOldOrWhole m n at temp old new
  same_whole old new same = record { each = λ i below. inl (same (at i)); others = λ path away_from_at away. same path }

  only_zero : (i : ℕ) → i < n → 0 ≡ i
  only_zero i below = omega (arith, one)

  one_whole : (old mid new : Files) → IsSame old mid → IsOneOldOrNew (Serializes (rows_at m.shards 0)) (temp 0) (at 0) mid new → AreOldOrWhole m n at temp old new
  one_whole old mid new same h = record {
    each = λ i below. subst (λ k. (new (at k) ≡ old (at k)) ⊎ ((bytes : List ℕ) × IsText (rows_at m.shards k) bytes × (new (at k) ≡ Some bytes))) (only_zero i below)
        (whole (rows_at m.shards 0) (Serializes (rows_at m.shards 0)) (λ r s. s) (old (at 0)) (mid (at 0)) (new (at 0)) (same (at 0)) h.file);
    others = λ path away_from_at away. h.others path (away_from_at 0 (omega (arith, one))) (away 0 (omega (arith, one))) ∙ same path;
  }

  one_left : (old mid new : Files) (failed : Failures) → IsSame old mid → OneLeft (Serializes (rows_at m.shards 0)) (temp 0) (at 0) mid new (outcome_of failed 0) → AreLeft m n at temp old new failed
  one_left old mid new failed same h = record {
    each = λ i below. subst (λ k. ShardLeft (Serializes (rows_at m.shards k)) (old (at k)) (old (temp k)) (new (at k)) (new (temp k)) (outcome_of failed k)) (only_zero i below)
        (subst (λ x. ShardLeft (Serializes (rows_at m.shards 0)) x (old (temp 0)) (new (at 0)) (new (temp 0)) (outcome_of failed 0)) (same (at 0))
        (subst (λ x. ShardLeft (Serializes (rows_at m.shards 0)) (mid (at 0)) x (new (at 0)) (new (temp 0)) (outcome_of failed 0)) (same (temp 0)) h.shard));
    others = λ path away_from_at away. h.others path (away_from_at 0 (omega (arith, one))) (away 0 (omega (arith, one))) ∙ same path;
  }

  module _ {D : Type 0} (did : D → FolderCall → Outcome → D → Type 0) (failures : D → ℕ) (keeps : Type 0) (opened : D → Option (List ℕ)) (files : D → Files) (dir : List ℕ) where
    abbrev Stops : D → D → Type 0
    Stops old new = StopsLeave did opened files (AreOldOrWhole m n at temp (files old)) old new

    pub made_stops : (old mid : D) (outcome : Outcome) → did old (Make dir) outcome mid → IsSame (files old) (files mid) → Stops old mid
    made_stops old mid outcome make same = stops_more (Make dir) outcome (stops_begin old (same_whole (files old) (files old) (λ path. refl))) make
        (λ left stopped. same_whole (files old) left (stopped_same left stopped)) (same_whole (files old) (files mid) same)
      where
        stopped_same : (left : Files) → StoppedIn (Make dir) (opened old) (files old) left → IsSame (files old) left
        stopped_same left (inl s) = s
        stopped_same left (inr s) = s

    pub written_stops : (old mid new : D) (outcome : Outcome) → did old (Make dir) outcome mid → IsSame (files old) (files mid)
        → StopsLeave did opened files (IsOneOldOrNew (Serializes (rows_at m.shards 0)) (temp 0) (at 0) (files mid)) mid new → Stops old new
    written_stops old mid new outcome make same written = joined (made_stops old mid outcome make same) (weakened _ (λ left h. one_whole (files old) (files mid) left same h) written)

    abbrev Tried : D → D → Failures → Type 0
    Tried = Tries did failures keeps files m n at temp dir

    -- after the directory was made
    pub one_saved : (old mid new : D) → did old (Make dir) Done mid → failures mid ≡ failures old → (keeps → IsSame (files old) (files mid))
        → Tells did failures (file_error {E = PackWriteFault} (Ok tt)) mid new → (keeps → OneLeft (Serializes (rows_at m.shards 0)) (temp 0) (at 0) (files mid) (files new) (Ok tt)) → Tried old new []
    one_saved old mid new make counted same told left = record {
      numbered = tt;
      told = tells_then (tells_call (Make dir) Done make counted) told;
      left = λ kept. one_left (files old) (files mid) (files new) [] (same kept) (left kept);
    }

    pub one_failed : (old mid new : D) (failure : ShardSaveFailure PackWriteFault) → did old (Make dir) Done mid → failures mid ≡ failures old → (keeps → IsSame (files old) (files mid))
        → Tells did failures (file_error (Err failure)) mid new → (keeps → OneLeft (Serializes (rows_at m.shards 0)) (temp 0) (at 0) (files mid) (files new) (Err failure)) → Tried old new ((0, failure) ∷ [])
    one_failed old mid new failure make counted same told left = record {
      numbered = (omega arith, omega (arith, one), tt);
      told = tells_then (tells_call (Make dir) Done make counted) (subst (λ e. Tells did failures e mid new) (sym (append-nil (file_error (Err failure)))) told);
      left = λ kept. one_left (files old) (files mid) (files new) ((0, failure) ∷ []) (same kept) (left kept);
    }

    -- nothing was done, since there is no text or no name of a file
    pub unwritten_saves : (old : D) (fault : EvictFault) → IsUnwritten fault → Saves did failures keeps files m n at temp dir old old (Err fault)
    unwritten_saves old (fault.Memory v) h = (h, refl)
    unwritten_saves old (fault.File v) h = (
      h,
      inr (
        (0, Serialize NoText) ∷ [],
        record {
          numbered = (omega arith, omega (arith, one), tt);
          told = tells_nothing old;
          left = λ kept. one_left (files old) (files old) (files old) ((0, Serialize NoText) ∷ []) (λ path. refl)
              (record { shard = (tt, refl, refl); others = λ path away_from_at away. refl });
        },
        omega (arith, one),
      ),
    )
    unwritten_saves old (fault.Weight v) h = absurd h
    unwritten_saves old (fault.Length v) h = absurd h
    unwritten_saves old (fault.NumbersSpent v) h = absurd h

    pub unwritten_stops : (old : D) → Stops old old
    unwritten_stops old = stops_begin old (same_whole (files old) (files old) (λ path. refl))

-- ---- the text of the one list, and its paths

pub single_apart : (dir file_name : List ℕ) (word : ℕ) → path_in dir (single_temp file_name word) ≢ path_in dir file_name
single_apart dir file_name word e =
    let rest : List ℕ = 46 ∷ (hex_word word ++ codes ".tmp") in
    absurd (omega (arith, ap length e, length-append dir (47 ∷ (file_name ++ rest)), length-append dir (47 ∷ file_name), length-append file_name rest))
