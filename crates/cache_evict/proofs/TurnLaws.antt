-- Saves in turn, and a load of what a save left.
use Rattle.std.proofs.Common.{◌≡◌, ◌⊎◌, inl, inr, ℕ, ◌<◌, List, [], ◌∷◌, length, set, Option, Some, Ok, sym, refl, ap, ◌∙◌, subst, arith}
use Rattle.std.proofs.lemmas.List.{append-nil, ext_get_or}
use Rattle.lru_files.specs.Folder.{Files, FolderCall, Outcome, IsSame}
use Rattle.lru_files.specs.Save.{ShardLeft, outcome_of}
use Rattle.lru_files.specs.declared.fault.ShardLoadReport.{ShardLoadReport}
use Rattle.lru_files.specs.declared.fault.ShardSaveReport.{ShardSaveReport}
use Rattle.lru_files.specs.Load as file
use Rattle.cache_entries.specs.declared.rows.Tracked.{Tracked}
use Rattle.cache_entries.specs.RowText.{SpellsRecency}
use Rattle.cache_words.specs.declared.pack.fault.PackWriteFault.{PackWriteFault}
use Rattle.cache_evict.specs.declared.load_fault.LoadFault.{LoadFault}
use Rattle.cache_evict.specs.declared.tracker.loading.Again.TheVariants.{MovedFirst}
use Rattle.cache_evict.specs.FileLoads.{HasRows, LoadsStored, TakesShard}
use Rattle.cache_evict.specs.Managed.{Managed, IsSharded, fresh, rows_at}
use Rattle.cache_evict.specs.Saves.{Saves, Tries}
use Rattle.cache_evict.specs.Stored.{Failures, IsText, Serializes, file_at, temp_at}
use Rattle.cache_evict.specs.Stored.Stored.{Sharded, Single}
use Rattle.cache_evict.specs.Turns.{Turn, IsOfOneSave, LeaveInTurn}
use Rattle.cache_evict.specs.Turns.Turn.{Save, Load}
use Rattle.cache_evict.proofs.InverseLaws.{put_again}
use Rattle.cache_evict.proofs.LoadLaws.{loads-spelled}
use Rattle.cache_evict.proofs.RecoveryLaws.{recovered}

-- ---- saves and loads in turn

module _ (n : ℕ) (at : ℕ → List ℕ) where
  after_save : (m : Managed) (temp : ℕ → List ℕ) (turns : List Turn) (i : ℕ) (old mid new : Files)
      → (mid (at i) ≡ old (at i)) ⊎ ((bytes : List ℕ) × IsText (rows_at m.shards i) bytes × (mid (at i) ≡ Some bytes))
      → (new (at i) ≡ mid (at i)) ⊎ IsOfOneSave n at turns i new → (new (at i) ≡ old (at i)) ⊎ IsOfOneSave n at (Save m temp ∷ turns) i new
  after_save m temp turns i old mid new saved (inr later) = inr (inr later)
  after_save m temp turns i old mid new (inl same) (inl e) = inl (e ∙ same)
  after_save m temp turns i old mid new (inr h) (inl e) = inr (inl (h.0, h.1, e ∙ h.2))

  after_load : (turns : List Turn) (i : ℕ) (old mid new : Files) → mid (at i) ≡ old (at i)
      → (new (at i) ≡ mid (at i)) ⊎ IsOfOneSave n at turns i new → (new (at i) ≡ old (at i)) ⊎ IsOfOneSave n at (Load ∷ turns) i new
  after_load turns i old mid new same (inl e) = inl (e ∙ same)
  after_load turns i old mid new same (inr later) = inr later

  pub of_one_save : (turns : List Turn) (old new : Files) → LeaveInTurn n at turns old new → (i : ℕ) → i < n → (new (at i) ≡ old (at i)) ⊎ IsOfOneSave n at turns i new
  of_one_save [] old new same i below = inl (same (at i))
  of_one_save (Save m temp ∷ turns) old new h i below = after_save m temp turns i old h.0 new (h.1.each i below) (of_one_save turns h.0 new h.2 i below)
  of_one_save (Load ∷ turns) old new h i below = after_load turns i old h.0 new (h.1 i below) (of_one_save turns h.0 new h.2 i below)

-- ---- a save, and then a load

-- the file of a shard that was saved has a text of its rows
saved_rows : (rows : List Tracked) (was was_temp now now_temp later : Option (List ℕ)) → ShardLeft (Serializes rows) was was_temp now now_temp (Ok tt) → later ≡ now
    → (bytes : List ℕ) × SpellsRecency rows bytes × (later ≡ Some bytes)
saved_rows rows was was_temp now now_temp later h same = (h.0, subst (SpellsRecency rows) h.1.2 h.1.1.1, same ∙ h.3)

module _ {D : Type 0} (did : D → FolderCall → Outcome → D → Type 0) (failures : D → ℕ) (keeps : Type 0) (files : D → Files) (kept : keeps) where
  tried_rows : (n : ℕ) (m : Managed) (at temp : ℕ → List ℕ) (dir : List ℕ) (old saved start : D) (failed : Failures) → failed ≡ []
      → Tries did failures keeps files m n at temp dir old saved failed → IsSame (files saved) (files start) → (i : ℕ) → i < n
      → (bytes : List ℕ) × SpellsRecency (rows_at m.shards i) bytes × (files start (at i) ≡ Some bytes)
  tried_rows n m at temp dir old saved start failed none tried same i below =
      saved_rows (rows_at m.shards i) (files old (at i)) (files old (temp i)) (files saved (at i)) (files saved (temp i)) (files start (at i))
      (subst (λ (f : Failures). ShardLeft (Serializes (rows_at m.shards i)) (files old (at i)) (files old (temp i)) (files saved (at i)) (files saved (temp i)) (outcome_of f i)) none
      ((tried.left kept).each i below)) (same (at i))

  pub shards_again : (name dir words : List ℕ) (n limit : ℕ) (watermark : Option ℕ) (m new : Managed) (old saved start end : D)
      (report : ShardSaveReport PackWriteFault) (loads : ShardLoadReport LoadFault) → IsSharded n m
      → Saves did failures keeps files m n (file_at (Sharded name) dir) (temp_at (Sharded name) dir words) dir old saved (Ok report) → report.failed.items ≡ []
      → IsSame (files saved) (files start)
      → LoadsStored did failures keeps files n (Sharded name) dir (fresh n limit watermark) new start end (Ok loads) → loads.errored.items ≡ [] → new.shards ≡ m.shards
  shards_again name dir words n limit watermark m new old saved start end report loads sharded saves none same loaded clean =
      let at = file_at (Sharded name) dir in
      recovered keeps kept (λ i. files start (at i)) n m sharded
      (λ i below. let h = tried_rows n m at (temp_at (Sharded name) dir words) dir old saved start report.failed.items none saves.0 same i below in
      subst (HasRows (rows_at m.shards i)) (sym h.2) h.1)
      limit watermark new loads.loaded loads.missing
      (subst (λ e. file.Loads keeps (λ i. files start (at i)) (TakesShard n) n loads.loaded loads.missing e (fresh n limit watermark) new) clean loaded.loads)

  pub one_again : (name dir words : List ℕ) (limit : ℕ) (watermark : Option ℕ) (m new : Managed) (old saved start end : D)
      (report : ShardSaveReport PackWriteFault) (loads : ShardLoadReport LoadFault) → IsSharded 1 m
      → Saves did failures keeps files m 1 (file_at (Single name) dir) (temp_at (Single name) dir words) dir old saved (Ok report)
      → IsSame (files saved) (files start)
      → LoadsStored did failures keeps files 1 (Single name) dir (fresh 1 limit watermark) new start end (Ok loads) → new.shards ≡ m.shards
  one_again name dir words limit watermark m new old saved start end report loads sharded saves same loaded =
      let rows = rows_at m.shards 0 in
      let empty : Managed = fresh 1 limit watermark in
      let at = file_at (Single name) dir in
      let none : report.failed.items ≡ [] = nil_by_length report.failed.items (omega (arith, saves.1, saves.2)) in
      let h = tried_rows 1 m at (temp_at (Single name) dir words) dir old saved start report.failed.items none saves.0 same 0 (omega arith) in
      let took = loaded.1.loads in
      let alike : h.0 ≡ took.0 = some_alike h.0 took.0 (sym h.2 ∙ took.1 kept) in
      let read = loads-spelled MovedFirst 1 took.0 empty new rows took.0 [] (Ok tt) (subst (SpellsRecency rows) alike h.1) (sym (append-nil took.0)) took.2 in
      let put : new.shards ≡ set empty.shards 0 rows =
      ap (λ (x : Managed). x.shards) (read.1 ∙ put_again MovedFirst 1 0 empty (omega arith) rows refl (sharded.distinct 0) (sharded.home 0)) in
      put ∙ ext_get_or [] (set empty.shards 0 rows) m.shards (sym sharded.count) (λ i inside. subst (λ (k : ℕ). rows_at (set empty.shards 0 rows) k ≡ rows_at m.shards k) (below_one i inside) refl)
    where
      nil_by_length : {X : Type 0} (xs : List X) → length xs ≡ 0 → xs ≡ []
      nil_by_length [] e = refl
      nil_by_length (x ∷ xs) e = absurd (omega (arith, e))

      some_alike : (a b : List ℕ) → Some a ≡ Some b → a ≡ b
      some_alike a b e = cc

      below_one : (i : ℕ) → i < 1 → 0 ≡ i
      below_one i below = omega arith
