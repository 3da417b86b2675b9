-- A start and a save, of the tier that is there.
use Rattle.std.proofs.Common.{◌≡◌, ℕ, List, [], ◌∷◌, ◌++◌, refl, sym, ap, ◌∙◌, subst}
use Rattle.std.specs.Prelude.{Result, Ok, Err, length, replicate}
use Rattle.lru_files.specs.Folder.{IsSame}
use Rattle.lru_files.specs.MemFolder.{files_of}
use Rattle.lru_files.specs.declared.mem_folder.MemFolder.{MemFolder}
use Rattle.lru_files.specs.declared.fault.ShardLoadReport.{ShardLoadReport}
use Rattle.lru_files.specs.declared.fault.ShardSaveReport.{ShardSaveReport}
use Rattle.cache_words.specs.declared.pack.fault.PackWriteFault.{PackWriteFault}
use Rattle.cache_entries.specs.declared.rows.Tracked.{Tracked}
use Rattle.cache_evict.specs.Managed.{Managed, fresh}
use Rattle.cache_evict.specs.declared.fault.EvictFault.TheVariants as evict
use Rattle.cache_evict.specs.declared.load_fault.LoadFault.{LoadFault}
use Rattle.tier_model.specs.Started.{IsNew, all_rows}
use Rattle.tier_model.specs.State.{State, shards_of}
use Rattle.tier_model.specs.declared.event.TierFault.{TierFault}
use Rattle.tier_single.specs.Restarts.{SavesOrder, LoadsOrder}
use Rattle.tier_calls.specs.Restarts.{did, dir, Loads, Saves, loaded_of, saved_of}
use Rattle.tier_calls.specs.declared.shards.Loaded.{Loaded}
use Rattle.tier_calls.specs.declared.shards.Saved.{Saved}

-- shards without rows
no_rows : (shards : List (List Tracked)) → all_rows shards ≡ [] → shards ≡ replicate (length shards) []
no_rows [] e = refl
no_rows ([] ∷ shards) e = ap (λ (more : List (List Tracked)). [] ∷ more) (no_rows shards e)
no_rows ((r ∷ rows) ∷ shards) e = absurd (let f : r ∷ (rows ++ all_rows shards) ≡ [] = e in cc)

abbrev with_parts : List (List Tracked) → ℕ → ℕ → Managed → Managed
with_parts shards size items m = record m { shards = shards; evicted_size = size; evicted_items = items }

rebuilt : (m : Managed) → m.shards ≡ replicate (length m.shards) [] → m.evicted_size ≡ 0 → m.evicted_items ≡ 0 → fresh (length m.shards) m.limit m.watermark ≡ m
rebuilt m shards size items =
    ap (λ (x : List (List Tracked)). with_parts x 0 0 m) (sym shards)
    ∙ (ap (λ (x : ℕ). with_parts m.shards x 0 m) (sym size) ∙ ap (λ (x : ℕ). with_parts m.shards m.evicted_size x m) (sym items))

-- a new tier's order of use is without entries
is_fresh : (s : State) → IsNew s → fresh (shards_of s) s.managed.limit s.managed.watermark ≡ s.managed
is_fresh s new = rebuilt s.managed (no_rows s.managed.shards new.untracked) new.nothing_else.evicted_size new.nothing_else.evicted_items

-- a load that gives a fault leaves the tier as it was, with its files
module _ (a b : State) (before after : MemFolder) (new : IsNew a) (others : b ≡ record a { managed = b.managed }) where
  kept : (m : Managed) → m ≡ a.managed → b.managed ≡ m → b ≡ a
  kept m first same = others ∙ ap (λ (x : Managed). record a { managed = x }) (same ∙ first)

  pub not-loaded : (fault : TierFault) → Loads a before (Err fault) b after → (b ≡ a) × IsSame (files_of before) (files_of after)
  not-loaded fault (Ok report, told, loads) = absurd cc
  not-loaded fault (Err (evict.Memory v), told, loads) = (kept _ (is_fresh a new) loads.1.manager, loads.1.same tt)
  not-loaded fault (Err (evict.File v), told, loads) = absurd loads
  not-loaded fault (Err (evict.Weight v), told, loads) = absurd loads
  not-loaded fault (Err (evict.Length v), told, loads) = absurd loads
  not-loaded fault (Err (evict.NumbersSpent v), told, loads) = absurd loads

-- so many shards are there as its settings say
pub loads-of : (n : ℕ) (a b : State) (before after : MemFolder) (came : Result (ShardLoadReport LoadFault) TierFault) → shards_of a ≡ n
    → LoadsOrder did (λ f. f.failures) (Unit {0}) files_of n dir (fresh n a.managed.limit a.managed.watermark) b.managed before after came
    → Loads a before came b after
loads-of n a b before after came e loads = subst
    (λ (k : ℕ). LoadsOrder did (λ f. f.failures) (Unit {0}) files_of k dir (fresh k a.managed.limit a.managed.watermark) b.managed before after came)
    (sym e) loads

pub saves-of : (n : ℕ) (s : State) (words : List ℕ) (before after : MemFolder) (came : Result (ShardSaveReport PackWriteFault) TierFault) → shards_of s ≡ n → words ≡ replicate n 0
    → SavesOrder did (λ f. f.failures) (Unit {0}) files_of n dir s.managed words before after came → Saves s before came after
saves-of n s words before after came e w saves = subst
    (λ (k : ℕ). SavesOrder did (λ f. f.failures) (Unit {0}) files_of k dir s.managed (replicate k 0) before after came) (sym e)
    (subst (λ (ws : List ℕ). SavesOrder did (λ f. f.failures) (Unit {0}) files_of n dir s.managed ws before after came) w saves)

abbrev saved_with : ShardSaveReport PackWriteFault → ℕ → Saved
saved_with report n = record { saved = report.saved; failed = n }

abbrev loaded_with : ShardLoadReport LoadFault → ℕ → Loaded
loaded_with report n = record { loaded = report.loaded; missing = report.missing; errored = n }

-- what is counted of a report
pub saved-counted : (report : ShardSaveReport PackWriteFault) (n : ℕ) → n ≡ length report.failed.items → saved_with report n ≡ saved_of report
saved-counted report n e = ap (saved_with report) e

pub loaded-counted : (report : ShardLoadReport LoadFault) (n : ℕ) → n ≡ length report.errored.items → loaded_with report n ≡ loaded_of report
loaded-counted report n e = ap (loaded_with report) e
