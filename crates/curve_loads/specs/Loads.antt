-- Loads: what was asked for since an entry was. No limit is in them.
use Rattle.std.specs.Prelude.{◌≡◌, ℕ, Bool, false, ◌||◌, ◌&&◌, not, if◌then◌else◌, List, [], ◌∷◌, ◌++◌, Option}
use Rattle.std.specs.List.{AllByRecursion}
use Rattle.cache_entries.specs.declared.entry.CacheEntryKey.{CacheEntryKey}
use Rattle.cache_entries.specs.declared.rows.Tracked.{Tracked}
use Rattle.cache_entries.specs.Entry.{same_entry}
use Rattle.cache_entries.specs.Rows.{without_row, is_over}
use Rattle.curve_loads.specs.Steps.{Step, asks, removes, entry_of, row_for}

-- The load of e: e and the entries asked for since e was last, each once, latest first, without those removed since they were
-- last asked for. It is counted by weight and by number.
abbrev pub load : (CacheEntryKey → ℕ) → CacheEntryKey → List Step → List Tracked
load weight e [] = []
load weight e (asks x ∷ before) = row_for weight x ∷ (if same_entry x e then [] else without_row x (load weight e before))
load weight e (removes x ∷ before) = without_row x (load weight e before)

-- the load of e is past a limit
abbrev pub is_past : (CacheEntryKey → ℕ) → ℕ → Option ℕ → CacheEntryKey → List Step → Bool
is_past weight limit watermark e steps = is_over limit watermark (load weight e steps)

-- e was asked for, not removed since, and its load was within both limits after each step from the last that asked for it
pub record Stays (weight : CacheEntryKey → ℕ) (limit : ℕ) (watermark : Option ℕ) (e : CacheEntryKey) (steps : List Step) : Type 0 where
  pub later : List Step
  pub before : List Step
  pub parts : steps ≡ later ++ asks e ∷ before
  pub others : AllByRecursion (λ s. same_entry (entry_of s) e ≡ false) later
  pub within : (new old : List Step) → later ≡ new ++ old → is_past weight limit watermark e (old ++ asks e ∷ before) ≡ false

-- the same as a test, step by step
abbrev pub stays : (CacheEntryKey → ℕ) → ℕ → Option ℕ → CacheEntryKey → List Step → Bool
stays weight limit watermark e [] = false
stays weight limit watermark e (asks x ∷ before) = (same_entry x e || stays weight limit watermark e before) && not (is_past weight limit watermark e (asks x ∷ before))
stays weight limit watermark e (removes x ∷ before) = not (same_entry x e) && (stays weight limit watermark e before && not (is_past weight limit watermark e (removes x ∷ before)))

-- the latest step of e, if there is one, asks for it
abbrev pub is_asked : CacheEntryKey → List Step → Bool
is_asked e [] = false
is_asked e (asks x ∷ before) = same_entry x e || is_asked e before
is_asked e (removes x ∷ before) = not (same_entry x e) && is_asked e before

abbrev pub AreAsks : List Step → Type 0
AreAsks steps = AllByRecursion (λ s. s ≡ asks (entry_of s)) steps

-- each row has its entry's weight
abbrev pub AreWeighed : (CacheEntryKey → ℕ) → List Tracked → Type 0
AreWeighed weight rows = AllByRecursion (λ r. r.weight ≡ weight r.entry) rows
