-- The greatest load of an entry since it was last asked for: it says under which limits the entry is held.
use Rattle.std.specs.Prelude.{ℕ, ◌+◌, max, Bool, false, not, if◌then◌else◌, List, [], ◌∷◌, length, Option, Some, None, option_map}
use Rattle.cache_entries.specs.declared.entry.CacheEntryKey.{CacheEntryKey}
use Rattle.cache_entries.specs.declared.rows.Tracked.{Tracked}
use Rattle.cache_entries.specs.Entry.{same_entry}
use Rattle.cache_entries.specs.Rows.{all_weights}
use Rattle.curve_loads.specs.Steps.{Step, asks, removes, exceeds}
use Rattle.curve_loads.specs.Loads.{load}

-- the greater of a peak and what the rows weigh, and of a peak and how many they are
abbrev pub raised : ℕ × ℕ → List Tracked → ℕ × ℕ
raised most rows = (max most.0 (all_weights rows), max most.1 (length rows))

-- the greatest weight and the greatest number of the load of e since e was last asked for; none where e was removed since, or never asked for
abbrev pub peak : (CacheEntryKey → ℕ) → CacheEntryKey → List Step → Option (ℕ × ℕ)
peak weight e [] = None
peak weight e (asks x ∷ before) = if same_entry x e then Some (weight e, 1) else option_map (λ most. raised most (load weight e (asks x ∷ before))) (peak weight e before)
peak weight e (removes x ∷ before) = if same_entry x e then None else peak weight e before

-- the limits keep an entry of that peak
abbrev pub keeps : ℕ → Option ℕ → Option (ℕ × ℕ) → Bool
keeps limit watermark None = false
keeps limit watermark (Some most) = not (exceeds limit watermark most.0 most.1)

-- how many of the steps ask for an entry whose peak the limits keep
abbrev pub counted : (CacheEntryKey → ℕ) → ℕ → Option ℕ → List Step → ℕ
counted weight limit watermark [] = 0
counted weight limit watermark (asks e ∷ before) = (if keeps limit watermark (peak weight e before) then 1 else 0) + counted weight limit watermark before
counted weight limit watermark (removes e ∷ before) = counted weight limit watermark before
