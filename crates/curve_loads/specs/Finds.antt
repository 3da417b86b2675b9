-- Two caches side by side, and how many requests find their entry.
use Rattle.std.specs.Prelude.{◌≡◌, ℕ, Bool, ◌+◌, ◌≤◌, if◌then◌else◌, List, [], ◌∷◌, ◌++◌, Option, Some, None}
use Rattle.cache_entries.specs.declared.entry.CacheEntryKey.{CacheEntryKey}
use Rattle.cache_entries.specs.declared.rows.Tracked.{Tracked}
use Rattle.curve_loads.specs.Steps.{Step, asks, removes, entry_of, has_row, held}

-- the first list is a front of the second, which is the first followed by something
abbrev pub IsFront : List Tracked → List Tracked → Type 0
IsFront xs ys = (rest : List Tracked) × (ys ≡ xs ++ rest)

-- the first watermark isn't greater than the second: none is the greatest
abbrev pub IsAtMost : Option ℕ → Option ℕ → Type 0
IsAtMost watermark None = Unit {0}
IsAtMost None (Some more) = ⊥
IsAtMost (Some less) (Some more) = less ≤ more

-- of each step, latest first, whether its entry is held then
abbrev pub answers : (CacheEntryKey → ℕ) → ℕ → Option ℕ → List Step → List Bool
answers weight limit watermark [] = []
answers weight limit watermark (s ∷ before) = has_row (entry_of s) (held weight limit watermark before) ∷ answers weight limit watermark before

-- how many of the steps ask for an entry that is held then
abbrev pub finds : (CacheEntryKey → ℕ) → ℕ → Option ℕ → List Step → ℕ
finds weight limit watermark [] = 0
finds weight limit watermark (asks e ∷ before) = (if has_row e (held weight limit watermark before) then 1 else 0) + finds weight limit watermark before
finds weight limit watermark (removes e ∷ before) = finds weight limit watermark before
