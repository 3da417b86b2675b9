-- Steps of a cache, and what its order of use holds after them: one list of entries under limits, latest used first.
use Rattle.std.specs.Prelude.{ℕ, ◌+◌, nat_lt, Bool, false, ◌||◌, if◌then◌else◌, List, [], ◌∷◌, Option, option_map, unwrap_or, is_some}
use Rattle.cache_entries.specs.declared.entry.CacheEntryKey.{CacheEntryKey}
use Rattle.cache_entries.specs.declared.rows.Tracked.{Tracked}
use Rattle.cache_entries.specs.Rows.{row_of, without_row}

-- An entry is asked for, or removed. Lists of steps have the latest first.
pub data Step : Type 0 where
  asks : CacheEntryKey → Step
  removes : CacheEntryKey → Step

abbrev pub entry_of : Step → CacheEntryKey
entry_of (asks e) = e
entry_of (removes e) = e

abbrev pub has_row : CacheEntryKey → List Tracked → Bool
has_row e rows = is_some (row_of e rows)

-- the number is past the watermark, if there is one
abbrev pub passes : Option ℕ → ℕ → Bool
passes watermark number = unwrap_or (option_map (λ mark. nat_lt mark number) watermark) false

-- the weight is past the limit, or the number past the watermark
abbrev pub exceeds : ℕ → Option ℕ → ℕ → ℕ → Bool
exceeds limit watermark weight number = nat_lt limit weight || passes watermark number

-- as many rows from the front on as keep both limits, where rows of that weight and number stand in front of them
abbrev pub kept_after : ℕ → Option ℕ → ℕ → ℕ → List Tracked → List Tracked
kept_after limit watermark weight number [] = []
kept_after limit watermark weight number (r ∷ rows) =
    if exceeds limit watermark (weight + r.weight) (number + 1) then [] else r ∷ kept_after limit watermark (weight + r.weight) (number + 1) rows

-- as many rows from the front on as keep both limits
abbrev pub kept : ℕ → Option ℕ → List Tracked → List Tracked
kept limit watermark rows = kept_after limit watermark 0 0 rows

abbrev pub row_for : (CacheEntryKey → ℕ) → CacheEntryKey → Tracked
row_for weight e = record { entry = e; weight = weight e }

abbrev pub put_first : (CacheEntryKey → ℕ) → CacheEntryKey → List Tracked → List Tracked
put_first weight e rows = row_for weight e ∷ without_row e rows

-- What is held after steps, from nothing: an entry that is asked for comes first, and the last ones go while a limit is passed.
abbrev pub held : (CacheEntryKey → ℕ) → ℕ → Option ℕ → List Step → List Tracked
held weight limit watermark [] = []
held weight limit watermark (asks e ∷ before) = kept limit watermark (put_first weight e (held weight limit watermark before))
held weight limit watermark (removes e ∷ before) = without_row e (held weight limit watermark before)
