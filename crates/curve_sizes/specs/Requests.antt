-- Requests with the weights that they say, and what caches of one list find of them. Lists of requests have the latest first.
use Rattle.std.specs.Prelude.{◌≡◌, ℕ, ◌+◌, ◌==◌, Bool, false, ◌||◌, if◌then◌else◌, List, [], ◌∷◌, Option}
use Rattle.std.specs.List.{AllByRecursion}
use Rattle.cache_entries.specs.declared.entry.CacheEntryKey.{CacheEntryKey}
use Rattle.cache_entries.specs.Entry.{same_entry}
use Rattle.curve_loads.specs.Steps.{Step, has_row, held}
use Rattle.curve_loads.specs.Steps as steps
use Rattle.curve_loads.specs.Finds.{finds}
use Rattle.curve_sizes.specs.declared.row.CurveRow.{CurveRow}
use Rattle.curve_sizes.specs.declared.when.When.{When}

-- An entry is asked for at some moment, which weighs so much by this request, or removed.
pub data Request : Type 0 where
  asks : CacheEntryKey → ℕ → When → Request
  removes : CacheEntryKey → Request

abbrev pub entry_of : Request → CacheEntryKey
entry_of (asks e w t) = e
entry_of (removes e) = e

abbrev pub step_of : Request → Step
step_of (asks e w t) = steps.asks e
step_of (removes e) = steps.removes e

abbrev pub steps_of : List Request → List Step
steps_of [] = []
steps_of (r ∷ before) = step_of r ∷ steps_of before

-- one of the requests asks for e
abbrev pub is_among : CacheEntryKey → List Request → Bool
is_among e [] = false
is_among e (asks x w t ∷ before) = same_entry x e || is_among e before
is_among e (removes x ∷ before) = is_among e before

-- each entry weighs what the first request that asks for it says
abbrev pub AreFirst : (CacheEntryKey → ℕ) → List Request → Type 0
AreFirst weight [] = Unit {0}
AreFirst weight (asks e w t ∷ before) = (is_among e before ≡ false → weight e ≡ w) × AreFirst weight before
AreFirst weight (removes e ∷ before) = AreFirst weight before

-- what the entries weigh that are held when they are asked for: `finds` with the weight in place of 1
abbrev pub found_bytes : (CacheEntryKey → ℕ) → ℕ → Option ℕ → List Step → ℕ
found_bytes weight limit watermark [] = 0
found_bytes weight limit watermark (steps.asks e ∷ before) =
    (if has_row e (held weight limit watermark before) then weight e else 0) + found_bytes weight limit watermark before
found_bytes weight limit watermark (steps.removes e ∷ before) = found_bytes weight limit watermark before

-- each row has what a cache of its limit finds of these steps
abbrev pub AreFound : (CacheEntryKey → ℕ) → Option ℕ → List Step → List CurveRow → Type 0
AreFound weight watermark steps rows =
    AllByRecursion (λ r. (r.finds ≡ finds weight r.limit watermark steps) × (r.bytes ≡ found_bytes weight r.limit watermark steps)) rows

-- ---- how many requests there are

-- requests that ask
abbrev pub asked_in : List Request → ℕ
asked_in [] = 0
asked_in (asks e w t ∷ before) = 1 + asked_in before
asked_in (removes e ∷ before) = asked_in before

-- entries that are asked for
abbrev pub entries_in : List Request → ℕ
entries_in [] = 0
entries_in (asks e w t ∷ before) = (if is_among e before then 0 else 1) + entries_in before
entries_in (removes e ∷ before) = entries_in before

-- requests that remove
abbrev pub removed_in : List Request → ℕ
removed_in [] = 0
removed_in (asks e w t ∷ before) = removed_in before
removed_in (removes e ∷ before) = 1 + removed_in before

-- requests that ask for an entry by another weight than its own
abbrev pub odd_in : (CacheEntryKey → ℕ) → List Request → ℕ
odd_in weight [] = 0
odd_in weight (asks e w t ∷ before) = (if w == weight e then 0 else 1) + odd_in weight before
odd_in weight (removes e ∷ before) = odd_in weight before

-- what the entries weigh that are asked for
abbrev pub bytes_in : (CacheEntryKey → ℕ) → List Request → ℕ
bytes_in weight [] = 0
bytes_in weight (asks e w t ∷ before) = weight e + bytes_in weight before
bytes_in weight (removes e ∷ before) = bytes_in weight before

-- what the requests that ask say that they weigh
abbrev pub said_in : List Request → ℕ
said_in [] = 0
said_in (asks e w t ∷ before) = w + said_in before
said_in (removes e ∷ before) = said_in before
