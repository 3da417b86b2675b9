-- Requests at moments, and what a cache of one list finds fresh. Lists of requests have the latest first.
use Rattle.std.specs.Prelude.{ℕ, ◌+◌, ◌==◌, nat_lt, Bool, ◌||◌, ◌&&◌, not, if◌then◌else◌, List, [], ◌∷◌, Option}
use Rattle.cache_entries.specs.declared.entry.CacheEntryKey.{CacheEntryKey}
use Rattle.cache_entries.specs.Entry.{same_entry}
use Rattle.curve_loads.specs.Steps.{Step, has_row, held}
use Rattle.curve_loads.specs.Steps as steps

-- An entry is asked for at a moment, for a response with a lifetime in seconds; or it is removed.
pub data Timed : Type 0 where
  asks : CacheEntryKey → ℕ → ℕ → Timed
  removes : CacheEntryKey → Timed

abbrev pub steps_of : List Timed → List Step
steps_of [] = []
steps_of (asks e m l ∷ before) = steps.asks e ∷ steps_of before
steps_of (removes e ∷ before) = steps.removes e ∷ steps_of before

-- The first moment at which a load is stale: of a lifetime of 60 at 1000 it is 1061; of 0 it is 1000, stale at once.
abbrev pub stale_from : (moment lifetime : ℕ) → ℕ
stale_from moment lifetime = if lifetime == 0 then moment else moment + lifetime + 1

-- The first moment at which the last load of e is stale, in a cache of these limits: a request that finds e fresh loads nothing.
abbrev pub stale_in : (weight : CacheEntryKey → ℕ) (limit : ℕ) (watermark : Option ℕ) → CacheEntryKey → List Timed → ℕ
stale_in weight limit watermark e [] = 0
stale_in weight limit watermark e (removes x ∷ before) = stale_in weight limit watermark e before
stale_in weight limit watermark e (asks x m l ∷ before) =
    if not (same_entry x e) || (has_row e (held weight limit watermark (steps_of before)) && nat_lt m (stale_in weight limit watermark e before))
    then stale_in weight limit watermark e before else stale_from m l

-- e is held, and at the moment its last load isn't stale
abbrev pub is_fresh : (weight : CacheEntryKey → ℕ) (limit : ℕ) (watermark : Option ℕ) → CacheEntryKey → ℕ → List Timed → Bool
is_fresh weight limit watermark e m before = has_row e (held weight limit watermark (steps_of before)) && nat_lt m (stale_in weight limit watermark e before)

-- how many requests find their entry fresh
abbrev pub fresh_finds : (weight : CacheEntryKey → ℕ) (limit : ℕ) (watermark : Option ℕ) → List Timed → ℕ
fresh_finds weight limit watermark [] = 0
fresh_finds weight limit watermark (asks e m l ∷ before) = (if is_fresh weight limit watermark e m before then 1 else 0) + fresh_finds weight limit watermark before
fresh_finds weight limit watermark (removes e ∷ before) = fresh_finds weight limit watermark before

-- what the entries weigh that are found fresh
abbrev pub fresh_bytes : (weight : CacheEntryKey → ℕ) (limit : ℕ) (watermark : Option ℕ) → List Timed → ℕ
fresh_bytes weight limit watermark [] = 0
fresh_bytes weight limit watermark (asks e m l ∷ before) = (if is_fresh weight limit watermark e m before then weight e else 0) + fresh_bytes weight limit watermark before
fresh_bytes weight limit watermark (removes e ∷ before) = fresh_bytes weight limit watermark before
