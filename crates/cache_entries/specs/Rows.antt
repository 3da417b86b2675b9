-- Words on entries in the order of use, latest first.
use Rattle.std.specs.Prelude.{◌≡◌, ℕ, nat_lt, Bool, false, ◌||◌, not, List, [], ◌∷◌, ◌++◌, length, Option, Some, None, option_map, unwrap_or, find, filter}
use Rattle.std.specs.List.{sum_by}
use Rattle.cache_entries.specs.declared.entry.CacheEntryKey.{CacheEntryKey}
use Rattle.cache_entries.specs.declared.rows.Tracked.{Tracked}
use Rattle.cache_entries.specs.Entry.{same_entry}

abbrev pub row_of : CacheEntryKey → List Tracked → Option Tracked
row_of e rows = find (λ r. same_entry r.entry e) rows

-- what a tracked entry weighs
abbrev pub weight_of : CacheEntryKey → List Tracked → Option ℕ
weight_of e rows = option_map (λ r. r.weight) (row_of e rows)

abbrev pub all_weights : List Tracked → ℕ
all_weights rows = sum_by (λ r. r.weight) rows

abbrev pub without_row : CacheEntryKey → List Tracked → List Tracked
without_row e rows = filter (λ r. not (same_entry r.entry e)) rows

abbrev pub without_rows : List CacheEntryKey → List Tracked → List Tracked
without_rows [] rows = rows
without_rows (e ∷ es) rows = without_rows es (without_row e rows)

-- to the front, with this weight
abbrev pub admitted : CacheEntryKey → ℕ → List Tracked → List Tracked
admitted e w rows = record { entry = e; weight = w } ∷ without_row e rows

-- a use: to the front, with the weight that the entry has, or else with this one
abbrev pub used : CacheEntryKey → ℕ → List Tracked → List Tracked
used e w rows = admitted e (unwrap_or (weight_of e rows) w) rows

-- to the front, with the weight that the entry has; an entry that isn't there changes nothing
abbrev pub promoted : CacheEntryKey → List Tracked → List Tracked
promoted e rows = unwrap_or (option_map (λ w. admitted e w rows) (weight_of e rows)) rows

-- an entry that isn't there goes last, with this weight; one that is there stays as it is
abbrev pub with_last : CacheEntryKey → ℕ → List Tracked → List Tracked
with_last e w rows = unwrap_or (option_map (λ _. rows) (row_of e rows)) (rows ++ record { entry = e; weight = w } ∷ [])

-- no entry has two rows
abbrev pub AreDistinct : List Tracked → Type 0
AreDistinct [] = Unit {0}
AreDistinct (r ∷ rows) = (row_of r.entry rows ≡ None) × AreDistinct rows

-- the weights' sum passes the limit, or the number of entries the watermark, if there is one
abbrev pub is_over : ℕ → Option ℕ → List Tracked → Bool
is_over limit watermark rows = nat_lt limit (all_weights rows) || unwrap_or (option_map (λ mark. nat_lt mark (length rows)) watermark) false
