-- Plain lists of rows, most recent first.
use Rattle.std.specs.Prelude.{◌≡◌, ◌≢◌, ℕ, [], ◌+◌, ◌==◌, ◌<◌, ◌≤◌, ◌⊎◌, ◌++◌, ◌∷◌, length, not, min, max, List, filter, map, Option, Some, None, is_some, cond, if◌then◌else◌, slice_get, filter_map}
use Rattle.std.specs.List.{sum_by}
use Rattle.std.specs.Option.{option_map}
use Rattle.std.specs.Borrow.{Bor}
use Rattle.lru_core.specs.declared.rows.Row.{Row}
use Rattle.lru_core.specs.declared.rows.TheConstants.{MOST_ROWS}
use Rattle.lru_core.specs.declared.rows.End.{End}
use Rattle.lru_core.specs.declared.rows.End.TheVariants.{Front, Back}

-- the row of key k, as a list of one row or none
abbrev pub only : {T : Type 0} → ℕ → List (Row T) → List (Row T)
only k rows = filter (λ r. r.key == k) rows

-- the row of key k, if there is one
abbrev pub row_of : {T : Type 0} → ℕ → List (Row T) → Option (Row T)
row_of k rows = slice_get (only k rows) 0

-- the rows of other keys than k
abbrev pub others : {T : Type 0} → ℕ → List (Row T) → List (Row T)
others k rows = filter (λ r. not (r.key == k)) rows

-- the rows with that of key k, if there is one, at the front
abbrev pub promoted : {T : Type 0} → ℕ → List (Row T) → List (Row T)
promoted k rows = only k rows ++ others k rows

-- the rows with another weight for key k
abbrev pub reweighed : {T : Type 0} → ℕ → ℕ → List (Row T) → List (Row T)
reweighed k w rows = map (λ r. cond (r.key == k) (record r { weight = w }) r) rows

-- `row` in the place of the row of its key
abbrev pub put : {T : Type 0} → Row T → List (Row T) → List (Row T)
put row rows = map (λ r. cond (r.key == row.key) row r) rows

-- a list with one more at that end
abbrev pub with_one : {X : Type 0} → End → X → List X → List X
with_one Front x xs = x ∷ xs
with_one Back x xs = xs ++ x ∷ []

-- the sum of the rows' weights
abbrev pub total_weight : {T : Type 0} → List (Row T) → ℕ
total_weight rows = sum_by (λ r. r.weight) rows

-- a weight with a cap on it, if there is one
abbrev pub capped : Option ℕ → ℕ → ℕ
capped None w = w
capped (Some most) w = min w most

-- a weight with `delta` added, up to a cap, if there is one, but never down
abbrev pub raised : ℕ → ℕ → Option ℕ → ℕ
raised old delta most = max old (capped most (old + delta))

-- the weight that key k has once `delta` is added: a new key has 1 at least
abbrev pub incremented : {T : Type 0} → ℕ → ℕ → Option ℕ → List (Row T) → ℕ
incremented k delta most rows =
    if is_some (row_of k rows) then raised (total_weight (only k rows)) delta most else max 1 (capped most delta)

abbrev pub a_row : {T : Type 0} → ℕ → T → ℕ → Row T
a_row k d w = record { key = k; «data» = d; weight = w }

-- the rows with data d and a weight of 1 at least under key k, at the front, in place of what the key had
abbrev pub admitted : {T : Type 0} → ℕ → T → ℕ → List (Row T) → List (Row T)
admitted k d w rows = a_row k d (max 1 w) ∷ others k rows

-- key k is there and weighs w; what that leaves for the others
abbrev pub Weighs : {T : Type 0} → ℕ → List (Row T) → ℕ → Type 0
Weighs k rows w = (only k rows ≢ []) × (total_weight (only k rows) ≡ w) × (total_weight rows ≡ w + total_weight (others k rows)) × (length rows ≡ 1 + length (others k rows))

-- the data and the weight of a row
abbrev pub pair_of : {T : Type 0} → Row T → T × ℕ
pair_of r = (r.«data», r.weight)

-- those of each row, in order
abbrev pub pairs_of : {T : Type 0} → List (Row T) → List (T × ℕ)
pairs_of rows = map pair_of rows

-- those of the rows that slots hold
abbrev pub pairs_in : {T : Type 0} → List (Option (Row T)) → List (T × ℕ)
pairs_in slots = filter_map (λ o. option_map pair_of o) slots

-- what an iterator shows of such a pair
abbrev pub shown_pair : {T : Type 0} → Bor T × ℕ → T × ℕ
shown_pair p = (p.0.now, p.1)

-- a shard: its rows, most recent first, and what neither their number nor their weight may pass
pub record Shard (T : Type 0) : Type 0 where
  pub rows : List (Row T)
  pub bound : ℕ

-- a weight of w under key k would pass the bound
abbrev pub IsHeavy : {T : Type 0} → ℕ → ℕ → ℕ → List (Row T) → Type 0
IsHeavy bound k w rows = bound < total_weight (others k rows) + w

-- there is no room for one row more: their number is at the bound, or at the most that a shard can have
abbrev pub IsLong : {T : Type 0} → ℕ → List (Row T) → Type 0
IsLong bound rows = (bound ≤ length rows) ⊎ (MOST_ROWS ≤ length rows)

-- there is room for one row more
abbrev pub HasPlace : {T : Type 0} → ℕ → List (Row T) → Type 0
HasPlace bound rows = (length rows < bound) × (length rows < MOST_ROWS)

-- a row more, of weight w, is within the bound
abbrev pub Fits : {T : Type 0} → ℕ → ℕ → List (Row T) → Type 0
Fits bound w rows = (total_weight rows + w ≤ bound) × HasPlace bound rows
