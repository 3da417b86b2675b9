-- How a table from keys to indexes, the slots and the order of a linked list give rows.
use Rattle.std.specs.Prelude.{◌≡◌, ℕ, true, List, Option, Some, filter_map, slice_get}
use Rattle.std.specs.Option.{option_and_then}
use Rattle.lru_list.specs.Slots.{has, Apart}
use Rattle.lru_core.specs.declared.rows.Row.{Row}

-- the row in slot i
abbrev pub row_at : {T : Type 0} → List (Option (Row T)) → ℕ → Option (Row T)
row_at items i = option_and_then (λ o. o) (slice_get items i)

-- the rows in the order of their indexes
abbrev pub rows_of : {T : Type 0} → List (Option (Row T)) → List ℕ → List (Row T)
rows_of items is = filter_map (row_at items) is

-- The table `m` gives the index of each key, and each index of the order has a row whose key the table knows.
pub record IsTabled {T : Type 0} (m : ℕ → Option ℕ) (items : List (Option (Row T))) (is : List ℕ) : Type 0 where
  pub apart : Apart is
  pub known : (k i : ℕ) → m k ≡ Some i → (has is i ≡ true) × ((r : Row T) × (row_at items i ≡ Some r) × (r.key ≡ k))
  pub named : (i : ℕ) → has is i ≡ true → (r : Row T) × (row_at items i ≡ Some r) × (m r.key ≡ Some i)
