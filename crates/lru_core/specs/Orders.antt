-- Rows inserted one after another.
use Rattle.std.specs.Prelude.{◌≡◌, ◌++◌, ⊤, List, [], ◌∷◌, cond, is_some}
use Rattle.lru_core.specs.declared.rows.Row.{Row}
use Rattle.lru_core.specs.Rows.{only, row_of}

-- no two rows have one key
abbrev pub Distinct : {T : Type 0} → List (Row T) → Type 0
Distinct [] = ⊤
Distinct (r ∷ rows) = (only r.key rows ≡ []) × Distinct rows

-- the rows with one more at the back, if its key is new
abbrev pub with_last : {T : Type 0} → List (Row T) → Row T → List (Row T)
with_last rows r = cond (is_some (row_of r.key rows)) rows (rows ++ r ∷ [])

-- with all these in turn
abbrev pub with_all_last : {T : Type 0} → List (Row T) → List (Row T) → List (Row T)
with_all_last rows [] = rows
with_all_last rows (r ∷ more) = with_all_last (with_last rows r) more
