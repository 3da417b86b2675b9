-- First-match tables.
use Rattle.std.specs.Prelude.{Bool, if◌then◌else◌, List, [], ◌∷◌, Option, Some, None}

-- the first name whose test holds
abbrev pub first_true : {A : Type 0} → List (A × Bool) → Option A
first_true [] = None
first_true (row ∷ rows) = if row.1 then Some row.0 else first_true rows

-- the first value that is there
abbrev pub first_given : {A : Type 0} → List (Option A) → Option A
first_given [] = None
first_given (None ∷ rows) = first_given rows
first_given (Some x ∷ rows) = Some x

-- a value where a test holds
abbrev pub when : {A : Type 0} → Bool → A → Option A
when there x = if there then Some x else None
