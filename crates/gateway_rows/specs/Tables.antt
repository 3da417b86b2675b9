-- First-match tables.
use Rattle.std.specs.Prelude.{Bool, if◌then◌else◌, List, [], ◌∷◌}

-- what the first row says whose condition holds; where none does, the last word
abbrev pub first_of : {A : Type 0} → List (Bool × A) → A → A
first_of [] last = last
first_of (row ∷ rows) last = if row.0 then row.1 else first_of rows last
