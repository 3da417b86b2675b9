use Rattle.std.specs.Prelude.{ℕ, List, Option}

-- a directive as it is written: its name, and its value with its quotes
abbrev pub Written : Type 0
Written = List ℕ × Option (List ℕ)
