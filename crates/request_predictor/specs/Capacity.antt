-- Capacities of bounded lists.
use Rattle.std.specs.Prelude.{ℕ, ◌==◌, if◌then◌else◌}

-- a capacity; 0 is 1
abbrev pub at_least_one : ℕ → ℕ
at_least_one capacity = if capacity == 0 then 1 else capacity
