-- Which shard an eviction takes from, by the numbers of rows alone.
use Rattle.std.specs.Prelude.{◌≡◌, ℕ, ◌%◌, List, length, map}
use Rattle.lru_core.specs.declared.rows.Row.{Row}
use Rattle.lru_core.specs.Cores.{longer_of_two, first_nonempty_from}

-- from any shards with these numbers of rows, a step of eviction with the draws a and b takes from shard i
abbrev pub IsPick : List ℕ → ℕ → ℕ → ℕ → Type 0
IsPick lens a b i =
    (shards : List (List (Row ℕ))) → map length shards ≡ lens → i ≡ first_nonempty_from (length lens) shards (length lens) (longer_of_two shards (a % length lens) (b % length lens))
