-- Bytes in pieces of at most eight.
use Rattle.std.specs.Prelude.{ℕ, ◌+◌, ◌*◌, ◌/◌, List, map, take, drop, length}
use Rattle.std.specs.List.{range_with_len}
use Rattle.std.specs.Hash as fed

-- the k-th eight bytes; the last may be fewer
abbrev pub piece : List ℕ → ℕ → List ℕ
piece bytes k = take 8 (drop (k * 8) bytes)

-- all of them in order
abbrev pub pieces : List ℕ → fed.HashWrites
pieces bytes = map (piece bytes) (range_with_len 0 ((length bytes + 7) / 8))
