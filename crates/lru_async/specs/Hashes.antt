-- The hash of a key, by std's hasher with its fixed start.
use Rattle.std.specs.Prelude.{ℕ, List}
use Rattle.std.specs.List.{fold}
use Rattle.std.specs.Hash.FoldHasher.{initial, write, finish}

-- the hash of a key that hashes itself by these writes
abbrev pub key_hash : List (List ℕ) → ℕ
key_hash writes = finish (fold write initial writes)
