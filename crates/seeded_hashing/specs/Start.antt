-- Where hashes start.
use Rattle.std.specs.Prelude.{ℕ}
use Rattle.std.specs.List.{fold}
use Rattle.std.specs.Hash as fed
use Rattle.std.specs.Hash.FoldHasher.{initial, write}
use Rattle.seeded_hashing.specs.declared.piece_hasher.PieceHasher.{PieceHasher}

-- a hasher to which only the word was written
abbrev pub start_of : ℕ → PieceHasher
start_of word = record { inner = fold write initial (fed.u64 word) }
