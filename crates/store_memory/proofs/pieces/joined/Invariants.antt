use Rattle.std.proofs.Common.{◌≡◌, ◌++◌, take}
use Rattle.store_memory.specs.Pieces.{bytes_of}
use Rattle.store_memory.proofs.pieces.joined.Given as goal

abbrev pub invariant-loop-piece : goal.invariant-loop-piece
invariant-loop-piece l = l.all.items ≡ l.first ++ bytes_of (take l.piece-index l.others)
