use Rattle.std.proofs.Common.{◌≡◌, ◌*◌, length, drop}
use Rattle.std.specs.List.{fold, range_with_len}
use Rattle.seeded_hashing.specs.Pieces.{piece}
use Rattle.std.specs.Prelude.{map}
use Rattle.std.specs.Slice.Iter.{chunks_rest, chunks_size}
use Rattle.seeded_hashing.proofs.piece_hasher.write_pieces.Given as goal

abbrev pub invariant-loop-piece : goal.invariant-loop-piece
invariant-loop-piece g l =
    (l.state ≡ fold g.H.Hasher.write l.initial.state (map (piece l.bytes) (range_with_len 0 (length l.yielded))))
    × (chunks_rest l.piece-iterator ≡ drop (length l.yielded * 8) l.bytes) × (chunks_size l.piece-iterator ≡ 8)
