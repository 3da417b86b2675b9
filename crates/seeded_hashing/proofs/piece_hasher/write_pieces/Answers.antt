use Rattle.std.proofs.Common.{◌≡◌, ◌∙◌, ap, min, length}
use Rattle.std.specs.Slice.Iter.{chunks_rest}
use Rattle.std.proofs.lemmas.List.{length_push}
use Rattle.seeded_hashing.proofs.PieceLaws.{next_piece, next_rest, piece_written}
use Rattle.seeded_hashing.proofs.piece_hasher.write_pieces.Goals as goal

pub loop-piece-preserved : goal.loop-piece-preserved
loop-piece-preserved g c =
    let rest = chunks_rest c.loop-piece.piece-iterator in
    let more = chunks_rest c.next.new.self in
    let bytes = c.args.bytes.now in
    let n = length c.loop-piece.yielded in
    let i = c.loop-piece.invariant in
    let s = c.in-Some.ensures.steps in
    let len : length c.in-Some.piece.now ≡ min 8 (length rest) = s.1.1 ∙ ap (λ k. min k (length rest)) i.2 in
    let is_piece = next_piece bytes rest c.in-Some.piece.now more n i.1 s.1.0 len in
    let is_rest = next_rest bytes rest c.in-Some.piece.now more n i.1 s.1.0 len in
    let done = piece_written g.H.Hasher.write c.args.state.now c.loop-piece.state c.write.new.self bytes n c.in-Some.piece.now i.0 is_piece c.write.ensures in
    (rw (length_push c.loop-piece.yielded c.in-Some.piece, done), rw (length_push c.loop-piece.yielded c.in-Some.piece, is_rest), s.0 ∙ i.2)
