use Rattle.std.proofs.Common.{rules}
use Rattle.std.proofs.lemmas.List.{take_more}
use Rattle.request_puts.proofs.ReadLaws.{holds-more}
use Rattle.request_puts.proofs.put.whole.parsed.Goals as goal

pub loop-piece-preserved : goal.loop-piece-preserved
loop-piece-preserved c =
    holds-more c.args.pieces.now c.loop-piece.piece-index c.piece-item.result c.in_ok-shared.shared c.loop-piece.parser c.inject_data.new.self c.loop-piece-test.true
    (rw (take_more c.args.pieces.now c.loop-piece.piece-index c.piece-item.result c.loop-piece-test.true, ← c.piece-item.is) (search rules)) (search rules) c.loop-piece.invariant c.in_ok-inject_data.ensures.holds
