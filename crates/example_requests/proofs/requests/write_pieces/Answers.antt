use Rattle.std.proofs.Common.{rules, ◌∙◌}
use Rattle.std.proofs.lemmas.List.{take_more}
use Rattle.example_requests.proofs.WriteLaws.{wrote, one-more}
use Rattle.example_requests.specs.Steps.{bytes_at}
use Rattle.example_requests.proofs.requests.write_pieces.Goals as goal

pub loop-piece-preserved : goal.loop-piece-preserved
loop-piece-preserved c =
    let n = c.in-Some.writer.now in (
      c.write_body.ensures.same ∙ c.loop-piece.invariant.0,
      one-more c.args.pieces.now c.loop-piece.piece-index c.piece-item.result (bytes_at n c.args.cache.now.store) (bytes_at n c.loop-piece.cache.store) (bytes_at n c.write_body.new.store)
          (rw (take_more c.args.pieces.now c.loop-piece.piece-index c.piece-item.result c.loop-piece-test.true, ← c.piece-item.is) (search rules)) c.loop-piece.invariant.1
          (wrote n c.loop-piece.writer c.piece-item.result c.in_ok-clone.field-0 c.loop-piece.cache.store c.write_body.new.store c.loop-piece.invariant.0 (search rules) c.in_ok-write_body.ensures.ok),
    )
