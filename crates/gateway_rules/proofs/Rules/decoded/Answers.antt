use Rattle.std.proofs.Common.{◌+◌, drop, refl, length-drop, arith}
use Rattle.gateway_rules.specs.Bodies.{body_of, piece_of, decoded_in}
use Rattle.gateway_rules.proofs.Pieces.{goes_on_at, starts, fails_first, fails_later, dropped_twice, rest_is}
use Rattle.gateway_rules.proofs.Rules.decoded.Goals as goal

pub returns-in-Err-clause-gives : goal.returns-in-Err-clause-gives
returns-in-Err-clause-gives c = fails_first c.in-Err.bad (body_of c.args.body.now) c.args.given.now c.in-Err.ensures.gives

pub loop-piece-init : goal.loop-piece-init
loop-piece-init c = record {
  within = omega arith;
  same = refl;
  lies = c.in-Ok.ensures.lies;
  takes = c.in-Ok.ensures.takes;
  so_far = starts (body_of c.args.body.now) c.args.given.now (piece_of c.in-Ok.piece) c.new-content.result.items c.new-content.ensures.items c.in-Ok.ensures.gives;
}

pub returns-in-Err-next_piece-clause-gives : goal.returns-in-Err-next_piece-clause-gives
returns-in-Err-next_piece-clause-gives c =
    let l = c.loop-piece in
    let body = c.args.body.now in
    let p = piece_of l.piece in
    let is = c.loop-piece-test.true in
    fails_later c.in-Err-next_piece.bad body.trailers.items (drop l.used c.args.given.now) (drop (l.used + l.piece.told.used) c.args.given.now) p l.content.items l.used
    (decoded_in (body_of body) c.args.given.now) is l.invariant.lies (l.invariant.takes is) (dropped_twice l.used l.piece.told.used c.args.given.now)
    (rw (rest_is (l.used + l.piece.told.used) c.args.given.now) at c.in-Err-next_piece.ensures.gives) l.invariant.so_far

pub loop-piece-preserved : goal.loop-piece-preserved
loop-piece-preserved c =
    let l = c.loop-piece in
    let body = c.args.body.now in
    let p = piece_of l.piece in
    let is = c.loop-piece-test.true in
    record {
      within = (let w = l.invariant.lies.used in let v = l.invariant.lies.within in let k = length-drop l.used c.args.given.now in let i = l.invariant.within in omega (arith, w, v, k, i));
      same = l.invariant.same;
      lies = rw (rest_is (l.used + l.piece.told.used) c.args.given.now) at c.in-Ok-next_piece.ensures.lies;
      takes = c.in-Ok-next_piece.ensures.takes;
      so_far = goes_on_at body.trailers.items (drop l.used c.args.given.now) (drop (l.used + l.piece.told.used) c.args.given.now) p (piece_of c.in-Ok-next_piece.piece)
          l.content.items c.extend_from_slice.new.self.items l.used (decoded_in (body_of body) c.args.given.now) is l.invariant.lies (l.invariant.takes is)
          (dropped_twice l.used l.piece.told.used c.args.given.now) (rw (rest_is l.used c.args.given.now) at c.in_ok-extend_from_slice.ensures.items)
          (rw (rest_is (l.used + l.piece.told.used) c.args.given.now) at c.in-Ok-next_piece.ensures.gives) l.invariant.so_far;
    }
