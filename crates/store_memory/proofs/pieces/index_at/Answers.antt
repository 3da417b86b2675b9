use Rattle.std.proofs.Common.{arith, ap, ◌+◌, ◌-◌, ◌/◌, ◌<◌, length}
use Rattle.store_memory.proofs.PieceLaws.{ends_at, here}
use Rattle.store_memory.proofs.pieces.index_at.Goals as goal

pub loop-low-preserved-then-pieces-middle : goal.loop-low-preserved-then-pieces-middle
loop-low-preserved-then-pieces-middle c =
    let v = c.loop-low.invariant in
    let t = c.loop-low-test.true in
    let middle = c.loop-low.low + (c.loop-low.high - c.loop-low.low) / 2 in
    let o : middle < c.loop-low.high = omega (arith, t) in
    let w : middle < length c.args.pieces.now = omega (arith, o, v.within) in
    let e = ends_at c.args.pieces.now 0 middle c.index-pieces-middle.result c.requires.ends (here c.args.pieces.now middle c.index-pieces-middle.result w c.index-pieces-middle.is) in
    let same = ap (λ q. q.end) c.index-pieces-middle.is in
    let low = c.if-pieces-middle.true in
    record { order = omega (arith, o); within = v.within; before = omega (arith, e, same, low); after = v.after }

pub loop-low-preserved : goal.loop-low-preserved
loop-low-preserved c =
    let v = c.loop-low.invariant in
    let t = c.loop-low-test.true in
    let middle = c.loop-low.low + (c.loop-low.high - c.loop-low.low) / 2 in
    let o : middle < c.loop-low.high = omega (arith, t) in
    let w : middle < length c.args.pieces.now = omega (arith, o, v.within) in
    let e = ends_at c.args.pieces.now 0 middle c.index-pieces-middle.result c.requires.ends (here c.args.pieces.now middle c.index-pieces-middle.result w c.index-pieces-middle.is) in
    let same = ap (λ q. q.end) c.index-pieces-middle.is in
    let high = c.if-pieces-middle.false in
    record { order = omega arith; within = w; before = v.before; after = omega (arith, e, same, high) }
