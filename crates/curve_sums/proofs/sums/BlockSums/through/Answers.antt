use Rattle.std.proofs.Common.{◌/◌, arith}
use Rattle.curve_sums.proofs.Fronts.{front-within}
use Rattle.curve_sums.proofs.Stack.{totals, fronts}
use Rattle.curve_sums.proofs.sums.BlockSums.through.Goals as goal

pub between-fourths-requires-clause-fits : goal.between-fourths-requires-clause-fits
between-fourths-requires-clause-fits c =
    let t = totals c.self.inside.cells.items c.self.inside.blocks.items c.self.inside.seconds.items c.self.inside.thirds.items c.self.inside.fourths.items c.self.inside.total c.self.invariant.0 in
    rw c.as_slice.ensures.value (omega (arith, t.four, c.self.invariant.1))

pub between-requires-clause-fits : goal.between-requires-clause-fits
between-requires-clause-fits c =
    let t = totals c.self.inside.cells.items c.self.inside.blocks.items c.self.inside.seconds.items c.self.inside.thirds.items c.self.inside.fourths.items c.self.inside.total c.self.invariant.0 in
    rw c.as_slice-2.ensures.value (omega (arith, t.three, c.self.invariant.1))

pub between-requires-2-clause-fits : goal.between-requires-2-clause-fits
between-requires-2-clause-fits c =
    let t = totals c.self.inside.cells.items c.self.inside.blocks.items c.self.inside.seconds.items c.self.inside.thirds.items c.self.inside.fourths.items c.self.inside.total c.self.invariant.0 in
    rw c.as_slice-3.ensures.value (omega (arith, t.two, c.self.invariant.1))

pub between-requires-3-clause-fits : goal.between-requires-3-clause-fits
between-requires-3-clause-fits c =
    let t = totals c.self.inside.cells.items c.self.inside.blocks.items c.self.inside.seconds.items c.self.inside.thirds.items c.self.inside.fourths.items c.self.inside.total c.self.invariant.0 in
    rw c.as_slice-4.ensures.value (omega (arith, t.one, c.self.invariant.1))

pub between-requires-4-clause-fits : goal.between-requires-4-clause-fits
between-requires-4-clause-fits c =
    let t = totals c.self.inside.cells.items c.self.inside.blocks.items c.self.inside.seconds.items c.self.inside.thirds.items c.self.inside.fourths.items c.self.inside.total c.self.invariant.0 in
    rw c.as_slice-5.ensures.value (omega (arith, c.self.invariant.0.all, c.self.invariant.1))

pub overflow_add-thirds : goal.overflow_add-thirds
overflow_add-thirds c =
    let f = fronts c.self.inside.cells.items c.self.inside.blocks.items c.self.inside.seconds.items c.self.inside.thirds.items c.self.inside.fourths.items c.self.inside.total c.self.invariant.0 c.args.at in
    let t = totals c.self.inside.cells.items c.self.inside.blocks.items c.self.inside.seconds.items c.self.inside.thirds.items c.self.inside.fourths.items c.self.inside.total c.self.invariant.0 in
    let e0 = rw c.as_slice.ensures.value at c.between-fourths.ensures in
    let e1 = rw c.as_slice-2.ensures.value at c.between.ensures in
    let w = front-within c.self.inside.thirds.items (c.args.at / 64 / 64 / 64) in
    omega (arith, e0, e1, f.four, w, t.three, c.self.invariant.1)

pub overflow_add-seconds : goal.overflow_add-seconds
overflow_add-seconds c =
    let f = fronts c.self.inside.cells.items c.self.inside.blocks.items c.self.inside.seconds.items c.self.inside.thirds.items c.self.inside.fourths.items c.self.inside.total c.self.invariant.0 c.args.at in
    let t = totals c.self.inside.cells.items c.self.inside.blocks.items c.self.inside.seconds.items c.self.inside.thirds.items c.self.inside.fourths.items c.self.inside.total c.self.invariant.0 in
    let e0 = rw c.as_slice.ensures.value at c.between-fourths.ensures in
    let e1 = rw c.as_slice-2.ensures.value at c.between.ensures in
    let e2 = rw c.as_slice-3.ensures.value at c.between-2.ensures in
    let w = front-within c.self.inside.seconds.items (c.args.at / 64 / 64) in
    omega (arith, e0, e1, e2, f.four, f.three, w, t.two, c.self.invariant.1)

pub overflow_add-blocks : goal.overflow_add-blocks
overflow_add-blocks c =
    let f = fronts c.self.inside.cells.items c.self.inside.blocks.items c.self.inside.seconds.items c.self.inside.thirds.items c.self.inside.fourths.items c.self.inside.total c.self.invariant.0 c.args.at in
    let t = totals c.self.inside.cells.items c.self.inside.blocks.items c.self.inside.seconds.items c.self.inside.thirds.items c.self.inside.fourths.items c.self.inside.total c.self.invariant.0 in
    let e0 = rw c.as_slice.ensures.value at c.between-fourths.ensures in
    let e1 = rw c.as_slice-2.ensures.value at c.between.ensures in
    let e2 = rw c.as_slice-3.ensures.value at c.between-2.ensures in
    let e3 = rw c.as_slice-4.ensures.value at c.between-3.ensures in
    let w = front-within c.self.inside.blocks.items (c.args.at / 64) in
    omega (arith, e0, e1, e2, e3, f.four, f.three, f.two, w, t.one, c.self.invariant.1)

pub overflow_add-result : goal.overflow_add-result
overflow_add-result c =
    let f = fronts c.self.inside.cells.items c.self.inside.blocks.items c.self.inside.seconds.items c.self.inside.thirds.items c.self.inside.fourths.items c.self.inside.total c.self.invariant.0 c.args.at in
    let t = totals c.self.inside.cells.items c.self.inside.blocks.items c.self.inside.seconds.items c.self.inside.thirds.items c.self.inside.fourths.items c.self.inside.total c.self.invariant.0 in
    let e0 = rw c.as_slice.ensures.value at c.between-fourths.ensures in
    let e1 = rw c.as_slice-2.ensures.value at c.between.ensures in
    let e2 = rw c.as_slice-3.ensures.value at c.between-2.ensures in
    let e3 = rw c.as_slice-4.ensures.value at c.between-3.ensures in
    let e4 = rw c.as_slice-5.ensures.value at c.between-4.ensures in
    omega (arith, e0, e1, e2, e3, e4, f.four, f.three, f.two, f.one, f.most, c.self.invariant.1)

pub returns : goal.returns
returns c =
    let f = fronts c.self.inside.cells.items c.self.inside.blocks.items c.self.inside.seconds.items c.self.inside.thirds.items c.self.inside.fourths.items c.self.inside.total c.self.invariant.0 c.args.at in
    let t = totals c.self.inside.cells.items c.self.inside.blocks.items c.self.inside.seconds.items c.self.inside.thirds.items c.self.inside.fourths.items c.self.inside.total c.self.invariant.0 in
    let e0 = rw c.as_slice.ensures.value at c.between-fourths.ensures in
    let e1 = rw c.as_slice-2.ensures.value at c.between.ensures in
    let e2 = rw c.as_slice-3.ensures.value at c.between-2.ensures in
    let e3 = rw c.as_slice-4.ensures.value at c.between-3.ensures in
    let e4 = rw c.as_slice-5.ensures.value at c.between-4.ensures in
    rw (← c.self.view_is) (omega (arith, e0, e1, e2, e3, e4, f.four, f.three, f.two, f.one))
