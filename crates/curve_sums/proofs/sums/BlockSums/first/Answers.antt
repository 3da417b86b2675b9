use Rattle.std.proofs.Common.{arith}
use Rattle.curve_sums.proofs.Blocks.{descends}
use Rattle.curve_sums.proofs.Stack.{totals}
use Rattle.curve_sums.proofs.sums.BlockSums.first.Goals as goal

pub first_from-fourth-requires-clause-some : goal.first_from-fourth-requires-clause-some
first_from-fourth-requires-clause-some c =
    let t = totals c.self.inside.cells.items c.self.inside.blocks.items c.self.inside.seconds.items c.self.inside.thirds.items c.self.inside.fourths.items c.self.inside.total c.self.invariant.0 in
    rw c.as_slice.ensures.value (omega (arith, t.four, c.if-self-eq0.false))

pub first_from-third-requires-clause-before : goal.first_from-third-requires-clause-before
first_from-third-requires-clause-before c =
    let d = descends c.self.inside.thirds.items c.self.inside.fourths.items c.self.invariant.0.fourth c.first_from-fourth.result (rw c.as_slice.ensures.value at c.first_from-fourth.ensures) in
    rw c.as_slice-2.ensures.value d.1

pub overflow_mul-fourth : goal.overflow_mul-fourth
overflow_mul-fourth c =
    let d = descends c.self.inside.thirds.items c.self.inside.fourths.items c.self.invariant.0.fourth c.first_from-fourth.result (rw c.as_slice.ensures.value at c.first_from-fourth.ensures) in
    let k = c.self.inside.thirds.ok in
    let s = c.self.inside.thirds.small in
    omega (arith, d.0, k.0, k.1, s)

pub first_from-third-requires-clause-some : goal.first_from-third-requires-clause-some
first_from-third-requires-clause-some c =
    let t = totals c.self.inside.cells.items c.self.inside.blocks.items c.self.inside.seconds.items c.self.inside.thirds.items c.self.inside.fourths.items c.self.inside.total c.self.invariant.0 in
    rw c.as_slice-2.ensures.value (omega (arith, t.three, c.self.invariant.0.all, c.if-self-eq0.false))

pub first_from-second-requires-clause-before : goal.first_from-second-requires-clause-before
first_from-second-requires-clause-before c =
    let d = descends c.self.inside.seconds.items c.self.inside.thirds.items c.self.invariant.0.third c.first_from-third.result (rw c.as_slice-2.ensures.value at c.first_from-third.ensures) in
    rw c.as_slice-3.ensures.value d.1

pub overflow_mul-third : goal.overflow_mul-third
overflow_mul-third c =
    let d = descends c.self.inside.seconds.items c.self.inside.thirds.items c.self.invariant.0.third c.first_from-third.result (rw c.as_slice-2.ensures.value at c.first_from-third.ensures) in
    let k = c.self.inside.seconds.ok in
    let s = c.self.inside.seconds.small in
    omega (arith, d.0, k.0, k.1, s)

pub first_from-second-requires-clause-some : goal.first_from-second-requires-clause-some
first_from-second-requires-clause-some c =
    let t = totals c.self.inside.cells.items c.self.inside.blocks.items c.self.inside.seconds.items c.self.inside.thirds.items c.self.inside.fourths.items c.self.inside.total c.self.invariant.0 in
    rw c.as_slice-3.ensures.value (omega (arith, t.two, c.self.invariant.0.all, c.if-self-eq0.false))

pub first_from-block-requires-clause-before : goal.first_from-block-requires-clause-before
first_from-block-requires-clause-before c =
    let d = descends c.self.inside.blocks.items c.self.inside.seconds.items c.self.invariant.0.second c.first_from-second.result (rw c.as_slice-3.ensures.value at c.first_from-second.ensures) in
    rw c.as_slice-4.ensures.value d.1

pub overflow_mul-second : goal.overflow_mul-second
overflow_mul-second c =
    let d = descends c.self.inside.blocks.items c.self.inside.seconds.items c.self.invariant.0.second c.first_from-second.result (rw c.as_slice-3.ensures.value at c.first_from-second.ensures) in
    let k = c.self.inside.blocks.ok in
    let s = c.self.inside.blocks.small in
    omega (arith, d.0, k.0, k.1, s)

pub first_from-block-requires-clause-some : goal.first_from-block-requires-clause-some
first_from-block-requires-clause-some c =
    let t = totals c.self.inside.cells.items c.self.inside.blocks.items c.self.inside.seconds.items c.self.inside.thirds.items c.self.inside.fourths.items c.self.inside.total c.self.invariant.0 in
    rw c.as_slice-4.ensures.value (omega (arith, t.one, c.self.invariant.0.all, c.if-self-eq0.false))

pub first_from-requires-clause-before : goal.first_from-requires-clause-before
first_from-requires-clause-before c =
    let d = descends c.self.inside.cells.items c.self.inside.blocks.items c.self.invariant.0.first c.first_from-block.result (rw c.as_slice-4.ensures.value at c.first_from-block.ensures) in
    rw c.as_slice-5.ensures.value d.1

pub overflow_mul-block : goal.overflow_mul-block
overflow_mul-block c =
    let d = descends c.self.inside.cells.items c.self.inside.blocks.items c.self.invariant.0.first c.first_from-block.result (rw c.as_slice-4.ensures.value at c.first_from-block.ensures) in
    let k = c.self.inside.cells.ok in
    let s = c.self.inside.cells.small in
    omega (arith, d.0, k.0, k.1, s)

pub first_from-requires-clause-some : goal.first_from-requires-clause-some
first_from-requires-clause-some c =
    let t = totals c.self.inside.cells.items c.self.inside.blocks.items c.self.inside.seconds.items c.self.inside.thirds.items c.self.inside.fourths.items c.self.inside.total c.self.invariant.0 in
    rw c.as_slice-5.ensures.value (omega (arith, t.one, c.self.invariant.0.all, c.if-self-eq0.false))
