use Rattle.std.proofs.Common.{◌-◌, arith, take, drop}
use Rattle.std.proofs.lemmas.List.Sums.{sum_by_more_le}
use Rattle.curve_sums.proofs.Fronts.{number, front-all, front-part, front-within}
use Rattle.curve_sums.proofs.level.between.Goals as goal

pub overflow_add-all : goal.overflow_add-all
overflow_add-all c =
    let part = take (c.args.end - c.args.from) (drop c.args.from c.args.level.now) in
    let a = sum_by_more_le number part c.loop-cell.cell-index 0 c.loop-cell-test.true in
    let b = front-part c.args.level.now c.args.from c.args.end c.requires.within.0 in
    let d = front-within c.args.level.now c.args.end in
    omega (arith, a, b, d, c.loop-cell.invariant, c.requires.fits)

pub returns : goal.returns
returns c =
    let part = take (c.args.end - c.args.from) (drop c.args.from c.args.level.now) in
    let a = front-all part c.loop-cell.cell-index c.loop-cell-test.false in
    let b = front-part c.args.level.now c.args.from c.args.end c.requires.within.0 in
    omega (arith, a, b, c.loop-cell.invariant)
