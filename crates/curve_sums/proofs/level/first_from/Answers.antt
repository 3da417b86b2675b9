use Rattle.std.proofs.Common.{◌≡◌, ◌+◌, arith}
use Rattle.curve_sums.proofs.Fronts.{front, front-next, front-ends}
use Rattle.curve_sums.proofs.level.first_from.Goals as goal

pub loop-at-init : goal.loop-at-init
loop-at-init c = (c.requires.before, front-ends c.args.level.now c.args.from c.requires.before c.requires.some)

pub loop-at-preserved : goal.loop-at-preserved
loop-at-preserved c =
    let n = front-next c.args.level.now c.loop-at.at in
    let z : front c.args.level.now (c.loop-at.at + 1) ≡ 0 = omega (arith, n) in
    (z, front-ends c.args.level.now (c.loop-at.at + 1) z c.requires.some)
