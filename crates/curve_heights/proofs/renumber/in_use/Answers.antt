use Rattle.std.proofs.Common.{arith}
use Rattle.curve_heights.proofs.WeightLaws.{owned-next}
use Rattle.curve_heights.proofs.renumber.in_use.Goals as goal

pub loop-owner-preserved : goal.loop-owner-preserved
loop-owner-preserved c =
    let n = owned-next c.args.owners.now c.loop-owner.owner-index c.loop-owner-test.true in
    record {
      found = omega (arith, n, c.counted-one.ensures.value, c.loop-owner.invariant.found);
      few = omega (arith, c.counted-one.ensures.most, c.loop-owner.invariant.few);
    }
