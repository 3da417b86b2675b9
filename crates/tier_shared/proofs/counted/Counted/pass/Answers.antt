use Rattle.std.proofs.Common.{arith, refl}
use Rattle.tier_shared.proofs.CountLaws.{counted-as}
use Rattle.tier_shared.proofs.counted.Counted.pass.Goals as goal

pub invariant_of-self : goal.invariant_of-self
invariant_of-self g c = (
  counted-as _ _ _ _ _ c.self.invariant.0 refl refl refl,
  c.self.invariant.1,
  c.self.invariant.2,
  omega (arith, c.split_off.ensures.parts_left, c.self.invariant.3),
  omega (arith, c.self.invariant.4),
  omega (arith, c.if-self-ge-MOST_PASSES.false),
)
