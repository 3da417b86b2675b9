use Rattle.std.proofs.Common.{arith, refl, ap, ◌∙◌}
use Rattle.tier_shared.proofs.CountLaws.{counted-as}
use Rattle.tier_shared.proofs.counted.Counted.gather.Goals as goal

pub overflow_add-self : goal.overflow_add-self
overflow_add-self g c = omega (arith, c.self.invariant.4, c.self.invariant.5)

pub invariant_of-self : goal.invariant_of-self
invariant_of-self g c = (
  counted-as _ _ _ _ _ c.self.invariant.0 refl refl refl,
  c.self.invariant.1,
  c.self.invariant.2,
  omega (arith, c.merge.ensures.parts, c.pass.invariant.0, c.self.invariant.3),
  omega (arith, c.merge.ensures.parts, c.merge.ensures.apart, c.pass.invariant.0, c.self.invariant.1, c.self.invariant.3),
  c.self.invariant.5,
)
