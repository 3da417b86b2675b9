use Rattle.std.proofs.Common.{◌≡◌, arith, refl, ◌∙◌}
use Rattle.tier_shared.proofs.CountLaws.{counted-as}
use Rattle.tier_shared.proofs.counted.Counted.audit.Goals as goal

pub invariant_of-self : goal.invariant_of-self
invariant_of-self g c = (
  counted-as _ _ _ _ _ c.self.invariant.0 refl refl refl,
  c.self.invariant.1,
  c.audit.ensures.total ∙ c.self.invariant.2,
  omega (arith, c.audit.ensures.parts, c.self.invariant.3),
  c.self.invariant.4,
  c.self.invariant.5,
)

pub returns-clause-whole : goal.returns-clause-whole
returns-clause-whole g c =
    let all : c.self.inside.gathered ≡ c.self.inside.passes = rw (← c.self.view_is) at c.requires in
    let parts : c.self.inside.owner.parts ≡ g.L.Ledger.parts = omega (arith, all, c.self.invariant.1, c.self.invariant.3) in
    let whole = c.audit.ensures.whole parts in
    omega (arith, whole, c.self.invariant.2, c.audit.ensures.amount)
