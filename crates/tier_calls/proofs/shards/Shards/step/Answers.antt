use Rattle.std.proofs.Common.{refl, ap}
use Rattle.tier_calls.specs.Tiers.{state_of}
use Rattle.tier_calls.proofs.shards.Shards.step.Goals as goal

pub returns-in-One-clause-some : goal.returns-in-One-clause-some
returns-in-One-clause-some g c = (c.in-One.tier, c.step.new.self, ap state_of c.in-One.is, refl, c.step.ensures)

pub returns-in-Four-clause-some : goal.returns-in-Four-clause-some
returns-in-Four-clause-some g c = (c.in-Four.tier, c.step-in-Four.new.self, ap state_of c.in-Four.is, refl, c.step-in-Four.ensures)

pub returns-in-Sixteen-clause-some : goal.returns-in-Sixteen-clause-some
returns-in-Sixteen-clause-some g c = (c.in-Sixteen.tier, c.step-in-Sixteen.new.self, ap state_of c.in-Sixteen.is, refl, c.step-in-Sixteen.ensures)
