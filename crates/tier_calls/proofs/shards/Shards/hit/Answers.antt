use Rattle.std.proofs.Common.{refl, ap}
use Rattle.tier_calls.specs.Tiers.{state_of}
use Rattle.tier_calls.proofs.shards.Shards.hit.Goals as goal

pub returns-in-One-clause-some : goal.returns-in-One-clause-some
returns-in-One-clause-some c = (c.in-One.tier, c.hit_alone.new.self, ap state_of c.in-One.is, refl, c.hit_alone.ensures.takes, c.hit_alone.ensures.hit)

pub returns-in-Four-clause-some : goal.returns-in-Four-clause-some
returns-in-Four-clause-some c = (c.in-Four.tier, c.hit_alone-in-Four.new.self, ap state_of c.in-Four.is, refl, c.hit_alone-in-Four.ensures.takes, c.hit_alone-in-Four.ensures.hit)

pub returns-in-Sixteen-clause-some : goal.returns-in-Sixteen-clause-some
returns-in-Sixteen-clause-some c = (c.in-Sixteen.tier, c.hit_alone-in-Sixteen.new.self, ap state_of c.in-Sixteen.is, refl, c.hit_alone-in-Sixteen.ensures.takes, c.hit_alone-in-Sixteen.ensures.hit)
