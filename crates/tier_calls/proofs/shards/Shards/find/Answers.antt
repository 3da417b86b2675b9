use Rattle.std.proofs.Common.{refl, ap}
use Rattle.tier_calls.specs.Tiers.{state_of}
use Rattle.tier_calls.proofs.shards.Shards.find.Goals as goal

pub returns-in-One-clause-some : goal.returns-in-One-clause-some
returns-in-One-clause-some c = (c.in-One.tier, c.find.new.self, ap state_of c.in-One.is, refl, c.find.ensures.takes, c.find.ensures.head)

pub returns-in-Four-clause-some : goal.returns-in-Four-clause-some
returns-in-Four-clause-some c = (c.in-Four.tier, c.find-in-Four.new.self, ap state_of c.in-Four.is, refl, c.find-in-Four.ensures.takes, c.find-in-Four.ensures.head)

pub returns-in-Sixteen-clause-some : goal.returns-in-Sixteen-clause-some
returns-in-Sixteen-clause-some c = (c.in-Sixteen.tier, c.find-in-Sixteen.new.self, ap state_of c.in-Sixteen.is, refl, c.find-in-Sixteen.ensures.takes, c.find-in-Sixteen.ensures.head)
