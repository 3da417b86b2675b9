use Rattle.std.proofs.Common.{refl, ap}
use Rattle.tier_calls.specs.Tiers.{state_of}
use Rattle.tier_calls.proofs.shards.Shards.finish.Goals as goal

pub returns-in-One-clause-some : goal.returns-in-One-clause-some
returns-in-One-clause-some g c = λ t. (c.in-One.tier, c.take_finish.new.self, ap state_of c.in-One.is, refl, c.take_finish.ensures t)

pub returns-in-Four-clause-some : goal.returns-in-Four-clause-some
returns-in-Four-clause-some g c = λ t. (c.in-Four.tier, c.take_finish-in-Four.new.self, ap state_of c.in-Four.is, refl, c.take_finish-in-Four.ensures t)

pub returns-in-Sixteen-clause-some : goal.returns-in-Sixteen-clause-some
returns-in-Sixteen-clause-some g c = λ t. (c.in-Sixteen.tier, c.take_finish-in-Sixteen.new.self, ap state_of c.in-Sixteen.is, refl, c.take_finish-in-Sixteen.ensures t)
