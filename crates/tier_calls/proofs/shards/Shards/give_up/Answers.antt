use Rattle.std.proofs.Common.{refl, ap}
use Rattle.tier_calls.specs.Tiers.{state_of}
use Rattle.tier_calls.proofs.shards.Shards.give_up.Goals as goal

pub returns-in-One-clause-some : goal.returns-in-One-clause-some
returns-in-One-clause-some c = λ t s. (c.in-One.tier, c.give_up.new.self, ap state_of c.in-One.is, refl, c.give_up.ensures.takes t s)

pub returns-in-Four-clause-some : goal.returns-in-Four-clause-some
returns-in-Four-clause-some c = λ t s. (c.in-Four.tier, c.give_up-in-Four.new.self, ap state_of c.in-Four.is, refl, c.give_up-in-Four.ensures.takes t s)

pub returns-in-Sixteen-clause-some : goal.returns-in-Sixteen-clause-some
returns-in-Sixteen-clause-some c = λ t s. (c.in-Sixteen.tier, c.give_up-in-Sixteen.new.self, ap state_of c.in-Sixteen.is, refl, c.give_up-in-Sixteen.ensures.takes t s)
