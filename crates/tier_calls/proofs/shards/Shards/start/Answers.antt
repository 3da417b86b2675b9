use Rattle.std.proofs.Common.{refl, ap}
use Rattle.tier_calls.specs.Tiers.{state_of}
use Rattle.tier_calls.proofs.shards.Shards.start.Goals as goal

pub returns-in-One-clause-some : goal.returns-in-One-clause-some
returns-in-One-clause-some c = (c.in-One.tier, c.start_one.new.tier, ap state_of c.in-One.is, refl, c.start_one.ensures)

pub returns-in-Four-clause-some : goal.returns-in-Four-clause-some
returns-in-Four-clause-some c = (c.in-Four.tier, c.start_one-in-Four.new.tier, ap state_of c.in-Four.is, refl, c.start_one-in-Four.ensures)

pub returns-in-Sixteen-clause-some : goal.returns-in-Sixteen-clause-some
returns-in-Sixteen-clause-some c = (c.in-Sixteen.tier, c.start_one-in-Sixteen.new.tier, ap state_of c.in-Sixteen.is, refl, c.start_one-in-Sixteen.ensures)
