use Rattle.std.proofs.Common.{ap}
use Rattle.tier_calls.specs.Tiers.{state_of}
use Rattle.tier_calls.proofs.shards.Shards.weight.Goals as goal

pub returns-in-One-clause-some : goal.returns-in-One-clause-some
returns-in-One-clause-some c = (c.in-One.tier, ap state_of c.in-One.is, c.weight.ensures)

pub returns-in-Four-clause-some : goal.returns-in-Four-clause-some
returns-in-Four-clause-some c = (c.in-Four.tier, ap state_of c.in-Four.is, c.weight-in-Four.ensures)

pub returns-in-Sixteen-clause-some : goal.returns-in-Sixteen-clause-some
returns-in-Sixteen-clause-some c = (c.in-Sixteen.tier, ap state_of c.in-Sixteen.is, c.weight-in-Sixteen.ensures)
