use Rattle.std.proofs.Common.{◌≡◌}
use Rattle.tier_served.specs.Looks.{AreOpenAbove}
use Rattle.tier_served.proofs.look_ups.open.Given as goal

abbrev pub invariant-loop-fault : goal.invariant-loop-fault
invariant-loop-fault g l =
    (g.T.Serve.state l.tier ≡ g.T.Serve.state l.fn.tier) × (g.R.Rng.stream l.rng ≡ g.R.Rng.stream l.fn.rng) × AreOpenAbove (g.T.Serve.state l.fn.tier) l.id

abbrev pub decreases-loop-fault : goal.decreases-loop-fault
decreases-loop-fault g l = l.id
