use Rattle.tier_served.proofs.Looking.{opened}
use Rattle.tier_served.proofs.look_ups.open_at.Goals as goal

pub returns : goal.returns
returns g c =
    opened (g.T.Serve.state c.args.tier.now) (g.R.Rng.stream c.args.rng.now) c.args.moment (g.T.Serve.state c.take_at.new.tier) (g.R.Rng.stream c.take_at.new.rng) c.args.key.now c.args.id c.in_ok-take_at.field-0
    (rw (c.in-Ok.ensures.cases, c.in_ok-take_at.was) at c.take_at.ensures)
