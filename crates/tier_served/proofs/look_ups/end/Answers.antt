use Rattle.tier_served.proofs.Looking.{ended}
use Rattle.tier_served.proofs.look_ups.end.Goals as goal

pub returns : goal.returns
returns g c =
    ended (g.T.Serve.state c.args.tier.now) (g.R.Rng.stream c.args.rng.now) c.args.moment (g.T.Serve.state c.take_at-dropped.new.tier) (g.R.Rng.stream c.take_at-dropped.new.rng) c.args.id c.take_at-dropped.result c.requires c.take_at-dropped.ensures
