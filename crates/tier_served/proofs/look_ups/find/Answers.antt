use Rattle.tier_model.specs.Keys.{entry_of}
use Rattle.tier_served.proofs.Looking.{is_new, still_open, finds}
use Rattle.tier_served.proofs.look_ups.find.Goals as goal

pub look_up-looked-requires : goal.look_up-looked-requires
look_up-looked-requires g c = (
  entry_of c.args.key.now,
  is_new (g.T.Serve.state c.args.tier.now) (g.R.Rng.stream c.args.rng.now) c.args.moment c.args.key.now c.in_ok-id.id (g.T.Serve.state c.open.new.tier) (g.R.Rng.stream c.open.new.rng) c.in_ok-id.ensures,
)

pub end-requires : goal.end-requires
end-requires g c =
    let there = is_new (g.T.Serve.state c.args.tier.now) (g.R.Rng.stream c.args.rng.now) c.args.moment c.args.key.now c.in_ok-id.id (g.T.Serve.state c.open.new.tier) (g.R.Rng.stream c.open.new.rng) c.in_ok-id.ensures in
    still_open (g.T.Serve.state c.open.new.tier) (g.R.Rng.stream c.open.new.rng) c.args.moment c.in_ok-id.id (entry_of c.args.key.now) there c.look_up-looked.result (g.T.Serve.state c.look_up-looked.new.tier)
    (g.R.Rng.stream c.look_up-looked.new.rng) (c.look_up-looked.ensures (entry_of c.args.key.now) there)

pub returns : goal.returns
returns g c =
    let there = is_new (g.T.Serve.state c.args.tier.now) (g.R.Rng.stream c.args.rng.now) c.args.moment c.args.key.now c.in_ok-id.id (g.T.Serve.state c.open.new.tier) (g.R.Rng.stream c.open.new.rng) c.in_ok-id.ensures in
    finds (g.T.Serve.state c.args.tier.now) (g.R.Rng.stream c.args.rng.now) c.args.moment c.args.key.now c.in_ok-id.id (g.T.Serve.state c.open.new.tier) (g.R.Rng.stream c.open.new.rng) c.in_ok-id.ensures
    c.look_up-looked.result (g.T.Serve.state c.look_up-looked.new.tier) (g.R.Rng.stream c.look_up-looked.new.rng) (g.T.Serve.state c.end.new.tier) (g.R.Rng.stream c.end.new.rng)
    (c.look_up-looked.ensures (entry_of c.args.key.now) there) c.end.ensures
