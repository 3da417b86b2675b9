use Rattle.tier_pairs.proofs.Both.{finds_of, front_of}
use Rattle.tier_pairs.proofs.side_by_side.run_two.Goals as goal

pub returns-clause-finds : goal.returns-clause-finds
returns-clause-finds g c = λ a b seen comparable il ig u.
    finds_of a b comparable c.args.requests.now seen u (g.L.Serve.state c.args.lesser.now) (g.G.Serve.state c.args.greater.now) (g.R.Rng.stream c.args.rng.now) (g.L.Serve.state c.run_both.new.lesser)
    (g.G.Serve.state c.run_both.new.greater) (g.R.Rng.stream c.run_both.new.rng) il ig c.run_both.result c.run_both.ensures

pub returns-clause-front : goal.returns-clause-front
returns-clause-front g c = λ a b seen comparable il ig u.
    front_of a b comparable c.args.requests.now seen u (g.L.Serve.state c.args.lesser.now) (g.G.Serve.state c.args.greater.now) (g.R.Rng.stream c.args.rng.now) (g.L.Serve.state c.run_both.new.lesser)
    (g.G.Serve.state c.run_both.new.greater) (g.R.Rng.stream c.run_both.new.rng) il ig c.run_both.result c.run_both.ensures
