use Rattle.std.proofs.lemmas.Result.{err_from_is_err_and}
use Rattle.tier_served.proofs.Serving.{get_refused, get_hit_by, get_filled_by}
use Rattle.tier_served.proofs.serve.get.Goals as goal

pub returns-in_err-body-clause-calls : goal.returns-in_err-body-clause-calls
returns-in_err-body-clause-calls g c =
    let p = err_from_is_err_and c.from_residual.result c.from_residual.ensures.1 in
    let x = get_refused (g.T.Serve.state c.args.tier.now) (g.R.Rng.stream c.args.rng.now) c.args.moment c.args.key.now c.args.response.now c.in_err-body.field-0.0 (g.T.Serve.state c.find.new.tier)
    (g.R.Rng.stream c.find.new.rng) c.in_err-body.ensures in
    rw (p.1, p.2) x.calls

pub returns-in-Fresh-clause-calls : goal.returns-in-Fresh-clause-calls
returns-in-Fresh-clause-calls g c =
    let x = get_hit_by (g.T.Serve.state c.args.tier.now) (g.R.Rng.stream c.args.rng.now) c.args.moment c.args.key.now c.args.response.now c.in_ok-body.field-0 c.in-Fresh.body (g.T.Serve.state c.find.new.tier)
    (g.R.Rng.stream c.find.new.rng) c.in-Fresh.is c.in_ok-body.ensures in
    x.calls

pub returns-in-Missed : goal.returns-in-Missed
returns-in-Missed g c =
    let x = get_filled_by (g.T.Serve.state c.args.tier.now) (g.R.Rng.stream c.args.rng.now) c.args.moment c.args.key.now c.args.response.now c.in_ok-body.field-0 c.in-Missed.found (g.T.Serve.state c.find.new.tier)
    (g.R.Rng.stream c.find.new.rng) c.fill.result (g.T.Serve.state c.fill.new.tier) (g.R.Rng.stream c.fill.new.rng) c.in-Missed.is c.in_ok-body.ensures c.fill.ensures in
    record { calls = x.calls; leaves = x.leaves; aside = x.aside }
