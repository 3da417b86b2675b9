use Rattle.std.proofs.Common.{◌∙◌, arith}
use Rattle.tier_pairs.proofs.Both.{both_next, stops_lesser, stops_greater}
use Rattle.tier_pairs.proofs.side_by_side.run_both.Goals as goal

pub returns-in-Err : goal.returns-in-Err
returns-in-Err g c =
    stops_lesser (g.L.Serve.state c.args.lesser.now) (g.G.Serve.state c.args.greater.now) (g.R.Rng.stream c.args.rng.now) c.args.requests.now c.loop-request.request-index c.request-item.result
    c.loop-request-test.true c.request-item.is c.loop-request.pairs (g.L.Serve.state c.loop-request.lesser) (g.G.Serve.state c.loop-request.greater) (g.R.Rng.stream c.loop-request.rng) c.loop-request.invariant.both
    c.in-Err.fault (g.L.Serve.state c.serve.new.self) (g.R.Rng.stream c.serve.new.rng) c.in-Err.ensures

pub returns-in-Err-serve : goal.returns-in-Err-serve
returns-in-Err-serve g c =
    stops_greater (g.L.Serve.state c.args.lesser.now) (g.G.Serve.state c.args.greater.now) (g.R.Rng.stream c.args.rng.now) c.args.requests.now c.loop-request.request-index c.request-item.result
    c.loop-request-test.true c.request-item.is c.loop-request.pairs (g.L.Serve.state c.loop-request.lesser) (g.G.Serve.state c.loop-request.greater) (g.R.Rng.stream c.loop-request.rng) c.loop-request.invariant.both
    c.in-Ok-serve.served c.in-Err-serve.fault (g.L.Serve.state c.serve.new.self) (g.G.Serve.state c.serve-in-loop-request.new.self) (g.R.Rng.stream c.serve.new.rng) (g.R.Rng.stream c.serve-in-loop-request.new.rng)
    c.in-Ok-serve.ensures c.in-Err-serve.ensures

pub loop-request-preserved : goal.loop-request-preserved
loop-request-preserved g c = record {
  both =
      both_next (g.L.Serve.state c.args.lesser.now) (g.G.Serve.state c.args.greater.now) (g.R.Rng.stream c.args.rng.now) c.args.requests.now c.loop-request.request-index c.request-item.result
      c.loop-request-test.true c.request-item.is c.loop-request.pairs (g.L.Serve.state c.loop-request.lesser) (g.G.Serve.state c.loop-request.greater) (g.R.Rng.stream c.loop-request.rng) c.loop-request.invariant.both
      c.in-Ok-serve.served c.in-Ok-serve-2.served (g.L.Serve.state c.serve.new.self) (g.G.Serve.state c.serve-in-loop-request.new.self) (g.R.Rng.stream c.serve.new.rng) (g.R.Rng.stream c.serve-in-loop-request.new.rng)
      c.push_reserved.new.self.items c.in-Ok-serve.ensures c.in-Ok-serve-2.ensures c.push_reserved.ensures.items;
  count = omega (arith, c.push_reserved.ensures.len, c.loop-request.invariant.count);
  room = c.push_reserved.ensures.capacity ∙ c.loop-request.invariant.room;
}
