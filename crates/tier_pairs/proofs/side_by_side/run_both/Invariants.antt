use Rattle.std.proofs.Common.{◌≡◌, take, vec_len, vec_capacity, length}
use Rattle.tier_pairs.specs.Two.{ServesBoth}
use Rattle.tier_pairs.proofs.side_by_side.run_both.Given as goal

abbrev pub invariant-loop-request : goal.invariant-loop-request
invariant-loop-request g l = record {
  both : ServesBoth (g.L.Serve.state l.fn.lesser) (g.G.Serve.state l.fn.greater) (g.R.Rng.stream l.fn.rng) (take l.request-index l.requests) l.pairs.items (g.L.Serve.state l.lesser)
      (g.G.Serve.state l.greater) (g.R.Rng.stream l.rng);
  count : vec_len l.pairs ≡ l.request-index;
  room : vec_capacity l.pairs ≡ length l.requests;
}
