use Rattle.std.proofs.Common.{◌≡◌, true}
use Rattle.gateway_steps.specs.Phases.{reads_write}
use Rattle.gateway_sides.specs.Parts.{HasSameButRead, HasSameButReading, HasSameButSent}
use Rattle.gateway_sides.proofs.reading.read_on.Given as goal

abbrev pub invariant-loop : goal.invariant-loop
invariant-loop l = record {
  reads : reads_write l.e.steps.state.client ≡ true;
  state : HasSameButReading l.fn.e.steps.state l.e.steps.state;
  exchange : l.e ≡ record l.fn.e { steps = l.e.steps; answer = record l.fn.e.answer { seen = l.e.answer.seen }; asks = record l.fn.e.asks { flying = l.e.asks.flying } };
  gateway : HasSameButRead l.fn.g l.g;
  reply : HasSameButSent l.fn.out l.out;
}
