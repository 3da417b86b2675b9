use Rattle.std.proofs.Common.{◌≡◌, true}
use Rattle.gateway_steps.specs.Phases.{is_undecided}
use Rattle.gateway_tier.specs.Looks.{HasSameButHeld}
use Rattle.gateway_tier.proofs.vary.newest_of.Given as goal

abbrev pub invariant-loop-key : goal.invariant-loop-key
invariant-loop-key l = record {
  undecided : is_undecided l.e.steps.state ≡ true;
  state : HasSameButHeld l.fn.e.steps.state l.e.steps.state;
  rest : l.e ≡ record l.fn.e { steps = l.e.steps; key = l.e.key; asks = record l.fn.e.asks { flying = l.e.asks.flying } };
  gateway : l.g ≡ record l.fn.g { tier = l.g.tier; table = l.g.table; flying = l.g.flying };
}
