use Rattle.std.proofs.Common.{◌∙◌, ap, refl}
use Rattle.gateway_exchanges.specs.Limits.{timeouts_by}
use Rattle.gateway_state.proofs.state.Gateway.new.Goals as goal

pub returns-clause-new : goal.returns-clause-new
returns-clause-new c = record {
  limits_are = c.at_least_one-limits.ensures;
  timeouts = c.timeouts_of.ensures ∙ ap timeouts_by c.at_least_one-limits.ensures;
  tier = rw (c.from_seconds-age.ensures, c.from_seconds-wait.ensures, c.at_least_one-limits.ensures) at c.in_ok-with_hasher.ensures.state;
  past = rw (c.from_seconds-age.ensures, c.from_seconds-wait.ensures, c.at_least_one-limits.ensures) at c.in_ok-with_hasher.ensures.past;
  table = c.new-2.ensures;
  tails = c.new-3.ensures;
  predicted = rw c.at_least_one-limits.ensures at c.in_ok-no_predictions.ensures;
  number = refl;
  sequence = refl;
  flying = refl;
  tokens = refl;
  floor = refl;
  latest = refl;
  stopping = refl;
}
