use Rattle.std.proofs.Common.{ap}
use Rattle.gateway_exchanges.specs.declared.exchange.Exchange.{Exchange}
use Rattle.gateway_sides.proofs.Releasing.{release_of_same, released_as}
use Rattle.gateway_sides.proofs.client_side.generate.Goals as goal

pub returns-clause-released : goal.returns-clause-released
returns-clause-released c =
    released_as _ _ c.args.e.now _ c.args.g.now c.release.new.g
    (release_of_same _ c.args.e.now.steps.state c.begin_answer.new.e.steps.state c.answer-released.ensures.released c.begin_answer.ensures.origin c.begin_answer.ensures.tier)
    (ap (λ (e : Exchange). e.x) c.begin_answer.ensures.exchange) (ap (λ (e : Exchange). e.asks.flying) c.begin_answer.ensures.exchange) c.release.ensures.released
