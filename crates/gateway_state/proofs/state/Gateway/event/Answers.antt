use Rattle.gateway_state.proofs.Openings.{keeps-at}
use Rattle.gateway_state.proofs.state.Gateway.event.Goals as goal

pub returns-clause-open : goal.returns-clause-open
returns-clause-open c = λ keeps. keeps-at c.args.self.now.tier c.step-outcome.new.self c.of_tier.result c.args.action _ _ c.step-outcome.result c.step-outcome.ensures keeps
