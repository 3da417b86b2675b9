use Rattle.std.proofs.Common.{refl}
use Rattle.tier_model.specs.declared.event.Action.TheVariants.{Read}
use Rattle.gateway_state.proofs.Openings.{keeps}
use Rattle.gateway_state.proofs.state.Gateway.read_at.Goals as goal

pub returns-clause-open : goal.returns-clause-open
returns-clause-open c = keeps c.args.self.now.tier c.take_read-outcome.new.self (Read c.args.x) c.take_read-outcome.result c.take_read-outcome.ensures refl
