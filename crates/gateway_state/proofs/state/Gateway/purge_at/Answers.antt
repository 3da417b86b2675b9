use Rattle.std.proofs.Common.{refl}
use Rattle.tier_model.specs.declared.event.Action.TheVariants.{Purge}
use Rattle.gateway_state.proofs.Openings.{keeps}
use Rattle.gateway_state.proofs.state.Gateway.purge_at.Goals as goal

pub returns-clause-open : goal.returns-clause-open
returns-clause-open c = keeps c.args.self.now.tier c.take_purge-outcome.new.self (Purge c.key_of-key.result) c.take_purge-outcome.result c.take_purge-outcome.ensures refl
