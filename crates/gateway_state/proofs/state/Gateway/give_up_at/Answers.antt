use Rattle.std.proofs.Common.{refl, None}
use Rattle.tier_model.specs.declared.event.Action.TheVariants.{Begin}
use Rattle.tier_model.specs.NoStore.{no_store_head}
use Rattle.gateway_state.proofs.Openings.{keeps}
use Rattle.gateway_state.proofs.state.Gateway.give_up_at.Goals as goal

pub returns-clause-open : goal.returns-clause-open
returns-clause-open c =
    keeps c.args.self.now.tier c.give_up-outcome.new.self (Begin c.args.x no_store_head None) c.give_up-outcome.result c.give_up-outcome.ensures.takes refl
