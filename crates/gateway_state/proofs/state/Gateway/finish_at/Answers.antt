use Rattle.std.proofs.Common.{refl}
use Rattle.tier_model.specs.declared.event.Action.TheVariants.{Finish}
use Rattle.gateway_state.proofs.Openings.{keeps-at, first_moment}
use Rattle.gateway_state.proofs.state.Gateway.finish_at.Goals as goal

pub returns-clause-open : goal.returns-clause-open
returns-clause-open c =
    keeps-at c.args.self.now.tier c.take_finish-outcome.new.self first_moment (Finish c.args.x) _ _ c.take_finish-outcome.result (c.take_finish-outcome.ensures first_moment) refl
