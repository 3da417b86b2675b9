use Rattle.std.proofs.Common.{refl, Some}
use Rattle.tier_model.specs.declared.event.Action.TheVariants.{Put}
use Rattle.gateway_state.proofs.Openings.{keeps-at}
use Rattle.gateway_state.proofs.state.Gateway.put_pieces.Goals as goal

pub returns-clause-open : goal.returns-clause-open
returns-clause-open c =
    keeps-at c.args.self.now.tier c.step-outcome.new.self c.of_tier-moment.result (Put c.key_of-key.result c.args.pieces (Some c.args.given)) _ _ c.step-outcome.result c.step-outcome.ensures refl
