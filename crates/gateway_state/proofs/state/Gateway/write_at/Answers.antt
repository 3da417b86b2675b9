use Rattle.std.proofs.Common.{refl}
use Rattle.tier_model.specs.declared.event.Action.TheVariants.{Piece}
use Rattle.gateway_state.proofs.Openings.{keeps}
use Rattle.gateway_state.proofs.state.Gateway.write_at.Goals as goal

pub returns-in_err-add_evicted_by-clause-open : goal.returns-in_err-add_evicted_by-clause-open
returns-in_err-add_evicted_by-clause-open c =
    keeps c.args.self.now.tier c.take_piece-outcome.new.self (Piece c.args.x c.args.bytes.now c.args.last) c.take_piece-outcome.result c.take_piece-outcome.ensures refl

pub returns-clause-open : goal.returns-clause-open
returns-clause-open c =
    keeps c.args.self.now.tier c.take_piece-outcome.new.self (Piece c.args.x c.args.bytes.now c.args.last) c.take_piece-outcome.result c.take_piece-outcome.ensures refl
