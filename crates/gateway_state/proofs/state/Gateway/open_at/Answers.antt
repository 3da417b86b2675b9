use Rattle.std.proofs.Common.{is_some}
use Rattle.std.specs.Prelude.{is_ok}
use Rattle.std.specs.FinMap.{get}
use Rattle.gateway_state.proofs.Openings.{opens, opens-no-other, shown-opened}
use Rattle.gateway_state.proofs.state.Gateway.open_at.Goals as goal

pub returns-clause-opened : goal.returns-clause-opened
returns-clause-opened c =
    shown-opened c.is_answered.result (is_ok c.take_open-outcome.result) (is_some (get c.take_open-outcome.new.self.requests c.args.x)) (is_some (get c.args.self.now.tier.requests c.args.x))
    c.is_answered.ensures.answer (opens c.args.self.now.tier c.take_open-outcome.new.self c.args.x c.key_of-key.result c.args.lock c.take_open-outcome.result c.take_open-outcome.ensures)

pub returns-clause-others : goal.returns-clause-others
returns-clause-others c = opens-no-other c.args.self.now.tier c.take_open-outcome.new.self c.args.x c.key_of-key.result c.args.lock c.take_open-outcome.result c.take_open-outcome.ensures
