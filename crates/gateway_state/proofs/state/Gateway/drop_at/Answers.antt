use Rattle.gateway_state.proofs.Openings.{ends, ends-no-other}
use Rattle.gateway_state.proofs.state.Gateway.drop_at.Goals as goal

pub returns-clause-ended : goal.returns-clause-ended
returns-clause-ended c = ends c.args.self.now.tier c.take_drop-outcome.new.self c.args.x c.take_drop-outcome.result c.take_drop-outcome.ensures

pub returns-clause-others : goal.returns-clause-others
returns-clause-others c = ends-no-other c.args.self.now.tier c.take_drop-outcome.new.self c.args.x c.take_drop-outcome.result c.take_drop-outcome.ensures
