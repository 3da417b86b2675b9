use Rattle.tier_model.proofs.Tables.{remove-table}
use Rattle.gateway_exchanges.proofs.tails.remove_tail.Goals as goal

pub returns : goal.returns
returns c = remove-table c.args.open.now.entries c.remove-tail.new.self.entries c.args.x c.remove-tail.ensures.updates.0
