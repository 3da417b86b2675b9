use Rattle.std.proofs.Common.{sym, ◌∙◌}
use Rattle.tier_model.proofs.Tables.{get-table, remove-table}
use Rattle.tier_requests.proofs.requests.Requests.remove.Goals as goal

pub returns-clause-request : goal.returns-clause-request
returns-clause-request g c = rw (← c.self.view_is) (c.remove.ensures.value ∙ sym (get-table c.self.inside.table.entries c.args.id))

pub returns-clause-left : goal.returns-clause-left
returns-clause-left g c = rw (← c.self.view_is) (remove-table c.self.inside.table.entries c.remove.new.self.entries c.args.id c.remove.ensures.updates.0)
