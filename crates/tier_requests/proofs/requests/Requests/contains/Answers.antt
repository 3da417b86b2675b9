use Rattle.std.proofs.Common.{sym, ap, ◌∙◌}
use Rattle.std.specs.Prelude.{is_some}
use Rattle.tier_model.proofs.Tables.{get-table}
use Rattle.tier_requests.proofs.requests.Requests.contains.Goals as goal

pub returns : goal.returns
returns g c = rw (← c.self.view_is) (c.contains_key.ensures ∙ ap is_some (sym (get-table c.self.inside.table.entries c.args.id)))
