use Rattle.std.proofs.Common.{◌∙◌, sym}
use Rattle.tier_model.proofs.Tables.{get-table}
use Rattle.gateway_exchanges.proofs.tails.Tails.get.Goals as goal

pub returns : goal.returns
returns c = rw (← c.self.view_is) (c.get.ensures.value ∙ sym (get-table c.self.inside.open.entries c.args.x))
