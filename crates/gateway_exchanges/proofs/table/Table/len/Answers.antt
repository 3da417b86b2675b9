use Rattle.std.proofs.Common.{◌∙◌, sym}
use Rattle.gateway_exchanges.specs.Places.{exchange_in}
use Rattle.gateway_exchanges.proofs.Places.{len-places}
use Rattle.gateway_exchanges.proofs.table.Table.len.Goals as goal

pub returns : goal.returns
returns c = rw (← c.self.view_is) (c.len.ensures.len ∙ sym (len-places exchange_in c.self.inside.open.entries c.len.ensures.unique))
