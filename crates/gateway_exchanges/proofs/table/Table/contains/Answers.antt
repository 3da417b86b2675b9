use Rattle.std.proofs.Common.{◌∙◌, ap, sym, is_some}
use Rattle.gateway_exchanges.specs.Places.{exchange_in}
use Rattle.gateway_exchanges.proofs.Places.{get-place, is_some-map}
use Rattle.gateway_exchanges.proofs.table.Table.contains.Goals as goal

pub returns : goal.returns
returns c = rw (← c.self.view_is) (c.contains_key.ensures ∙ sym (is_some-map exchange_in _) ∙ sym (ap is_some (get-place exchange_in c.self.inside.open.entries c.args.x)))
