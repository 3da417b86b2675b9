use Rattle.std.proofs.Common.{◌∙◌, ap, sym}
use Rattle.std.specs.Prelude.{option_map}
use Rattle.gateway_exchanges.specs.Places.{exchange_in}
use Rattle.gateway_exchanges.specs.Tables.{in_place}
use Rattle.gateway_exchanges.proofs.Places.{get-place}
use Rattle.gateway_exchanges.proofs.TableLaws.{numbered-lent}
use Rattle.gateway_exchanges.specs.Places.{places_in}
use Rattle.gateway_exchanges.proofs.table.Table.get.Goals as goal

pub returns-in-Some-clause-value : goal.returns-in-Some-clause-value
returns-in-Some-clause-value c =
    rw (← c.self.view_is) (c.exchange_in.ensures
    ∙ sym (ap in_place (get-place exchange_in c.self.inside.open.entries c.args.x ∙ ap (option_map exchange_in) (sym c.in-Some.ensures.value))))

pub returns-in-None-clause-value : goal.returns-in-None-clause-value
returns-in-None-clause-value c =
    rw (← c.self.view_is) (sym (ap in_place (get-place exchange_in c.self.inside.open.entries c.args.x ∙ ap (option_map exchange_in) (sym c.in-None.ensures.value))))

pub returns-in-Some-clause-numbered : goal.returns-in-Some-clause-numbered
returns-in-Some-clause-numbered c =
    numbered-lent (places_in c.self.inside.open) c.args.x c.exchange_in.result (exchange_in c.in-Some.place.now) c.self.invariant.numbered
    (get-place exchange_in c.self.inside.open.entries c.args.x ∙ ap (option_map exchange_in) (sym c.in-Some.ensures.value)) c.exchange_in.ensures
