use Rattle.std.proofs.Common.{◌∙◌, ap, sym, length, []}
use Rattle.std.specs.Prelude.{option_map, unwrap_or}
use Rattle.gateway_exchanges.specs.Places.{numbers_in}
use Rattle.gateway_exchanges.proofs.Places.{get-key}
use Rattle.gateway_exchanges.proofs.table.Table.count_at.Goals as goal

pub returns-in-Some : goal.returns-in-Some
returns-in-Some c =
    rw (← c.self.view_is) (ap length c.as_slice.ensures.value
    ∙ sym (ap (λ o. length (unwrap_or o [])) (get-key numbers_in c.self.inside.by_key.entries c.args.key.now ∙ ap (option_map numbers_in) (sym c.in-Some.ensures.value))))

pub returns-in-None : goal.returns-in-None
returns-in-None c =
    rw (← c.self.view_is)
    (sym (ap (λ o. length (unwrap_or o [])) (get-key numbers_in c.self.inside.by_key.entries c.args.key.now ∙ ap (option_map numbers_in) (sym c.in-None.ensures.value))))
