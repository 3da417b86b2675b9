use Rattle.std.proofs.Common.{Some, sym, ap, ◌∙◌}
use Rattle.std.specs.Prelude.{option_and_then}
use Rattle.tier_model.specs.State.{Request}
use Rattle.tier_model.specs.Sizes.{flight_size}
use Rattle.tier_model.proofs.Tables.{get-table}
use Rattle.tier_requests.specs.Shelves.{shelf_of}
use Rattle.tier_requests.proofs.requests.Requests.write_size.Goals as goal

pub returns-in-Some : goal.returns-in-Some
returns-in-Some g c =
    rw (← c.self.view_is)
    (c.write_size.ensures
    ∙ ap (option_and_then (λ (q : Request). option_and_then (flight_size (shelf_of c.args.parts.now.store)) q.write)) (ap Some c.request.ensures ∙ c.in-Some.ensures.value ∙ sym (get-table c.self.inside.table.entries c.args.id)))

pub returns-in-None : goal.returns-in-None
returns-in-None g c =
    rw (← c.self.view_is)
    (ap (option_and_then (λ (q : Request). option_and_then (flight_size (shelf_of c.args.parts.now.store)) q.write)) (c.in-None.ensures.value ∙ sym (get-table c.self.inside.table.entries c.args.id)))
