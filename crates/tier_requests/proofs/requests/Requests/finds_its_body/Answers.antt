use Rattle.std.proofs.Common.{Option, Some, false, sym, ap, ◌∙◌}
use Rattle.std.specs.Prelude.{option_map, unwrap_or}
use Rattle.tier_model.specs.State.{Request}
use Rattle.tier_model.specs.Answers.{is_body_seen}
use Rattle.tier_model.proofs.Tables.{get-table}
use Rattle.tier_requests.specs.Shelves.{shelf_of}
use Rattle.tier_requests.proofs.requests.Requests.finds_its_body.Goals as goal

pub returns-in-Some : goal.returns-in-Some
returns-in-Some g c =
    rw (← c.self.view_is)
    (c.finds_its_body.ensures
    ∙ ap (λ (o : Option Request). unwrap_or (option_map (λ q. is_body_seen q (shelf_of c.args.store.now)) o) false) (ap Some c.request.ensures ∙ c.in-Some.ensures.value ∙ sym (get-table c.self.inside.table.entries c.args.id)))

pub returns-in-None : goal.returns-in-None
returns-in-None g c =
    rw (← c.self.view_is)
    (ap (λ (o : Option Request). unwrap_or (option_map (λ q. is_body_seen q (shelf_of c.args.store.now)) o) false) (c.in-None.ensures.value ∙ sym (get-table c.self.inside.table.entries c.args.id)))
