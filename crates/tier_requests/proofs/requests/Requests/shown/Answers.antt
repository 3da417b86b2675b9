use Rattle.std.proofs.Common.{Option, Some, None, sym, ap, ◌∙◌}
use Rattle.tier_model.specs.State.{Request}
use Rattle.tier_model.specs.After.{by_request}
use Rattle.tier_model.proofs.Tables.{get-table}
use Rattle.tier_requests.specs.Shelves.{shelf_of}
use Rattle.tier_requests.specs.Shown.{meta_for_look}
use Rattle.tier_requests.proofs.requests.Requests.shown.Goals as goal

pub returns-in-Some : goal.returns-in-Some
returns-in-Some g c =
    rw (← c.self.view_is)
    (c.shown.ensures
    ∙ ap (λ (o : Option Request). by_request None o (λ q. meta_for_look q (shelf_of c.args.store.now))) (ap Some c.request.ensures ∙ c.in-Some.ensures.value ∙ sym (get-table c.self.inside.table.entries c.args.id)))

pub returns-in-None : goal.returns-in-None
returns-in-None g c =
    rw (← c.self.view_is)
    (ap (λ (o : Option Request). by_request None o (λ q. meta_for_look q (shelf_of c.args.store.now))) (c.in-None.ensures.value ∙ sym (get-table c.self.inside.table.entries c.args.id)))
