use Rattle.std.proofs.Common.{Some, sym, ap, ◌∙◌}
use Rattle.std.specs.Prelude.{option_and_then}
use Rattle.tier_model.specs.Answers.{whole_read}
use Rattle.tier_model.specs.State.{Request}
use Rattle.tier_model.proofs.Tables.{get-table}
use Rattle.tier_requests.specs.Shelves.{shelf_of}
use Rattle.tier_requests.proofs.requests.Requests.is_whole.Goals as goal

pub returns-in-Some : goal.returns-in-Some
returns-in-Some g c =
    rw (← c.self.view_is)
    (c.is_whole.ensures
    ∙ ap (option_and_then (λ (q : Request). whole_read q.reader (shelf_of c.args.parts.now.store))) (ap Some c.request.ensures ∙ c.in-Some.ensures.value ∙ sym (get-table c.self.inside.table.entries c.args.id)))

pub returns-in-None : goal.returns-in-None
returns-in-None g c =
    rw (← c.self.view_is)
    (ap (option_and_then (λ (q : Request). whole_read q.reader (shelf_of c.args.parts.now.store))) (c.in-None.ensures.value ∙ sym (get-table c.self.inside.table.entries c.args.id)))
