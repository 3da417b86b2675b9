use Rattle.std.proofs.Common.{Some, sym, ap, ◌∙◌}
use Rattle.std.specs.Prelude.{option_map}
use Rattle.tier_model.specs.State.{Request}
use Rattle.tier_model.proofs.Tables.{get-table}
use Rattle.tier_requests.proofs.requests.Requests.asks.Goals as goal

pub returns-in-Some : goal.returns-in-Some
returns-in-Some g c =
    rw (← c.self.view_is) (ap Some c.asks.ensures ∙ ap (option_map (λ (q : Request). q.asks)) (ap Some c.request.ensures ∙ c.in-Some.ensures.value ∙ sym (get-table c.self.inside.table.entries c.args.id)))

pub returns-in-None : goal.returns-in-None
returns-in-None g c = rw (← c.self.view_is) (ap (option_map (λ (q : Request). q.asks)) (c.in-None.ensures.value ∙ sym (get-table c.self.inside.table.entries c.args.id)))
