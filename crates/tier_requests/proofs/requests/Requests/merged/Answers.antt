use Rattle.std.proofs.Common.{Option, Some, sym, ap, subst, ◌∙◌}
use Rattle.std.specs.Prelude.{IfOk, MatchOption}
use Rattle.tier_model.specs.State.{Request}
use Rattle.tier_model.proofs.Tables.{get-table}
use Rattle.tier_requests.specs.Renewals.{IsMerged}
use Rattle.tier_requests.proofs.TableLaws.{renews_now, open-passes, none-passes}
use Rattle.tier_requests.proofs.requests.Requests.merged.Goals as goal

pub merged-requires : goal.merged-requires
merged-requires g c = open-passes renews_now c.self.inside.table.entries c.args.id c.request.result.now (sym (ap Some c.request.ensures ∙ c.in-Some.ensures.value)) (rw (← c.self.view_is) at c.requires)

pub unreachable-requires : goal.unreachable-requires
unreachable-requires g c = none-passes renews_now c.self.inside.table.entries c.args.id (sym c.in-None.ensures.value) (rw (← c.self.view_is) at c.requires)

pub returns-clause-ok : goal.returns-clause-ok
returns-clause-ok g c =
    rw (← c.self.view_is)
    (subst (λ (o : Option Request). IfOk c.merged.result (λ header. MatchOption o ⊥ (λ q. IsMerged q c.args.sent.now header))) (ap Some c.request.ensures ∙ c.in-Some.ensures.value ∙ sym (get-table c.self.inside.table.entries c.args.id)) c.merged.ensures.ok)
