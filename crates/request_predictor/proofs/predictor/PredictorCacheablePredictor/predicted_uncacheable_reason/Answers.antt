use Rattle.std.proofs.Common.{◌∙◌}
use Rattle.request_predictor.proofs.ListLaws.{told_reason, looked_up}
use Rattle.request_predictor.proofs.predictor.PredictorCacheablePredictor.predicted_uncacheable_reason.Goals as goal

pub returns-clause-answer : goal.returns-clause-answer
returns-clause-answer g c =
    rw (← c.self.view_is) (c.copied.ensures ∙ c.peek.ensures ∙ looked_up g.row.N c.list_number.result c.primary_bin-key.result _ c.self.inside.lists.items c.self.inside.skipped c.index.result.now c.primary_bin-key.ensures c.list_number.ensures.value c.list_number.ensures.below c.self.invariant.1 c.index.ensures)

pub returns-clause-told : goal.returns-clause-told
returns-clause-told g c = told_reason _ _ (returns-clause-answer g c)
