use Rattle.std.proofs.Common.{◌∙◌, ap}
use Rattle.std.specs.Prelude.{is_none}
use Rattle.request_predictor.specs.Reasons.{unmarked}
use Rattle.request_predictor.proofs.ListLaws.{none_if, looked_up, written_back}
use Rattle.request_predictor.proofs.predictor.PredictorCacheablePredictor.mark_cacheable.Goals as goal

pub returns-clause-answer : goal.returns-clause-answer
returns-clause-answer g c =
    rw (← c.self.view_is) (none_if c.pop.result c.is_none.result c.is_none.ensures ∙ ap is_none (c.pop.ensures.value ∙ looked_up g.row.N c.list_number.result c.primary_bin-key.result _ c.self.inside.lists.items c.self.inside.skipped c.index_mut-list.result.now c.primary_bin-key.ensures c.list_number.ensures.value c.list_number.ensures.below c.self.invariant.1 c.index_mut-list.ensures.value))

pub returns-clause-change : goal.returns-clause-change
returns-clause-change g c =
    rw (← c.self.view_is) (written_back g.row.N c.list_number.result c.primary_bin-key.result _ c.self.inside.lists.items c.self.inside.skipped c.index_mut-list.result.now c.pop.new.self unmarked c.primary_bin-key.ensures c.list_number.ensures.value c.list_number.ensures.below c.self.invariant.1 c.index_mut-list.ensures.value c.pop.ensures.entries)
