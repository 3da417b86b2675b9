use Rattle.std.proofs.Common.{◌∙◌, ap}
use Rattle.std.specs.Prelude.{is_none}
use Rattle.request_predictor.proofs.ListLaws.{none_if}
use Rattle.request_predictor.proofs.predictor.PredictorCacheablePredictor.cacheable_prediction.Goals as goal

pub returns : goal.returns
returns g c = none_if c.predicted_uncacheable_reason.result c.is_none.result c.is_none.ensures ∙ ap is_none c.predicted_uncacheable_reason.ensures.answer
