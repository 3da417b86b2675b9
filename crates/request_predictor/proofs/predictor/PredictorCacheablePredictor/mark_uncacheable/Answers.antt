use Rattle.std.proofs.Common.{rules}
use Rattle.request_predictor.proofs.predictor.PredictorCacheablePredictor.mark_uncacheable.Goals as goal

pub returns-in_ok-is_new-clause-answer : goal.returns-in_ok-is_new-clause-answer
returns-in_ok-is_new-clause-answer g c = search rules

pub returns-in_ok-is_new-clause-change : goal.returns-in_ok-is_new-clause-change
returns-in_ok-is_new-clause-change g c = search rules
