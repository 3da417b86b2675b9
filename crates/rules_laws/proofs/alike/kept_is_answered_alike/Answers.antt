use Rattle.rules_laws.proofs.Answered.{answer_alike}
use Rattle.rules_laws.proofs.alike.kept_is_answered_alike.Goals as goal

pub returns : goal.returns
returns c = λ request kept other a length now boundary how o. answer_alike request kept other a length now boundary how o
