use Rattle.rules_laws.proofs.Counting.{answered}
use Rattle.rules_laws.proofs.counted.the_last_is_answered.Goals as goal

pub returns : goal.returns
returns c = λ r o h e. answered r o h e
