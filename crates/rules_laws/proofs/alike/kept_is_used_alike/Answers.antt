use Rattle.rules_laws.proofs.Used.{use_same, spared_same, error_same}
use Rattle.rules_laws.proofs.alike.kept_is_used_alike.Goals as goal

pub returns-clause-use_of : goal.returns-clause-use_of
returns-clause-use_of c = λ request kept other a now o. use_same request kept other a now o

pub returns-clause-may_spare : goal.returns-clause-may_spare
returns-clause-may_spare c = λ request kept other a now status o. spared_same request kept other a now status o

pub returns-clause-error_of : goal.returns-clause-error_of
returns-clause-error_of c = λ kept other a o. error_same kept other a o
