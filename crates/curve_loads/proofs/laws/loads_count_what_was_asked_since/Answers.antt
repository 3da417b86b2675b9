use Rattle.curve_loads.proofs.Members.{members-of, distinct-load}
use Rattle.curve_loads.proofs.Present.{weighed-load}
use Rattle.curve_loads.proofs.laws.loads_count_what_was_asked_since.Goals as goal

pub returns-clause-members : goal.returns-clause-members
returns-clause-members c = λ weight e x later before h. members-of weight e x later before h

pub returns-clause-once : goal.returns-clause-once
returns-clause-once c = λ weight e steps. distinct-load weight e steps

pub returns-clause-weights : goal.returns-clause-weights
returns-clause-weights c = λ weight e steps. weighed-load weight e steps
