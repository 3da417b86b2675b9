use Rattle.tier_promise.proofs.Hits.{hit-past, head-request}
use Rattle.tier_promise.proofs.laws.states_find_what_their_pasts_show.Goals as goal

pub returns-clause-hit : goal.returns-clause-hit
returns-clause-hit c = λ start s past had t k. hit-past start s past had t k

pub returns-clause-head : goal.returns-clause-head
returns-clause-head c = λ start s past had id q there. head-request start s past had id q there
