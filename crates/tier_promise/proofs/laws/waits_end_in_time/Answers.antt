use Rattle.tier_promise.proofs.WaitLaws.{ends-with-age, ends-with-bound}
use Rattle.tier_promise.proofs.laws.waits_end_in_time.Goals as goal

pub returns-clause-age : goal.returns-clause-age
returns-clause-age c = λ s used loaded h call id q p first right is at hold aged. ends-with-age s used loaded h call id q p first right is at hold aged

pub returns-clause-bound : goal.returns-clause-bound
returns-clause-bound c = λ s used loaded h call id q p first right is at hold over. ends-with-bound s used loaded h call id q p first right is at hold over
