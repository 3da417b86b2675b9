use Rattle.std.proofs.Common.{refl}
use Rattle.tier_promise.proofs.Restores.{rows-restored}
use Rattle.tier_promise.proofs.laws.a_start_by_puts_keeps_the_order.Goals as goal

pub returns-clause-rows : goal.returns-clause-rows
returns-clause-rows c = λ bodies changes. rows-restored bodies changes

pub returns-clause-put : goal.returns-clause-put
returns-clause-put c = λ b changes. refl
