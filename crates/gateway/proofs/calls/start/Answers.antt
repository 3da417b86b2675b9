use Rattle.std.proofs.Common.{arith}
use Rattle.gateway.proofs.calls.start.Goals as goal

-- numbers are from 1 on
pub returns-clause-unchanged : goal.returns-clause-unchanged
returns-clause-unchanged c = λ h. absurd (omega (arith, h, c.finish_call.ensures.exchange, c.saturating_add-x.ensures))
