use Rattle.tier_recorded.proofs.Matched.{matched}
use Rattle.tier_recorded.proofs.recorded.Recorded.step.Goals as goal

pub returns-in-Ok-clause-recorded : goal.returns-in-Ok-clause-recorded
returns-in-Ok-clause-recorded g c = matched c.in-Ok.outcome _ _ c.in-Ok.ensures.told c.in-Ok.ensures.recorded

pub returns-in-Ok-clause-counted : goal.returns-in-Ok-clause-counted
returns-in-Ok-clause-counted g c = matched c.in-Ok.outcome _ _ c.in-Ok.ensures.told c.in-Ok.ensures.counted
