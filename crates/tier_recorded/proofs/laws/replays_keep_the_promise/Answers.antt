use Rattle.tier_recorded.proofs.CallLaws.{replay-calls}
use Rattle.tier_recorded.proofs.laws.replays_keep_the_promise.Goals as goal

pub returns : goal.returns
returns c = replay-calls
