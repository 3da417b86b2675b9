use Rattle.tier_recorded.proofs.CallLaws.{replay-promise}
use Rattle.tier_recorded.proofs.laws.recorded_histories_keep_the_promise.Goals as goal

pub returns : goal.returns
returns g c = replay-promise
