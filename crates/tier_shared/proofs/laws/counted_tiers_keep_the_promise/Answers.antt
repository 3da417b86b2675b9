use Rattle.tier_shared.proofs.CountedLaws.{counted-promise}
use Rattle.tier_shared.proofs.laws.counted_tiers_keep_the_promise.Goals as goal

pub returns : goal.returns
returns g c = counted-promise
