use Rattle.tier_promise.proofs.Limits.{goes-over}
use Rattle.tier_promise.proofs.laws.nothing_goes_within_the_limits.Goals as goal

pub returns : goal.returns
returns c = goes-over
