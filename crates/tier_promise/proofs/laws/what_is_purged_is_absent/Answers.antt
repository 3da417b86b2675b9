use Rattle.tier_promise.proofs.Purges.{purged-absent}
use Rattle.tier_promise.proofs.laws.what_is_purged_is_absent.Goals as goal

pub returns : goal.returns
returns c = purged-absent
