use Rattle.tier_promise.proofs.NowLaws.{waiting-splits}
use Rattle.tier_promise.proofs.laws.waiting_is_by_splitting.Goals as goal

pub returns : goal.returns
returns c = waiting-splits
