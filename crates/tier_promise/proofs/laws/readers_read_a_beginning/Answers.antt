use Rattle.tier_promise.proofs.NowHasRead.{reads-right}
use Rattle.tier_promise.proofs.laws.readers_read_a_beginning.Goals as goal

pub returns : goal.returns
returns c = reads-right
