use Rattle.tier_promise.proofs.NowPromise.{Promise-lawful}
use Rattle.tier_promise.proofs.laws.lawful_histories_keep_the_promise.Goals as goal

pub returns : goal.returns
returns c = Promise-lawful
