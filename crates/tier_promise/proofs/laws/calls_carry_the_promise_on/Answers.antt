use Rattle.tier_model.specs.Calls.{extended}
use Rattle.tier_promise.proofs.NowPromise.{Promise-lawful}
use Rattle.tier_promise.proofs.laws.calls_carry_the_promise_on.Goals as goal

pub returns : goal.returns
returns c = λ old new calls carries start past had. Promise-lawful start (extended past calls) (carries start past had).lawful
