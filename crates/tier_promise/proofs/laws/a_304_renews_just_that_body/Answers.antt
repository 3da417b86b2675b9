use Rattle.tier_promise.proofs.Stored.{renews-just-that}
use Rattle.tier_promise.proofs.laws.a_304_renews_just_that_body.Goals as goal

pub returns : goal.returns
returns c = λ s used loaded h call id head given q evicted right is at o. renews-just-that s used loaded h call id head given q evicted right is at o
