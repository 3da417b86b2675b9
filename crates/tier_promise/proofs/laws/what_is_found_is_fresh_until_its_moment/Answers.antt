use Rattle.tier_promise.proofs.Founds.{found-fresh}
use Rattle.tier_promise.proofs.laws.what_is_found_is_fresh_until_its_moment.Goals as goal

pub returns : goal.returns
returns c = λ s used loaded h call id q fresh complete given right is at o. found-fresh s used loaded h call id q right is at fresh complete given o
