use Rattle.tier_promise.proofs.Stored.{put-is-stored}
use Rattle.tier_promise.proofs.laws.what_is_put_is_stored.Goals as goal

pub returns : goal.returns
returns c = λ s used loaded h call key pieces given size evicted right is o others. put-is-stored s used loaded h call key pieces given size evicted right is o others
