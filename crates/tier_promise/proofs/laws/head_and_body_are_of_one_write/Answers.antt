use Rattle.tier_promise.proofs.Founds.{head-and-body}
use Rattle.tier_promise.proofs.laws.head_and_body_are_of_one_write.Goals as goal

pub returns : goal.returns
returns c = λ s used loaded h look read id fresh given bytes right is o is2 o2. head-and-body s used loaded h look read id fresh given bytes right is o is2 o2
