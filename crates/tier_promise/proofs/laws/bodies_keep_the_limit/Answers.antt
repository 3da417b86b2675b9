use Rattle.tier_promise.proofs.laws.bodies_keep_the_limit.Goals as goal

pub returns : goal.returns
returns c = λ s used loaded h promise keys apart bodies are. (promise.within keys apart bodies are).0
