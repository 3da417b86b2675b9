use Rattle.cache_words.proofs.VarianceMap.{inserts_swap}
use Rattle.cache_words.proofs.laws.any_order.Goals as goal

pub returns : goal.returns
returns c = inserts_swap
