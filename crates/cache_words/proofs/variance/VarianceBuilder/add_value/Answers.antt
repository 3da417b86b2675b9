use Rattle.std.proofs.Common.{rules}
use Rattle.cache_words.proofs.variance.VarianceBuilder.add_value.Goals as goal

pub returns : goal.returns
returns g c = search rules
