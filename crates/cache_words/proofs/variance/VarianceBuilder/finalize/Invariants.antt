use Rattle.std.proofs.Common.{map}
use Rattle.std.specs.Map.Iter.{deref_pair}
use Rattle.cache_words.specs.Hasher.{Holds}
use Rattle.cache_words.specs.Variance.{variance_text}
use Rattle.cache_words.proofs.variance.VarianceBuilder.finalize.Given as goal

abbrev pub invariant-names : goal.invariant-names
invariant-names l = Holds l.hasher (variance_text (map deref_pair l.yielded))
