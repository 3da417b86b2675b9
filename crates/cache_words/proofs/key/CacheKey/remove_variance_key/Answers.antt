use Rattle.std.proofs.Common.{rules}
use Rattle.cache_words.proofs.key.CacheKey.remove_variance_key.Goals as goal

pub returns : goal.returns
returns c = search rules
