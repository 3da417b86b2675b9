use Rattle.std.proofs.Common.{rules}
use Rattle.cache_words.proofs.key.CacheKey.to_compact.Goals as goal

pub returns : goal.returns
returns c = search rules
