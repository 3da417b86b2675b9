use Rattle.std.proofs.Common.{rules}
use Rattle.cache_words.proofs.key.CacheKey.primary_key_str.Goals as goal

pub returns : goal.returns
returns c = search rules
