use Rattle.std.proofs.Common.{rules}
use Rattle.cache_words.proofs.key.hash_key.Goals as goal

pub returns : goal.returns
returns g c = search rules
