use Rattle.std.proofs.Common.{rules}
use Rattle.cache_words.proofs.key.hash_u8.Goals as goal

pub returns : goal.returns
returns c = search rules
