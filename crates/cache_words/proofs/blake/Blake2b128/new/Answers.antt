use Rattle.std.proofs.Common.{rules}
use Rattle.cache_words.specs.Blake.{hash_after}
use Rattle.cache_words.specs.Hasher.{Holds}
use Rattle.cache_words.proofs.blake.Blake2b128.new.Goals as goal

pub returns : goal.returns
unfolding Holds hash_after
returns c = search rules
