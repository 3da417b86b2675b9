use Rattle.std.proofs.Common.{rules}
use Rattle.cache_words.proofs.time.Duration.new.Goals as goal

pub returns : goal.returns
returns c = search rules
