use Rattle.std.proofs.Common.{rules}
use Rattle.cache_words.proofs.time.Duration.saturating_sub.Goals as goal

pub returns-then-self-other : goal.returns-then-self-other
returns-then-self-other c = search rules
