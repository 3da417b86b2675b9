use Rattle.std.proofs.Common.{rules}
use Rattle.cache_words.proofs.time.Moment.is_before_epoch.Goals as goal

pub returns : goal.returns
returns c = search rules
