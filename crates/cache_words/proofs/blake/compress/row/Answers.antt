use Rattle.cache_words.proofs.Compressing.{row_below}
use Rattle.cache_words.proofs.blake.compress.row.Goals as goal

pub returns-clause-below : goal.returns-clause-below
returns-clause-below c = row_below c.args.r
