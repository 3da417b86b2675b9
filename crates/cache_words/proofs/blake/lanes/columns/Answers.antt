use Rattle.std.proofs.Common.{arith}
use Rattle.cache_words.proofs.Lanes.{columns_are}
use Rattle.cache_words.proofs.blake.lanes.columns.Goals as goal

pub returns : goal.returns
returns c = columns_are c.args.v.now (omega arith) _ _ _ _ c.args.x c.args.y c.mixed.ensures
