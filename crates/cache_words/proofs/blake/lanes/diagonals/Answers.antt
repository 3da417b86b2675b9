use Rattle.std.proofs.Common.{arith}
use Rattle.cache_words.proofs.Lanes.{diagonals_are}
use Rattle.cache_words.proofs.blake.lanes.diagonals.Goals as goal

pub returns : goal.returns
returns c = diagonals_are c.args.v.now (omega arith) _ _ _ _ c.args.x c.args.y c.mixed.ensures
