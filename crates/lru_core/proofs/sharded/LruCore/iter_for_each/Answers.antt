use Rattle.std.proofs.Common.{◌<◌, length, arith}
use Rattle.lru_core.proofs.Pairs.{rows_there}
use Rattle.lru_core.proofs.sharded.LruCore.iter_for_each.Goals as goal

pub returns : goal.returns
returns g c =
    let units = c.self.inside.units.items in
    let within : c.args.shard < length units = let n = c.self.invariant.count in let w = c.requires.within in omega (arith, n, w) in
    (c.visit.new.f, rw (← c.self.view_is, rows_there units c.args.shard c.index.result.now within c.index.ensures) c.visit.ensures.called)
