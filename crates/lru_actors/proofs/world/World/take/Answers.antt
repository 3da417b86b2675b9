use Rattle.std.proofs.Common.{rules, ◌<◌, length}
use Rattle.lru_actors.proofs.Queues.{take_some, take_none}
use Rattle.lru_actors.proofs.world.World.take.Goals as goal

pub returns-then-shard-len-clause-some : goal.returns-then-shard-len-clause-some
returns-then-shard-len-clause-some g c =
    let l : c.args.shard < length c.self.inside.queues.items = search rules in
    rw (← c.self.view_is) (take_some c.self.inside.queues.items c.args.shard c.index_mut.result.now c.pop.new.self c.pop.result c.self.inside.core c.self.inside.dispatch.items l c.index_mut.ensures.value c.pop.ensures)

pub returns-then-shard-len-clause-none : goal.returns-then-shard-len-clause-none
returns-then-shard-len-clause-none g c =
    let l : c.args.shard < length c.self.inside.queues.items = search rules in
    rw (← c.self.view_is) (take_none c.self.inside.queues.items c.args.shard c.index_mut.result.now c.pop.new.self c.pop.result c.self.inside.core c.self.inside.dispatch.items l c.index_mut.ensures.value c.pop.ensures)
