use Rattle.std.proofs.Common.{◌≡◌, [], replicate, ap, ◌∙◌, arith}
use Rattle.lru_actors.proofs.Worlds.{world_begins}
use Rattle.lru_actors.proofs.world.World.with_hasher.Goals as goal

pub returns-clause-begun : goal.returns-clause-begun
returns-clause-begun g c =
    let e : c.queues.counter ≡ g.row.N = omega arith in
    world_begins g.row.N _ (c.queues.invariant ∙ ap (λ n. replicate n []) e) c.new-2.ensures.items
