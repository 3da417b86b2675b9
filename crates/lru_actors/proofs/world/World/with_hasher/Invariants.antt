use Rattle.std.proofs.Common.{◌≡◌, [], replicate}
use Rattle.lru_actors.proofs.world.World.with_hasher.Given as goal

abbrev pub invariant-queues : goal.invariant-queues
invariant-queues g l = l.queues.items ≡ replicate l.counter []
