use Rattle.std.proofs.Common.{◌≡◌}
use Rattle.lru_async.proofs.plan.Wires.actors.Given as goal

abbrev pub invariant-shards : goal.invariant-shards
invariant-shards g l = l.senders.len ≡ l.shard
