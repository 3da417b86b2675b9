use Rattle.std.proofs.Common.{◌<◌}
use Rattle.pingora_lru.proofs.recorded_lru.RecordedLru.evict_step.Given as goal

abbrev pub invariant-circle : goal.invariant-circle
invariant-circle g l = l.place < g.row.N
