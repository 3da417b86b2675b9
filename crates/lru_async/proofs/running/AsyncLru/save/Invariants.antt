use Rattle.std.proofs.Common.{◌≤◌}
use Rattle.lru_async.specs.Saving.{Writes}
use Rattle.lru_async.proofs.running.AsyncLru.save.Given as goal

abbrev pub invariant-loop-shard : goal.invariant-loop-shard
invariant-loop-shard g l = record {
  writes : Writes (λ before rows r after. goal.W-step g before rows r after) l.shard l.written l.fn.write_shard l.write_shard;
  count : l.written ≤ l.shard;
}
