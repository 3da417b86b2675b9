use Rattle.std.proofs.Common.{arith, refl, subst}
use Rattle.lru_async.specs.Saving.{Writes}
use Rattle.lru_async.specs.Saving.Writes.{LeftOut, NoShard, Refused, Written}
use Rattle.lru_async.proofs.running.AsyncLru.save.Goals as goal

pub loop-shard-init : goal.loop-shard-init
loop-shard-init g c = record { writes = NoShard c.args.write_shard.now; count = omega arith }

pub loop-shard-preserved : goal.loop-shard-preserved
loop-shard-preserved g c = record {
  writes = Written c.loop-shard.shard c.loop-shard.written _ _ _ _ c.loop-shard.invariant.writes refl c.in-Ok-write_shard.ensures;
  count = omega arith;
}

pub loop-shard-preserved-in-Err : goal.loop-shard-preserved-in-Err
loop-shard-preserved-in-Err g c = record {
  writes = Refused c.loop-shard.shard c.loop-shard.written _ _ _ _ c.in-Err._error c.loop-shard.invariant.writes refl c.in-Err.ensures;
  count = omega arith;
}

pub loop-shard-preserved-in_default : goal.loop-shard-preserved-in_default
loop-shard-preserved-in_default g c = record {
  writes = LeftOut c.loop-shard.shard c.loop-shard.written _ _ c.loop-shard.invariant.writes;
  count = omega arith;
}

pub returns-clause-writes : goal.returns-clause-writes
returns-clause-writes g c =
    subst (λ n. Writes (λ before rows r after. goal.W-step g before rows r after) n c.loop-shard.written c.args.write_shard.now c.loop-shard.write_shard) (omega arith) c.loop-shard.invariant.writes
