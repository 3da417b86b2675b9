use Rattle.lru_core.specs.Cores.{shard_of}
use Rattle.cache_evict.proofs.RowLaws.{raised_row, has_own}
use Rattle.cache_evict.proofs.tracker.rows.raise_first.Goals as goal

pub returns-in-Ok-clause-ok : goal.returns-in-Ok-clause-ok
returns-in-Ok-clause-ok g c v own =
    let there = has_own c.args.number v (shard_of g.row.N c.args.core.now c.args.number) own in
    raised_row g.row.N c.args.number v c.in-Ok.field-0 c.args.delta c.args.cap c.args.core.now c.increment_weight.new.self own (c.in-Ok.ensures.raised there) (c.in-Ok.ensures.moved there)
