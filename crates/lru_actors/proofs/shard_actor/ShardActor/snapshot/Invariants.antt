use Rattle.lru_core.specs.Rows.{pairs_of}
use Rattle.lru_actors.proofs.Looks.{Copied}
use Rattle.lru_actors.proofs.shard_actor.ShardActor.snapshot.Given as goal

abbrev pub invariant-rows : goal.invariant-rows
invariant-rows g l = Copied g.K.Clone.is_clone (pairs_of l.self.unit.rows) l.rows l.pairs.items
