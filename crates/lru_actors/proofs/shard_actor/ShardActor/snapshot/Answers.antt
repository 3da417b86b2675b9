use Rattle.std.proofs.Common.{subst}
use Rattle.lru_core.specs.Rows.{pairs_of}
use Rattle.lru_actors.proofs.Looks.{Copied, copied_all}
use Rattle.lru_actors.proofs.shard_actor.ShardActor.snapshot.Goals as goal

pub returns : goal.returns
returns g c =
    let all = pairs_of c.args.self.now.unit.rows in
    copied_all g.K.Clone.is_clone all c.rows.pairs.items (subst (λ l. Copied g.K.Clone.is_clone all l c.rows.pairs.items) c.in_default.ensures.steps.0 c.rows.invariant)
