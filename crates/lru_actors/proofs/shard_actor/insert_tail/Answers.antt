use Rattle.std.proofs.Common.{ap, Err}
use Rattle.lru_core.proofs.Filters.{others_all}
use Rattle.lru_actors.proofs.shard_actor.insert_tail.Goals as goal

pub returns-in-Err-Weight-clause-reason : goal.returns-in-Err-Weight-clause-reason
returns-in-Err-Weight-clause-reason g c =
    let h = c.in-Err-Weight.ensures.heavy c.in-Err-Weight.key (ap (λ f. Err f) c.in-Err-Weight.field-0-is) in
    rw (others_all c.args.hash c.args.unit.now.rows h.1) h.2
