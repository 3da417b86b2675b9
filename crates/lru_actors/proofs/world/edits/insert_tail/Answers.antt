use Rattle.std.proofs.Common.{ap, Ok, Err}
use Rattle.lru_core.specs.Rows.{a_row}
use Rattle.lru_core.specs.Cores.{shard_of}
use Rattle.lru_core.proofs.Filters.{others_all}
use Rattle.lru_actors.proofs.Rows.{put_last}
use Rattle.lru_actors.proofs.world.edits.insert_tail.Goals as goal

pub returns-in-Ok-clause-after : goal.returns-in-Ok-clause-after
returns-in-Ok-clause-after g c =
    put_last c.in-Ok.field-0 g.row.N c.args.core.now c.insert_tail.new.self (a_row c.args.hash c.args.key c.args.weight) c.in-Ok.ensures.added (λ e. c.in-Ok.ensures.after (ap (λ b. Ok b) e))
    (λ d. c.in-Ok.ensures.same (λ e. d (cc e)))

pub returns-in-Err-Weight-clause-reason : goal.returns-in-Err-Weight-clause-reason
returns-in-Err-Weight-clause-reason g c =
    let h = c.in-Err-Weight.ensures.heavy c.in-Err-Weight.key (ap (λ f. Err f) c.in-Err-Weight.field-0-is) in
    rw (others_all c.args.hash (shard_of g.row.N c.args.core.now c.args.hash) h.1) h.2
