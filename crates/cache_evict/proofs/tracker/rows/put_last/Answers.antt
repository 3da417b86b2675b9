use Rattle.std.proofs.Common.{ap}
use Rattle.std.specs.Prelude.{Ok, Bool}
use Rattle.cache_evict.proofs.RowLaws.{put-last, refused_last}
use Rattle.cache_evict.proofs.tracker.rows.put_last.Goals as goal

pub returns-in-Ok-clause-ok : goal.returns-in-Ok-clause-ok
returns-in-Ok-clause-ok g c =
    put-last g.row.N c.args.number c.args.weight c.args.core.now c.insert_tail.new.self c.requires (c.in-Ok.ensures.after (ap (λ (b : Bool). Ok b) (c.in-Ok.ensures.added.1 c.requires)))

pub returns-in-Err-clause-why : goal.returns-in-Err-clause-why
returns-in-Err-clause-why g c =
    refused_last g.row.N c.args.number c.args.weight c.args.core.now c.in-Err.fault c.row_refusal.result c.row_refusal.ensures c.in-Err.ensures.memory c.in-Err.ensures.heavy c.in-Err.ensures.long
