use Rattle.pingora_lru.proofs.Present.{row_there}
use Rattle.pingora_lru.proofs.edits.set_weight.Goals as goal

pub returns-in-Err-clause-reason : goal.returns-in-Err-clause-reason
returns-in-Err-clause-reason g c =
    let h = c.in-Err.ensures.heavy in
    rw (row_there c.args.key c.args.unit.now.rows h.1) h.2
