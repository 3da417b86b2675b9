use Rattle.std.proofs.Common.{ap, Err}
use Rattle.lru_core.proofs.Filters.{others_all}
use Rattle.pingora_lru.proofs.edits.insert_tail.Goals as goal

pub returns-in-Err-Weight-clause-reason : goal.returns-in-Err-Weight-clause-reason
returns-in-Err-Weight-clause-reason g c =
    let h = c.in-Err-Weight.ensures.heavy c.in-Err-Weight.back (ap (λ f. Err f) c.in-Err-Weight.field-0-is) in
    rw (h.1, others_all c.args.key c.args.unit.now.rows h.1) h.2

pub returns-in-Err-Length-clause-reason : goal.returns-in-Err-Length-clause-reason
returns-in-Err-Length-clause-reason g c =
    let h = c.in-Err-Length.ensures.long c.in-Err-Length.back (ap (λ f. Err f) c.in-Err-Length.field-0-is) in
    rw h.1 (h.1, h.2)
