use Rattle.std.proofs.Common.{◌≡◌, Err, ap, ◌∙◌, sym}
use Rattle.lru_core.proofs.Tabled.{added, relooked, tabled_length}
use Rattle.lru_core.proofs.Ends.{added_end, rows_with_one}
use Rattle.lru_core.proofs.rows.Rows.push.Goals as goal

pub invariant_of-self : goal.invariant_of-self
invariant_of-self g c =
    rw c.in-Ok.ensures.index
    (added_end c.args.end _ _ _ _ (added _ _ _ c.self.invariant _ c.in-Ok.ensures.kept _ c.in-Ok.i c.args.row c.in-Ok.ensures.fresh c.in-Ok.ensures.held (rw (← c.self.view_is) at c.requires)
    c.put_key.ensures.here (λ q d. c.put_key.ensures.kept q d ∙ c.new_slot.ensures.same q)))

pub invariant_of-self-in-Err-Memory : goal.invariant_of-self-in-Err-Memory
invariant_of-self-in-Err-Memory g c = rw c.in-Err-Memory.ensures.err (relooked _ _ _ _ c.new_slot.ensures.same c.self.invariant)

pub invariant_of-self-in-Err-Full : goal.invariant_of-self-in-Err-Full
invariant_of-self-in-Err-Full g c = rw c.in-Err-Full.ensures.err (relooked _ _ _ _ c.new_slot.ensures.same c.self.invariant)

pub returns-in-Ok-clause-ok : goal.returns-in-Ok-clause-ok
returns-in-Ok-clause-ok g c = rw (c.in-Ok.ensures.index, ← c.self.view_is) (rows_with_one c.args.end _ _ _ c.in-Ok.i c.args.row c.in-Ok.ensures.held c.in-Ok.ensures.kept)

pub returns-in-Err-Full-clause-full : goal.returns-in-Err-Full-clause-full
returns-in-Err-Full-clause-full g c back e =
    let u : c.unwrap-in-Err-Full.result.«data» ≡ back = cc in
    let f = c.in-Err-Full.ensures.full c.in-Err-Full.back (ap Err c.in-Err-Full.field-0-is) in
    let v : c.unwrap-in-Err-Full.result ≡ c.args.row = let a = c.unwrap-in-Err-Full.ensures in let b = f.0 in cc in
    (sym u ∙ ap (λ r. r.«data») v, rw (← c.self.view_is, tabled_length _ _ _ c.self.invariant) f.1)

pub returns-in-Err-Memory-clause-memory : goal.returns-in-Err-Memory-clause-memory
returns-in-Err-Memory-clause-memory g c back e =
    let u : c.unwrap.result.«data» ≡ back = cc in
    let f = c.in-Err-Memory.ensures.memory c.in-Err-Memory.back (ap Err c.in-Err-Memory.field-0-is) in
    let v : c.unwrap.result ≡ c.args.row = let a = c.unwrap.ensures in let b = f.0 in cc in
    (sym u ∙ ap (λ r. r.«data») v, rw (← c.self.view_is, tabled_length _ _ _ c.self.invariant) f.1)
