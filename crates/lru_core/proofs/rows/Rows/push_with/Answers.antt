use Rattle.std.proofs.Common.{◌≡◌, ◌∷◌, Some, None, Err, ap, ◌∙◌, sym, set}
use Rattle.lru_core.specs.declared.rows.Row.{Row}
use Rattle.lru_core.specs.Rows.{a_row}
use Rattle.lru_core.specs.Tables.{rows_of}
use Rattle.lru_core.proofs.Tabled.{added, relooked, tabled_length, filled, filled_other}
use Rattle.lru_core.proofs.Ends.{rows_with_one}
use Rattle.lru_core.specs.declared.rows.End.TheVariants.{Front}
use Rattle.lru_core.proofs.rows.Rows.push_with.Goals as goal

pub invariant_of-self : goal.invariant_of-self
invariant_of-self g c =
    let row : Row g.row.T.Denot = a_row c.args.key c.make-data.result c.args.weight in
    let now = filled c.new_slot.new.list.items c.in-Ok.i None (Some row) c.in-Ok.ensures.held in
    let kept = filled_other c.self.inside.list.items c.new_slot.new.list.items c.self.inside.list.order c.in-Ok.i (Some row) c.in-Ok.ensures.fresh c.in-Ok.ensures.kept in
    rw (c.replace-hole.ensures.after, c.in-Ok.ensures.index)
    (added _ _ _ c.self.invariant (set c.new_slot.new.list.items c.in-Ok.i (Some row)) kept _ c.in-Ok.i row c.in-Ok.ensures.fresh now (rw (← c.self.view_is) at c.requires.absent)
    c.put_key.ensures.here (λ q d. c.put_key.ensures.kept q d ∙ c.new_slot.ensures.same q))

pub returns-in-Ok-clause-ok : goal.returns-in-Ok-clause-ok
returns-in-Ok-clause-ok g c =
    let row : Row g.row.T.Denot = a_row c.args.key c.make-data.result c.args.weight in
    let now = filled c.new_slot.new.list.items c.in-Ok.i None (Some row) c.in-Ok.ensures.held in
    let kept = filled_other c.self.inside.list.items c.new_slot.new.list.items c.self.inside.list.order c.in-Ok.i (Some row) c.in-Ok.ensures.fresh c.in-Ok.ensures.kept in (
      c.make-data.result,
      c.make-data.ensures,
      ap (λ v. rows_of v.items v.order) c.replace-hole.ensures.after
          ∙ (ap (λ o. rows_of (set c.new_slot.new.list.items c.in-Ok.i (Some row)) o) c.in-Ok.ensures.index
          ∙ (rows_with_one Front c.self.inside.list.items (set c.new_slot.new.list.items c.in-Ok.i (Some row)) c.self.inside.list.order c.in-Ok.i row now kept
          ∙ ap (λ rows. row ∷ rows) c.self.view_is)),
    )

pub invariant_of-self-in-Err-Memory : goal.invariant_of-self-in-Err-Memory
invariant_of-self-in-Err-Memory g c = rw c.in-Err-Memory.ensures.err (relooked _ _ _ _ c.new_slot.ensures.same c.self.invariant)

pub invariant_of-self-in-Err-Full : goal.invariant_of-self-in-Err-Full
invariant_of-self-in-Err-Full g c = rw c.in-Err-Full.ensures.err (relooked _ _ _ _ c.new_slot.ensures.same c.self.invariant)

pub returns-clause-full : goal.returns-clause-full
returns-clause-full g c back e =
    let u : c.args.make ≡ back = cc in
    let f = c.in-Err-Full.ensures.full c.in-Err-Full.field-0-0 (ap Err c.in-Err-Full.field-0-is) in
    (sym u, rw (← c.self.view_is, tabled_length _ _ _ c.self.invariant) f.1)

pub returns-in-Err-Memory-clause-memory : goal.returns-in-Err-Memory-clause-memory
returns-in-Err-Memory-clause-memory g c back e =
    let u : c.args.make ≡ back = cc in
    let f = c.in-Err-Memory.ensures.memory c.in-Err-Memory.field-0-0 (ap Err c.in-Err-Memory.field-0-is) in
    (sym u, rw (← c.self.view_is, tabled_length _ _ _ c.self.invariant) f.1)
