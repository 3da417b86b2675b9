use Rattle.std.proofs.Common.{ap, ◌∙◌, sym, refl}
use Rattle.lru_list.proofs.Indexes.{has_push_here}
use Rattle.lru_core.specs.Tables.{rows_of}
use Rattle.lru_core.proofs.Tabled.{slot_row}
use Rattle.lru_core.proofs.Ends.{rows_end, last_none, last_some, last_found}
use Rattle.lru_core.proofs.rows.Rows.last.Goals as goal

pub returns-in_err-i : goal.returns-in_err-i
returns-in_err-i g c =
    let e = last_none c.self.inside.list.order (sym c.in_err-i.ensures) in
    rw (c.from_residual.ensures, ← c.self.view_is, e) refl

pub item-requires : goal.item-requires
item-requires g c =
    let s = last_some c.self.inside.list.order c.in_ok-i.i (sym c.in_ok-i.ensures) in
    rw s.1 (has_push_here s.0 c.in_ok-i.i)

pub returns : goal.returns
returns g c =
    let s = last_some c.self.inside.list.order c.in_ok-i.i (sym c.in_ok-i.ensures) in
    let n = c.self.invariant.named c.in_ok-i.i (rw s.1 (has_push_here s.0 c.in_ok-i.i)) in
    let o = slot_row c.self.inside.list.items c.in_ok-i.i _ _ c.item.ensures n.1 in
    let e = rows_end c.self.inside.list.items s.0 c.in_ok-i.i n.0 n.1 in
    last_found c.as_ref.result c.args.self.now (rows_of c.self.inside.list.items s.0) n.0 (c.as_ref.ensures.value ∙ o) (sym c.self.view_is ∙ (ap (rows_of c.self.inside.list.items) s.1 ∙ e))
