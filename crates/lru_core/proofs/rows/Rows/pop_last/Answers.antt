use Rattle.std.proofs.Common.{◌≡◌, sym, refl}
use Rattle.lru_list.proofs.Indexes.{has_push_here}
use Rattle.lru_core.proofs.Tabled.{removed, slot_row}
use Rattle.lru_core.proofs.Ends.{rows_end, rows_left, last_none, last_some}
use Rattle.lru_core.proofs.rows.Rows.pop_last.Goals as goal

pub returns-in_err-i : goal.returns-in_err-i
returns-in_err-i g c =
    let e = last_none c.self.inside.list.order (sym c.in_err-i.ensures) in
    rw c.from_residual.ensures (rw (← c.self.view_is, e) refl, refl)

pub remove-requires : goal.remove-requires
remove-requires g c =
    let s = last_some c.self.inside.list.order c.in_ok-i.i (sym c.in_ok-i.ensures) in
    rw s.1 (has_push_here s.0 c.in_ok-i.i)

pub unwrap-row-requires : goal.unwrap-row-requires
unwrap-row-requires g c =
    let s = last_some c.self.inside.list.order c.in_ok-i.i (sym c.in_ok-i.ensures) in
    let n = c.self.invariant.named c.in_ok-i.i (rw s.1 (has_push_here s.0 c.in_ok-i.i)) in
    rw (slot_row c.self.inside.list.items c.in_ok-i.i _ _ c.remove.ensures.value n.1) refl

pub invariant_of-self : goal.invariant_of-self
invariant_of-self g c =
    let s = last_some c.self.inside.list.order c.in_ok-i.i (sym c.in_ok-i.ensures) in
    let n = c.self.invariant.named c.in_ok-i.i (rw s.1 (has_push_here s.0 c.in_ok-i.i)) in
    let r : n.0 ≡ c.unwrap-row.result = let u = slot_row c.self.inside.list.items c.in_ok-i.i _ _ c.remove.ensures.value n.1 in let v = c.unwrap-row.ensures in cc in
    let a = c.remove.ensures.after in
    rw a.2 (removed _ _ _ c.self.invariant _ c.unwrap-row.result.key c.in_ok-i.i a.0 (rw r at n.2) c.take_key-index.ensures.gone c.take_key-index.ensures.kept)

pub returns : goal.returns
returns g c =
    let s = last_some c.self.inside.list.order c.in_ok-i.i (sym c.in_ok-i.ensures) in
    let n = c.self.invariant.named c.in_ok-i.i (rw s.1 (has_push_here s.0 c.in_ok-i.i)) in
    let r : n.0 ≡ c.unwrap-row.result = let u = slot_row c.self.inside.list.items c.in_ok-i.i _ _ c.remove.ensures.value n.1 in let v = c.unwrap-row.ensures in cc in
    let a = c.remove.ensures.after in
    let p = rw s.1 at c.self.invariant.apart in
    let e = rows_end c.self.inside.list.items s.0 c.in_ok-i.i n.0 n.1 in
    rw (a.2, ← c.self.view_is, s.1, rows_left c.self.inside.list.items s.0 c.in_ok-i.i a.0 p, ← r) e
