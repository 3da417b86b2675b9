use Rattle.std.proofs.Common.{sym, refl}
use Rattle.lru_core.proofs.Tabled.{found_only, absent_only, slot_row}
use Rattle.lru_core.proofs.rows.Rows.get.Goals as goal

pub returns-in_err-i : goal.returns-in_err-i
returns-in_err-i g c = rw (c.from_residual.ensures, ← c.self.view_is) (sym (absent_only _ _ _ c.self.invariant c.args.key (sym c.in_err-i.ensures)))

pub returns : goal.returns
returns g c =
    let f = found_only _ _ _ c.self.invariant c.args.key c.in_ok-i.i (sym c.in_ok-i.ensures) in
    let o = slot_row c.self.inside.list.items c.in_ok-i.i _ _ c.item.ensures f.1 in
    rw (c.as_ref.ensures.value, o, ← c.self.view_is, f.3) refl
