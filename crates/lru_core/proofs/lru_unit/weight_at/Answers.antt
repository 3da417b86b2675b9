use Rattle.std.proofs.Common.{sym}
use Rattle.lru_core.proofs.Filters.{others_all, one_row}
use Rattle.lru_core.proofs.lru_unit.weight_at.Goals as goal

pub returns-in_err-row-clause-none : goal.returns-in_err-row-clause-none
returns-in_err-row-clause-none g c =
    let e = sym c.in_err-row.ensures in
    rw c.from_residual.ensures (e, others_all c.args.key c.args.rows.now e)

pub returns-clause-some : goal.returns-clause-some
returns-clause-some g c = one_row c.args.key c.args.rows.now c.in_ok-row.row.now (sym c.in_ok-row.ensures)
