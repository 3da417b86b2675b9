use denote.Param.{layout, number, param}
use mir.Syntax.{Ty}
use prog.Memory.{size}
use Rattle.std.proofs.Common.{◌<◌, ◌^◌}
use Rattle.tier_recorded.specs.contracts.recorded.Recorded.{the_row as recorded_row}
use Rattle.tier_shared.proofs.GatherLaws.{none-left}
use Rattle.tier_shared.proofs.shared.SharedTier.close.Goals as goal

pub audit-requires : goal.audit-requires
audit-requires g c =
    let recorded : Ty = layout (recorded_row (param 0 (number g.row.N)) (param 1 g.row.R) (param 2 g.row.L) (param 3 g.row.S) (param 4 g.row.S-Hasher) g.R.Rng g.L.Ledger g.S.BuildHasher g.S.Hasher.Hasher) in
    let room : size recorded < 2 ^ 63 = assumption in
    (room, none-left c.outstanding-outstanding.result _ _ c.if-outstanding-ne0.false c.outstanding-outstanding.ensures)
