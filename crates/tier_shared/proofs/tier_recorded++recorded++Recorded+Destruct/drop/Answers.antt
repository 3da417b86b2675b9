use borrow.Rule.Slice.AtParam.{field_room}
use denote.Param.{layout, number, param}
use mir.Syntax.{Ty}
use prog.Memory.{size}
use Rattle.std.proofs.Common.{◌<◌, ◌^◌, refl}
use Rattle.tier_recorded.specs.contracts.recorded.Recorded.{the_row}
use Rattle.tier_shared.proofs.tier_recorded++recorded++Recorded+Destruct.drop.Goals as goal

pub drop-requires-2 : goal.drop-requires-2
drop-requires-2 g c =
    let whole : Ty = layout (the_row (param 0 (number g.row.N)) (param 1 g.row.R) (param 2 g.row.L) (param 3 g.row.S) (param 4 g.row.S-Hasher) g.R.Rng g.L.Ledger g.S.BuildHasher g.S.Hasher.Hasher) in
    let room : size whole < 2 ^ 63 = assumption in
    field_room whole 2 _ _ refl room
