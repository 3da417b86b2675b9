use borrow.Rule.Slice.AtParam.{field_room}
use denote.Param.{layout, number, param}
use mir.Syntax.{Ty}
use prog.Memory.{size}
use Rattle.std.proofs.Common.{◌<◌, ◌^◌, refl}
use Rattle.tier_shared.specs.contracts.shared.NotShared.{the_row}
use Rattle.test_tier.proofs.tier_shared++shared++NotShared+Destruct.drop.Goals as goal

pub drop-requires-2 : goal.drop-requires-2
drop-requires-2 g c =
    let whole : Ty = layout (the_row (param 0 (number g.row.N)) (param 1 g.row.R) (param 2 g.row.S) (param 3 g.row.S-Hasher) g.S.BuildHasher g.S.Hasher.Hasher) in
    let room : size whole < 2 ^ 63 = assumption in
    field_room whole 2 _ _ refl room
