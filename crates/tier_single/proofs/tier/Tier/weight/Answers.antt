use Rattle.std.proofs.Common.{◌<◌, ◌^◌, refl}
use denote.Param.{layout, number, param}
use mir.Syntax.{Ty}
use prog.Memory.{size}
use Rattle.tier_single.specs.contracts.tier.Tier.{the_row}
use Rattle.tier_single.proofs.Room.{inner_room}
use Rattle.tier_single.proofs.tier.Tier.weight.Goals as goal

pub total_size-requires : goal.total_size-requires
total_size-requires g c =
    let tier : Ty = layout (the_row (param 0 (number g.row.N)) (param 1 g.row.S) (param 2 g.row.S-Hasher) g.S.BuildHasher g.S.Hasher.Hasher) in
    let room : size tier < 2 ^ 63 = assumption in
    inner_room tier 2 1 _ _ refl _ _ refl room

pub total_items-requires : goal.total_items-requires
total_items-requires g c =
    let tier : Ty = layout (the_row (param 0 (number g.row.N)) (param 1 g.row.S) (param 2 g.row.S-Hasher) g.S.BuildHasher g.S.Hasher.Hasher) in
    let room : size tier < 2 ^ 63 = assumption in
    inner_room tier 2 1 _ _ refl _ _ refl room
