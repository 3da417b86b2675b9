use borrow.Rule.Slice.AtParam.{field_room}
use denote.Param.{layout, number, param}
use mir.Syntax.{Ty}
use prog.Memory.{size}
use Rattle.std.proofs.Common.{◌<◌, ◌^◌, refl}
use Rattle.tier_recorded.specs.contracts.recorded.Recorded.{the_row}
use Rattle.tier_recorded.proofs.recorded.Recorded.is_whole.Goals as goal

pub is_whole-requires : goal.is_whole-requires
is_whole-requires g c =
    let whole : Ty = layout (the_row (param 0 (number g.row.N)) (param 1 g.row.R) (param 2 g.row.L) (param 3 g.row.S) (param 4 g.row.S-Hasher) g.R.Rng g.L.Ledger g.S.BuildHasher g.S.Hasher.Hasher) in
    let room : size whole < 2 ^ 63 = assumption in
    field_room whole 2 _ _ refl room

pub returns : goal.returns
returns g c = rw (← c.self.view_is) c.is_whole.ensures.told
