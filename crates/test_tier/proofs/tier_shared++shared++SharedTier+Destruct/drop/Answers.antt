use borrow.Rule.Slice.AtParam.{field_room}
use denote.Param.{layout, number, param}
use mir.Syntax.{Ty}
use prog.Memory.{size}
use Rattle.std.proofs.Common.{◌<◌, ◌^◌, refl}
use Rattle.std.specs.contracts.cell.UnsafeCell.{the_row as cell_row}
use Rattle.std.specs.contracts.sync.Mutex.{the_row as mutex_row}
use Rattle.tier_recorded.specs.contracts.recorded.Recorded.{the_row as recorded_row}
use Rattle.tier_shared.specs.contracts.shared.SharedTier.{the_row}
use Rattle.test_tier.proofs.tier_shared++shared++SharedTier+Destruct.drop.Goals as goal

pub drop-requires-room-T-Destruct : goal.drop-requires-room-T-Destruct
drop-requires-room-T-Destruct g c = λ κs below.
    let shared : Ty = layout (the_row (param 0 (number g.row.N)) (param 1 g.row.R) (param 2 g.row.L) (param 3 g.row.S) (param 4 g.row.S-Hasher) g.R.Rng g.L.Ledger g.S.BuildHasher g.S.Hasher.Hasher) in
    let mutex : Ty = layout (mutex_row (recorded_row (param 0 (number g.row.N)) (param 1 g.row.R) (param 2 g.row.L) (param 3 g.row.S) (param 4 g.row.S-Hasher) g.R.Rng g.L.Ledger g.S.BuildHasher g.S.Hasher.Hasher)) in
    let cell : Ty = layout (cell_row (recorded_row (param 0 (number g.row.N)) (param 1 g.row.R) (param 2 g.row.L) (param 3 g.row.S) (param 4 g.row.S-Hasher) g.R.Rng g.L.Ledger g.S.BuildHasher g.S.Hasher.Hasher)) in
    let fits : size shared < 2 ^ 63 = assumption in
    let lock_fits : size mutex < 2 ^ 63 = field_room shared 1 _ _ refl fits in
    let cell_fits : size cell < 2 ^ 63 = field_room mutex 1 _ _ refl lock_fits in
    field_room cell 0 _ _ refl cell_fits
