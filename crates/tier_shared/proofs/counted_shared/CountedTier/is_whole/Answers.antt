use denote.Param.{number, param}
use Rattle.tier_shared.proofs.CountedRooms.{locked_room, tier_room}
use Rattle.tier_shared.proofs.counted_shared.CountedTier.is_whole.Goals as goal

pub tier-requires : goal.tier-requires
tier-requires g c =
    let whole = locked_room (param 0 (number g.row.N)) (param 1 g.row.R) (param 2 g.row.L) (param 3 g.row.S) (param 4 g.row.S-Hasher) g.R.Rng g.L.Ledger g.S.BuildHasher g.S.Hasher.Hasher assumption in
    (whole, tier_room (param 0 (number g.row.N)) (param 1 g.row.R) (param 2 g.row.L) (param 3 g.row.S) (param 4 g.row.S-Hasher) g.R.Rng g.L.Ledger g.S.BuildHasher g.S.Hasher.Hasher whole)

pub is_whole-requires : goal.is_whole-requires
is_whole-requires g c = tier_room (param 0 (number g.row.N)) (param 1 g.row.R) (param 2 g.row.L) (param 3 g.row.S) (param 4 g.row.S-Hasher) g.R.Rng g.L.Ledger g.S.BuildHasher g.S.Hasher.Hasher
    (locked_room (param 0 (number g.row.N)) (param 1 g.row.R) (param 2 g.row.L) (param 3 g.row.S) (param 4 g.row.S-Hasher) g.R.Rng g.L.Ledger g.S.BuildHasher g.S.Hasher.Hasher assumption)

pub drop-lock-requires-room-T-Destruct : goal.drop-lock-requires-room-T-Destruct
drop-lock-requires-room-T-Destruct g c = λ κs below. locked_room (param 0 (number g.row.N)) (param 1 g.row.R) (param 2 g.row.L) (param 3 g.row.S) (param 4 g.row.S-Hasher) g.R.Rng g.L.Ledger g.S.BuildHasher g.S.Hasher.Hasher assumption

pub returns : goal.returns
returns g c = (_, c.tier.ensures.counted, rw c.tier.ensures.same at c.is_whole.ensures.told)
