use denote.Param.{number, param}
use Rattle.tier_shared.proofs.CountedRooms.{locked_room, tier_room}
use Rattle.tier_shared.proofs.counted_shared.CountedTier.abandon.Goals as goal

pub tier-tier-requires : goal.tier-tier-requires
tier-tier-requires g c =
    let whole = locked_room (param 0 (number g.row.N)) (param 1 g.row.R) (param 2 g.row.L) (param 3 g.row.S) (param 4 g.row.S-Hasher) g.R.Rng g.L.Ledger g.S.BuildHasher g.S.Hasher.Hasher assumption in
    (whole, tier_room (param 0 (number g.row.N)) (param 1 g.row.R) (param 2 g.row.L) (param 3 g.row.S) (param 4 g.row.S-Hasher) g.R.Rng g.L.Ledger g.S.BuildHasher g.S.Hasher.Hasher whole)
