use denote.Param.{number, param}
use Rattle.tier_shared.proofs.CountedRooms.{locked_room}
use Rattle.test_tier.proofs.tier_shared++counted_shared++CountedTier+Destruct.drop.Goals as goal

pub drop-requires-room-T-Destruct : goal.drop-requires-room-T-Destruct
drop-requires-room-T-Destruct g c = λ κs below.
    locked_room (param 0 (number g.row.N)) (param 1 g.row.R) (param 2 g.row.L) (param 3 g.row.S) (param 4 g.row.S-Hasher) g.R.Rng g.L.Ledger g.S.BuildHasher g.S.Hasher.Hasher assumption
