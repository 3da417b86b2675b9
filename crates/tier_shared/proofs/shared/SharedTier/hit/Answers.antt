use denote.Param.{number, param}
use Rattle.tier_shared.proofs.Rooms.{locked_room}
use Rattle.tier_shared.proofs.shared.SharedTier.hit.Goals as goal

pub hit-requires : goal.hit-requires
hit-requires g c = (
  locked_room (param 0 (number g.row.N)) (param 1 g.row.R) (param 2 g.row.L) (param 3 g.row.S) (param 4 g.row.S-Hasher) g.R.Rng g.L.Ledger g.S.BuildHasher g.S.Hasher.Hasher assumption,
  c.in-Ok.ensures,
)

pub drop-lock-requires-room-T-Destruct : goal.drop-lock-requires-room-T-Destruct
drop-lock-requires-room-T-Destruct g c = λ κs below. locked_room (param 0 (number g.row.N)) (param 1 g.row.R) (param 2 g.row.L) (param 3 g.row.S) (param 4 g.row.S-Hasher) g.R.Rng g.L.Ledger g.S.BuildHasher g.S.Hasher.Hasher assumption
