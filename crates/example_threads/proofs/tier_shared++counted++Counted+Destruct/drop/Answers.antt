use denote.Param.{number, param}
use Rattle.tier_shared.proofs.CountedRooms.{tier_room}
use Rattle.example_threads.proofs.tier_shared++counted++Counted+Destruct.drop.Goals as goal

pub drop-requires-2 : goal.drop-requires-2
drop-requires-2 g c = tier_room (param 0 (number g.row.N)) (param 1 g.row.R) (param 2 g.row.L) (param 3 g.row.S) (param 4 g.row.S-Hasher) g.R.Rng g.L.Ledger g.S.BuildHasher g.S.Hasher.Hasher assumption
