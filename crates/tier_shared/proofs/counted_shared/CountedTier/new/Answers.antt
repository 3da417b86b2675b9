use denote.Param.{layout, number, param}
use mir.Syntax.{Ty}
use prog.Memory.{size}
use Rattle.std.proofs.Common.{◌<◌, ◌^◌, ap, Err}
use Rattle.tier_single.specs.contracts.tier.Tier.{the_row as tier_row}
use Rattle.tier_shared.proofs.CountedRooms.{locked_room}
use Rattle.tier_shared.proofs.counted_shared.CountedTier.new.Goals as goal

pub open-counted-requires : goal.open-counted-requires
open-counted-requires g c =
    let tier : Ty = layout (tier_row (param 0 (number g.row.N)) (param 3 g.row.S) (param 4 g.row.S-Hasher) g.S.BuildHasher g.S.Hasher.Hasher) in
    let tier_fits : size tier < 2 ^ 63 = assumption in
    let fits = locked_room (param 0 (number g.row.N)) (param 1 g.row.R) (param 2 g.row.L) (param 3 g.row.S) (param 4 g.row.S-Hasher) g.R.Rng g.L.Ledger g.S.BuildHasher g.S.Hasher.Hasher assumption in
    (tier_fits, (fits, (c.in-Ok.ensures.opens, (c.in-Ok.ensures.words, c.requires.blank))))

pub returns-in-Err-clause-long : goal.returns-in-Err-clause-long
returns-in-Err-clause-long g c = λ e. c.in-Err.ensures.long (ap Err e)
