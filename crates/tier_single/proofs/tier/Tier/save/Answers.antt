use Rattle.std.proofs.Common.{◌<◌, ◌^◌, refl}
use denote.Param.{layout, number, param}
use mir.Syntax.{Ty}
use prog.Memory.{size}
use Rattle.tier_single.specs.contracts.tier.Tier.{the_row}
use Rattle.tier_single.proofs.Room.{inner_room}
use Rattle.tier_single.proofs.tier.Tier.save.Goals as goal

pub save-came-requires : goal.save-came-requires
save-came-requires g c =
    let tier : Ty = layout (the_row (param 0 (number g.row.N)) (param 1 g.row.S) (param 2 g.row.S-Hasher) g.S.BuildHasher g.S.Hasher.Hasher) in
    let room : size tier < 2 ^ 63 = assumption in
    (inner_room tier 2 1 _ _ refl _ _ refl room, c.requires.words)

pub returns-clause-saved : goal.returns-clause-saved
returns-clause-saved g c = rw (← c.self.view_is) (c.save-came.result, c.told_of_files.ensures, c.save-came.ensures.saved)

pub returns-clause-stops : goal.returns-clause-stops
returns-clause-stops g c = rw (← c.self.view_is) c.save-came.ensures.stops
