use Rattle.std.proofs.Common.{◌<◌, ◌^◌, refl, []}
use denote.Param.{layout, number, param}
use mir.Syntax.{Ty}
use prog.Memory.{size}
use Rattle.tier_single.specs.contracts.tier.Tier.{the_row}
use Rattle.tier_single.proofs.Room.{inner_room}
use Rattle.tier_model.specs.Histories.{empty_opening}
use Rattle.tier_model.specs.State.{empty_state}
use Rattle.tier_model.proofs.Carried.{empty-past}
use Rattle.tier_single.proofs.KeptState.{kept-past}
use Rattle.tier_single.proofs.tier.Tier.with_hasher.Goals as goal

pub invariant_of-result : goal.invariant_of-result
invariant_of-result g c = rw (c.with_hasher-2.ensures, c.in_ok-manager.ensures, c.with_hasher-3.ensures, c.with_hasher-4.ensures)
    (kept-past g.row.N c.args.watermark c.args.age (empty_opening (record { shards = g.row.N; limit = c.args.limit; watermark = c.args.watermark; age = c.args.age; wait = c.args.wait }))
    (empty_state (record { shards = g.row.N; limit = c.args.limit; watermark = c.args.watermark; age = c.args.age; wait = c.args.wait })) [] refl refl refl (empty-past _ c.requires))

pub returns-clause-past : goal.returns-clause-past
returns-clause-past g c = rw (c.with_hasher-2.ensures, c.in_ok-manager.ensures, c.with_hasher-3.ensures, c.with_hasher-4.ensures) (empty-past _ c.requires)

pub with_hasher-requires : goal.with_hasher-requires
with_hasher-requires g c =
    let tier : Ty = layout (the_row (param 0 (number g.row.N)) (param 1 g.row.S) (param 2 g.row.S-Hasher) g.S.BuildHasher g.S.Hasher.Hasher) in
    let room : size tier < 2 ^ 63 = assumption in
    (inner_room tier 2 1 _ _ refl _ _ refl room, c.requires)
