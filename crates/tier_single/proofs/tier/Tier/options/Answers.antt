use Rattle.std.proofs.Common.{◌≡◌, ◌<◌, ◌^◌, refl, sym, ◌∙◌}
use denote.Param.{layout, number, param}
use mir.Syntax.{Ty}
use prog.Memory.{size}
use Rattle.tier_model.specs.State.{State}
use Rattle.tier_requests.specs.Shelves.{shelf_of}
use Rattle.tier_single.specs.States.{state_by}
use Rattle.tier_single.specs.contracts.tier.Tier.{the_row}
use Rattle.tier_single.proofs.KeptState.{kept-settings}
use Rattle.tier_single.proofs.Room.{inner_room}
use Rattle.tier_single.proofs.tier.Tier.options.Goals as goal

pub weight_limit-requires : goal.weight_limit-requires
weight_limit-requires g c =
    let tier : Ty = layout (the_row (param 0 (number g.row.N)) (param 1 g.row.S) (param 2 g.row.S-Hasher) g.S.BuildHasher g.S.Hasher.Hasher) in
    let room : size tier < 2 ^ 63 = assumption in
    inner_room tier 2 1 _ _ refl _ _ refl room

pub returns : goal.returns
returns g c =
    let i = c.self.inside in
    let s : State = state_by i.parts.manager i.wait (shelf_of i.parts.store) i.parts.lock i.requests i.found i.absent in
    let limit : i.parts.manager.limit ≡ c.weight_limit.result = sym c.weight_limit.ensures in
    rw (← c.self.view_is) (kept-settings g.row.N i.watermark i.age s c.self.invariant ∙ (λ j. record { shards = g.row.N; limit = limit j; watermark = i.watermark; age = i.age; wait = i.wait }))
