use Rattle.std.proofs.Common.{◌≡◌, ◌<◌, ◌^◌, refl}
use denote.Param.{layout, number, param}
use mir.Syntax.{Ty}
use prog.Memory.{size}
use Rattle.tier_single.specs.contracts.tier.Tier.{the_row}
use Rattle.tier_single.proofs.Room.{inner_room}
use Rattle.tier_model.specs.declared.event.Action.TheVariants.{LookUp}
use Rattle.tier_model.specs.State.{State}
use Rattle.tier_requests.specs.Shelves.{shelf_of}
use Rattle.tier_requests.specs.Looks.{Lent, lent}
use Rattle.tier_single.specs.States.{state_by}
use Rattle.tier_single.specs.Acts.{Took}
use Rattle.tier_single.specs.Counts.{found_after, absent_after}
use Rattle.tier_single.proofs.TookLaws.{Took-to}
use Rattle.tier_single.proofs.LookLaws.{Took-look, looked_to}
use Rattle.tier_single.proofs.KeptState.{kept-took}
use Rattle.tier_single.proofs.tier.Tier.look_up.Goals as goal

pub look_up-outcome-requires-room-E-EvictionManager : goal.look_up-outcome-requires-room-E-EvictionManager
look_up-outcome-requires-room-E-EvictionManager g c κs within =
    let tier : Ty = layout (the_row (param 0 (number g.row.N)) (param 1 g.row.S) (param 2 g.row.S-Hasher) g.S.BuildHasher g.S.Hasher.Hasher) in
    let room : size tier < 2 ^ 63 = assumption in
    inner_room tier 2 1 _ _ refl _ _ refl room

pub shards_are_within-requires : goal.shards_are_within-requires
shards_are_within-requires g c =
    let tier : Ty = layout (the_row (param 0 (number g.row.N)) (param 1 g.row.S) (param 2 g.row.S-Hasher) g.S.BuildHasher g.S.Hasher.Hasher) in
    let room : size tier < 2 ^ 63 = assumption in
    inner_room tier 2 1 _ _ refl _ _ refl room

pub invariant_of-self : goal.invariant_of-self
invariant_of-self g c =
    let i = c.self.inside in
    let s : State = state_by i.parts.manager i.wait (shelf_of i.parts.store) i.parts.lock i.requests i.found i.absent in
    let n = c.look_up-outcome.new in
    let all : Lent = lent (shelf_of n.parts.store) n.parts.manager n.parts.lock in
    let o = c.look_up-outcome.result in
    let t = c.args.moment in
    let to : State = looked_to s t c.args.id n.self all (found_after o i.found) (absent_after o i.absent) in
    let left : State = state_by n.parts.manager i.wait (shelf_of n.parts.store) n.parts.lock n.self c.found_after-self-inside.result c.absent_after-self-inside.result in
    let is : left ≡ to =
    λ j. state_by n.parts.manager i.wait (shelf_of n.parts.store) n.parts.lock n.self (c.found_after-self-inside.ensures j) (c.absent_after-self-inside.ensures j) in
    let took : Took s t (LookUp c.args.id) o left = Took-to s t (LookUp c.args.id) o to left is (Took-look s t c.args.id g.row.N c.self.invariant.0 o n.self all c.shards_are_within.ensures.fits c.look_up-outcome.ensures.answer) in
    kept-took g.row.N c.self.inside.watermark c.self.inside.age s t (LookUp c.args.id) o left c.self.invariant took

pub returns : goal.returns
returns g c =
    let i = c.self.inside in
    let s : State = state_by i.parts.manager i.wait (shelf_of i.parts.store) i.parts.lock i.requests i.found i.absent in
    let n = c.look_up-outcome.new in
    let all : Lent = lent (shelf_of n.parts.store) n.parts.manager n.parts.lock in
    let o = c.look_up-outcome.result in
    let t = c.args.moment in
    let to : State = looked_to s t c.args.id n.self all (found_after o i.found) (absent_after o i.absent) in
    let left : State = state_by n.parts.manager i.wait (shelf_of n.parts.store) n.parts.lock n.self c.found_after-self-inside.result c.absent_after-self-inside.result in
    let is : left ≡ to =
    λ j. state_by n.parts.manager i.wait (shelf_of n.parts.store) n.parts.lock n.self (c.found_after-self-inside.ensures j) (c.absent_after-self-inside.ensures j) in
    let took : Took s t (LookUp c.args.id) o left = Took-to s t (LookUp c.args.id) o to left is (Took-look s t c.args.id g.row.N c.self.invariant.0 o n.self all c.shards_are_within.ensures.fits c.look_up-outcome.ensures.answer) in
    rw (← c.self.view_is) took
