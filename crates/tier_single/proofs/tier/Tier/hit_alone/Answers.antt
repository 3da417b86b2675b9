use Rattle.std.proofs.Common.{◌≡◌, ◌<◌, ◌^◌, refl}
use denote.Param.{layout, number, param}
use mir.Syntax.{Ty}
use prog.Memory.{size}
use Rattle.tier_single.specs.contracts.tier.Tier.{the_row}
use Rattle.tier_single.proofs.Room.{inner_room}
use Rattle.tier_model.specs.State.{State}
use Rattle.tier_requests.specs.Shelves.{shelf_of}
use Rattle.tier_single.specs.States.{state_by}
use Rattle.tier_single.specs.Hits.{found_by_hit}
use Rattle.tier_single.proofs.HitAnswers.{takes-hit, kept-hit, is-hit, one-hit}
use Rattle.tier_single.proofs.tier.Tier.hit_alone.Goals as goal

pub take_fresh-hit-requires-room-E-EvictionManager : goal.take_fresh-hit-requires-room-E-EvictionManager
take_fresh-hit-requires-room-E-EvictionManager g c κs within =
    let tier : Ty = layout (the_row (param 0 (number g.row.N)) (param 1 g.row.S) (param 2 g.row.S-Hasher) g.S.BuildHasher g.S.Hasher.Hasher) in
    let room : size tier < 2 ^ 63 = assumption in
    inner_room tier 2 1 _ _ refl _ _ refl room

pub shards_are_within-requires : goal.shards_are_within-requires
shards_are_within-requires g c =
    let tier : Ty = layout (the_row (param 0 (number g.row.N)) (param 1 g.row.S) (param 2 g.row.S-Hasher) g.S.BuildHasher g.S.Hasher.Hasher) in
    let room : size tier < 2 ^ 63 = assumption in
    inner_room tier 2 1 _ _ refl _ _ refl room

pub invariant_of-self : goal.invariant_of-self
invariant_of-self g c =
    let i = c.self.inside in
    let s : State = state_by i.parts.manager i.wait (shelf_of i.parts.store) i.parts.lock i.requests i.found i.absent in
    let m = c.take_fresh-hit.new.manager in
    let o = c.take_fresh-hit.result in
    let to : State = state_by m i.wait (shelf_of i.parts.store) i.parts.lock i.requests (found_by_hit o i.found) i.absent in
    let left : State = state_by m i.wait (shelf_of i.parts.store) i.parts.lock i.requests c.found_by_hit-self-inside.result i.absent in
    let is : left ≡ to = λ j. state_by m i.wait (shelf_of i.parts.store) i.parts.lock i.requests (c.found_by_hit-self-inside.ensures j) i.absent in
    rw is (kept-hit s c.args.moment c.args.key.now g.row.N c.self.invariant.0 o m c.shards_are_within.ensures.fits c.take_fresh-hit.ensures i.watermark i.age c.self.invariant)

pub returns-clause-takes : goal.returns-clause-takes
returns-clause-takes g c = λ id w none.
    let i = c.self.inside in
    let s : State = state_by i.parts.manager i.wait (shelf_of i.parts.store) i.parts.lock i.requests i.found i.absent in
    let m = c.take_fresh-hit.new.manager in
    let o = c.take_fresh-hit.result in
    let to : State = state_by m i.wait (shelf_of i.parts.store) i.parts.lock i.requests (found_by_hit o i.found) i.absent in
    let left : State = state_by m i.wait (shelf_of i.parts.store) i.parts.lock i.requests c.found_by_hit-self-inside.result i.absent in
    let is : left ≡ to = λ j. state_by m i.wait (shelf_of i.parts.store) i.parts.lock i.requests (c.found_by_hit-self-inside.ensures j) i.absent in
    rw (← c.self.view_is, is) (takes-hit s c.args.moment c.args.key.now g.row.N c.self.invariant.0 id (rw (← c.self.view_is) at none) o m c.shards_are_within.ensures.fits c.take_fresh-hit.ensures w)

pub returns-clause-hit : goal.returns-clause-hit
returns-clause-hit g c =
    let i = c.self.inside in
    let s : State = state_by i.parts.manager i.wait (shelf_of i.parts.store) i.parts.lock i.requests i.found i.absent in
    rw (← c.self.view_is) (is-hit s c.args.moment c.args.key.now g.row.N c.self.invariant.0 c.take_fresh-hit.result c.take_fresh-hit.new.manager c.take_fresh-hit.ensures)

pub returns-clause-one : goal.returns-clause-one
returns-clause-one g c =
    let i = c.self.inside in
    let s : State = state_by i.parts.manager i.wait (shelf_of i.parts.store) i.parts.lock i.requests i.found i.absent in
    let past = c.self.invariant.2 in
    one-hit s c.args.moment c.args.key.now g.row.N c.self.invariant.0 c.take_fresh-hit.result c.take_fresh-hit.new.manager c.take_fresh-hit.ensures past.0 past.1 past.2
