use Rattle.std.proofs.Common.{refl}
use Rattle.lru_actors.specs.Worlds.{sends, consumes, refuses, evicts, calls}
use Rattle.lru_actors.specs.Messages.{lost}
use Rattle.lru_actors.proofs.Worlds.{world_sends, waits_there, world_consumes, world_refuses, world_evicts, world_calls}
use Rattle.lru_actors.proofs.world.World.step.Goals as goal

pub returns-in-Ok : goal.returns-in-Ok
returns-in-Ok g c first h w =
    let (at, l, e) = c.in-Ok.ensures.ok in
    let m = c.in-Send.message in
    (sends m, rw c.in-Send.is (at, refl), world_sends g.row.N first h c.args.self.now c.send.new.self c.in-Ok.shard m c.send.ensures.lists at l e w)

pub returns-in-Ok-true : goal.returns-in-Ok-true
returns-in-Ok-true g c first h w =
    let (m, t, e) = c.in-Ok-true.ensures.some (let test = c.in-Ok-true.field-0-test in cc) in
    let len = c.act.ensures.lists in (
      consumes m,
      rw c.in-Act.is (m, waits_there g.row.N first h c.args.self.now c.act.new.self c.in-Act.shard m len t w, refl),
      world_consumes g.row.N first h c.args.self.now c.act.new.self c.in-Act.shard m len t e w,
    )

pub returns-in-Err-act : goal.returns-in-Err-act
returns-in-Err-act g c first h w =
    let (t, e) = c.in-Err-act.ensures.refused in
    let m = lost c.in-Err-act.fault in
    let len = c.act.ensures.lists in (
      refuses m,
      rw c.in-Act.is (waits_there g.row.N first h c.args.self.now c.act.new.self c.in-Act.shard m len t w, refl, c.in-Err-act.ensures.reason),
      world_refuses g.row.N first h c.args.self.now c.act.new.self c.in-Act.shard m len t e w,
    )

pub returns-in-Ok-true-evict : goal.returns-in-Ok-true-evict
returns-in-Ok-true-evict g c first h w =
    let (pair, s, d, q) = c.in-Ok-true-evict.ensures.some (let test = c.in-Ok-true-evict.field-0-test in cc) in (
      evicts c.in-Evict.a c.in-Evict.b pair,
      rw c.in-Evict.is (pair, refl),
      world_evicts g.row.N first h c.args.self.now c.evict.new.self c.in-Evict.a c.in-Evict.b pair s d q w,
    )

pub returns-in-Some : goal.returns-in-Some
returns-in-Some g c first h w =
    let (d, e, q) = c.in-Some.ensures.some in
    let pair = c.in-Some.pair in
    (calls pair, rw c.in-CallBack.is refl, world_calls g.row.N first h c.args.self.now c.call_back.new.self pair e q d w)
