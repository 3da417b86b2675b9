use Rattle.std.proofs.Common.{◌<◌, ◌^◌, refl, sym, ap, ◌∙◌, subst, []}
use denote.Param.{layout, number, param}
use mir.Syntax.{Ty}
use prog.Memory.{size}
use Rattle.cache_evict.specs.Managed.{Managed}
use Rattle.cache_evict.specs.FileLoads.{LoadsStored}
use Rattle.cache_evict.specs.Stored.{lru_stored}
use Rattle.tier_model.specs.Started.{IsNew, opening_of}
use Rattle.tier_model.specs.State.{Settings, State}
use Rattle.tier_model.proofs.StartedLaws.{finds_nothing, tracks_nothing}
use Rattle.tier_requests.specs.Shelves.{shelf_of}
use Rattle.tier_single.specs.States.{state_by}
use Rattle.tier_single.specs.contracts.tier.Tier.{the_row}
use Rattle.tier_single.proofs.RestartLaws.{started, settings_stay}
use Rattle.tier_single.proofs.KeptState.{kept-settings}
use Rattle.tier_single.proofs.Room.{inner_room}
use Rattle.tier_single.proofs.tier.Tier.start.Goals as goal

pub load-came-requires : goal.load-came-requires
load-came-requires g c =
    let tier : Ty = layout (the_row (param 0 (number g.row.N)) (param 1 g.row.S) (param 2 g.row.S-Hasher) g.S.BuildHasher g.S.Hasher.Hasher) in
    let room : size tier < 2 ^ 63 = assumption in
    inner_room tier 2 1 _ _ refl _ _ refl room

pub shards_are_within-requires : goal.shards_are_within-requires
shards_are_within-requires g c =
    let tier : Ty = layout (the_row (param 0 (number g.row.N)) (param 1 g.row.S) (param 2 g.row.S-Hasher) g.S.BuildHasher g.S.Hasher.Hasher) in
    let room : size tier < 2 ^ 63 = assumption in
    inner_room tier 2 1 _ _ refl _ _ refl room

pub invariant_of-self : goal.invariant_of-self
invariant_of-self g c =
    let s : State = state_by c.self.inside.parts.manager c.self.inside.wait (shelf_of c.self.inside.parts.store) c.self.inside.parts.lock c.self.inside.requests c.self.inside.found c.self.inside.absent in
    let came = started g.F.Folder.did g.F.Folder.failures_of g.F.Folder.keeps g.F.Folder.files g.row.N c.args.dir.now s c.load-came.new.self c.args.folder.now c.load-came.new.folder c.load-came.result
    (subst IsNew (sym c.self.view_is) c.requires.new).nothing_else c.load-came.ensures c.shards_are_within.ensures.sharded in
    let made = kept-settings g.row.N c.self.inside.watermark c.self.inside.age s c.self.invariant in
    let stay = settings_stay g.F.Folder.did g.F.Folder.failures_of g.F.Folder.keeps g.F.Folder.files g.row.N c.args.dir.now s c.load-came.new.self c.args.folder.now c.load-came.new.folder c.load-came.result
    c.load-came.ensures c.self.invariant.0 c.shards_are_within.ensures.sharded in (
      c.shards_are_within.ensures.sharded,
      c.self.invariant.1,
      (opening_of (record s { managed = c.load-came.new.self }), [], came.1, ap (λ (x : Settings). x.watermark) (stay ∙ made), ap (λ (x : Settings). x.age) (stay ∙ made)),
    )

pub returns-clause-loads : goal.returns-clause-loads
returns-clause-loads g c =
    let s : State = state_by c.self.inside.parts.manager c.self.inside.wait (shelf_of c.self.inside.parts.store) c.self.inside.parts.lock c.self.inside.requests c.self.inside.found c.self.inside.absent in
    let fresh_now = tracks_nothing s g.row.N (subst IsNew (sym c.self.view_is) c.requires.new) c.self.invariant.0 in
    rw (← c.self.view_is) (
      c.load-came.result,
      c.told_of_files.ensures,
      subst (λ (m : Managed). LoadsStored g.F.Folder.did g.F.Folder.failures_of g.F.Folder.keeps g.F.Folder.files g.row.N lru_stored c.args.dir.now m c.load-came.new.self c.args.folder.now
          c.load-came.new.folder c.load-came.result) fresh_now c.load-came.ensures,
    )

pub returns-clause-settings : goal.returns-clause-settings
returns-clause-settings g c =
    let s : State = state_by c.self.inside.parts.manager c.self.inside.wait (shelf_of c.self.inside.parts.store) c.self.inside.parts.lock c.self.inside.requests c.self.inside.found c.self.inside.absent in
    rw (← c.self.view_is) (settings_stay g.F.Folder.did g.F.Folder.failures_of g.F.Folder.keeps g.F.Folder.files g.row.N c.args.dir.now s c.load-came.new.self c.args.folder.now c.load-came.new.folder
    c.load-came.result c.load-came.ensures c.self.invariant.0 c.shards_are_within.ensures.sharded)

pub returns-clause-only_order : goal.returns-clause-only_order
returns-clause-only_order g c =
    let s : State = state_by c.self.inside.parts.manager c.self.inside.wait (shelf_of c.self.inside.parts.store) c.self.inside.parts.lock c.self.inside.requests c.self.inside.found c.self.inside.absent in
    (started g.F.Folder.did g.F.Folder.failures_of g.F.Folder.keeps g.F.Folder.files g.row.N c.args.dir.now s c.load-came.new.self c.args.folder.now c.load-came.new.folder c.load-came.result
    (subst IsNew (sym c.self.view_is) c.requires.new).nothing_else c.load-came.ensures c.shards_are_within.ensures.sharded).0

pub returns-clause-past : goal.returns-clause-past
returns-clause-past g c =
    let s : State = state_by c.self.inside.parts.manager c.self.inside.wait (shelf_of c.self.inside.parts.store) c.self.inside.parts.lock c.self.inside.requests c.self.inside.found c.self.inside.absent in
    (started g.F.Folder.did g.F.Folder.failures_of g.F.Folder.keeps g.F.Folder.files g.row.N c.args.dir.now s c.load-came.new.self c.args.folder.now c.load-came.new.folder c.load-came.result
    (subst IsNew (sym c.self.view_is) c.requires.new).nothing_else c.load-came.ensures c.shards_are_within.ensures.sharded).1

pub returns-clause-nothing : goal.returns-clause-nothing
returns-clause-nothing g c = λ k found.
    let s : State = state_by c.self.inside.parts.manager c.self.inside.wait (shelf_of c.self.inside.parts.store) c.self.inside.parts.lock c.self.inside.requests c.self.inside.found c.self.inside.absent in
    finds_nothing (record s { managed = c.load-came.new.self }) k found
