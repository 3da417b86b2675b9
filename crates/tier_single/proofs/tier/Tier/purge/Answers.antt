use Rattle.std.proofs.Common.{◌≡◌, ◌<◌, ◌^◌, refl, sym, ◌∙◌, true, false}
use Rattle.std.specs.Prelude.{Ok}
use denote.Param.{layout, number, param}
use mir.Syntax.{Ty}
use prog.Memory.{size}
use Rattle.tier_single.specs.contracts.tier.Tier.{the_row}
use Rattle.tier_single.proofs.Room.{inner_room}
use Rattle.cache_evict.specs.Managed.{taken_out}
use Rattle.cache_evict.specs.Parts.{entry_with_parts}
use Rattle.tier_model.specs.declared.event.Action.TheVariants.{Purge}
use Rattle.tier_model.specs.declared.event.Answer.TheVariants.{Purged}
use Rattle.tier_model.specs.Shelf.{look, is_there, removed}
use Rattle.tier_model.specs.State.{State}
use Rattle.tier_requests.specs.Shelves.{shelf_of}
use Rattle.tier_single.specs.States.{state_by}
use Rattle.tier_single.specs.Acts.{Took}
use Rattle.tier_single.proofs.TookLaws.{some_moment, Took-to}
use Rattle.tier_single.proofs.PurgeLaws.{Took-purged, Took-not-purged, removed-none}
use Rattle.tier_single.proofs.KeptState.{kept-took}
use Rattle.tier_single.proofs.tier.Tier.purge.Goals as goal

pub remove_parts-requires : goal.remove_parts-requires
remove_parts-requires g c =
    let tier : Ty = layout (the_row (param 0 (number g.row.N)) (param 1 g.row.S) (param 2 g.row.S-Hasher) g.S.BuildHasher g.S.Hasher.Hasher) in
    let room : size tier < 2 ^ 63 = assumption in
    inner_room tier 2 1 _ _ refl _ _ refl room

pub invariant_of-self : goal.invariant_of-self
invariant_of-self g c =
    let i = c.self.inside in
    let s : State = state_by i.parts.manager i.wait (shelf_of i.parts.store) i.parts.lock i.requests i.found i.absent in
    let k = c.parts_of.result.1 in
    let to : State = state_by (taken_out g.row.N (entry_with_parts c.parts_of.result.0) i.parts.manager) i.wait (removed k (shelf_of i.parts.store)) i.parts.lock i.requests i.found i.absent in
    let left : State = state_by c.remove_parts.new.self i.wait (shelf_of c.remove.new.store) i.parts.lock i.requests i.found i.absent in
    let is : left ≡ to = λ j. state_by (c.remove_parts.ensures j) i.wait (c.remove.ensures.after j) i.parts.lock i.requests i.found i.absent in
    let took : Took s some_moment (Purge c.args.key.now) (Ok (Purged true)) left = Took-to s some_moment (Purge c.args.key.now) (Ok (Purged true)) to left is
    (Took-purged s some_moment c.args.key.now g.row.N k (entry_with_parts c.parts_of.result.0) c.self.invariant.0.count c.parts_of.ensures.stored c.parts_of.ensures.entry (sym c.remove.ensures.found ∙ c.if-remove.true)) in
    kept-took g.row.N c.self.inside.watermark c.self.inside.age s some_moment (Purge c.args.key.now) (Ok (Purged true)) left c.self.invariant took

pub returns-then-remove : goal.returns-then-remove
returns-then-remove g c = λ t.
    let i = c.self.inside in
    let s : State = state_by i.parts.manager i.wait (shelf_of i.parts.store) i.parts.lock i.requests i.found i.absent in
    let k = c.parts_of.result.1 in
    let to : State = state_by (taken_out g.row.N (entry_with_parts c.parts_of.result.0) i.parts.manager) i.wait (removed k (shelf_of i.parts.store)) i.parts.lock i.requests i.found i.absent in
    let left : State = state_by c.remove_parts.new.self i.wait (shelf_of c.remove.new.store) i.parts.lock i.requests i.found i.absent in
    let is : left ≡ to = λ j. state_by (c.remove_parts.ensures j) i.wait (c.remove.ensures.after j) i.parts.lock i.requests i.found i.absent in
    let took : Took s t (Purge c.args.key.now) (Ok (Purged true)) left = Took-to s t (Purge c.args.key.now) (Ok (Purged true)) to left is
    (Took-purged s t c.args.key.now g.row.N k (entry_with_parts c.parts_of.result.0) c.self.invariant.0.count c.parts_of.ensures.stored c.parts_of.ensures.entry (sym c.remove.ensures.found ∙ c.if-remove.true)) in
    rw (← c.self.view_is) took

pub invariant_of-self-else-remove : goal.invariant_of-self-else-remove
invariant_of-self-else-remove g c =
    let i = c.self.inside in
    let s : State = state_by i.parts.manager i.wait (shelf_of i.parts.store) i.parts.lock i.requests i.found i.absent in
    let k = c.parts_of.result.1 in
    let none : is_there (look k (shelf_of i.parts.store)) ≡ false = sym c.remove.ensures.found ∙ c.if-remove.false in
    let left : State = state_by i.parts.manager i.wait (shelf_of c.remove.new.store) i.parts.lock i.requests i.found i.absent in
    let is : left ≡ s = λ j. state_by i.parts.manager i.wait ((c.remove.ensures.after ∙ removed-none k (shelf_of i.parts.store) none) j) i.parts.lock i.requests i.found i.absent in
    let took : Took s some_moment (Purge c.args.key.now) (Ok (Purged false)) left =
    Took-to s some_moment (Purge c.args.key.now) (Ok (Purged false)) s left is (Took-not-purged s some_moment c.args.key.now k c.parts_of.ensures.stored none) in
    kept-took g.row.N c.self.inside.watermark c.self.inside.age s some_moment (Purge c.args.key.now) (Ok (Purged false)) left c.self.invariant took

pub returns : goal.returns
returns g c = λ t.
    let i = c.self.inside in
    let s : State = state_by i.parts.manager i.wait (shelf_of i.parts.store) i.parts.lock i.requests i.found i.absent in
    let k = c.parts_of.result.1 in
    let none : is_there (look k (shelf_of i.parts.store)) ≡ false = sym c.remove.ensures.found ∙ c.if-remove.false in
    let left : State = state_by i.parts.manager i.wait (shelf_of c.remove.new.store) i.parts.lock i.requests i.found i.absent in
    let is : left ≡ s = λ j. state_by i.parts.manager i.wait ((c.remove.ensures.after ∙ removed-none k (shelf_of i.parts.store) none) j) i.parts.lock i.requests i.found i.absent in
    let took : Took s t (Purge c.args.key.now) (Ok (Purged false)) left =
    Took-to s t (Purge c.args.key.now) (Ok (Purged false)) s left is (Took-not-purged s t c.args.key.now k c.parts_of.ensures.stored none) in
    rw (← c.self.view_is) took
