use Rattle.std.proofs.Common.{◌≡◌, sym, ◌∙◌}
use Rattle.std.specs.Prelude.{Ok}
use Rattle.tier_model.specs.declared.event.Action.TheVariants.{Drop}
use Rattle.tier_model.specs.declared.event.Answer.TheVariants.{Dropped}
use Rattle.tier_model.specs.State.{State}
use Rattle.tier_requests.specs.Shelves.{shelf_of}
use Rattle.tier_single.specs.States.{state_by}
use Rattle.tier_single.proofs.TookLaws.{some_moment, Took-to, remove-none}
use Rattle.tier_single.proofs.OpenLaws.{Took-drop, Took-drop-none, dropped_to}
use Rattle.tier_single.proofs.KeptState.{kept-took}
use Rattle.tier_single.proofs.tier.Tier.drop_request.Goals as goal

pub invariant_of-self : goal.invariant_of-self
invariant_of-self g c =
    let i = c.self.inside in
    let s : State = state_by i.parts.manager i.wait (shelf_of i.parts.store) i.parts.lock i.requests i.found i.absent in
    let q = c.in-Some.request in
    let left : State = state_by c.end.new.parts.manager i.wait (shelf_of c.end.new.parts.store) c.end.new.parts.lock c.remove.new.self i.found i.absent in
    let is : left ≡ dropped_to s some_moment c.args.id q =
    λ j. state_by (c.end.ensures.parts j).manager i.wait (c.end.ensures.shelf j) (c.end.ensures.lock j) (c.remove.ensures.left j) i.found i.absent in
    kept-took g.row.N c.self.inside.watermark c.self.inside.age s some_moment (Drop c.args.id) (Ok Dropped) left c.self.invariant
    (Took-to s some_moment (Drop c.args.id) (Ok Dropped) (dropped_to s some_moment c.args.id q) left is (Took-drop s some_moment c.args.id q (sym c.remove.ensures.request ∙ c.in-Some.is)))

pub invariant_of-self-in-None : goal.invariant_of-self-in-None
invariant_of-self-in-None g c = rw (c.remove.ensures.left, remove-none c.self.inside.requests c.args.id (sym c.remove.ensures.request ∙ c.in-None.is)) c.self.invariant

pub returns-in-Some : goal.returns-in-Some
returns-in-Some g c = λ t.
    let i = c.self.inside in
    let s : State = state_by i.parts.manager i.wait (shelf_of i.parts.store) i.parts.lock i.requests i.found i.absent in
    let q = c.in-Some.request in
    let left : State = state_by c.end.new.parts.manager i.wait (shelf_of c.end.new.parts.store) c.end.new.parts.lock c.remove.new.self i.found i.absent in
    let is : left ≡ dropped_to s t c.args.id q =
    λ j. state_by (c.end.ensures.parts j).manager i.wait (c.end.ensures.shelf j) (c.end.ensures.lock j) (c.remove.ensures.left j) i.found i.absent in
    rw (← c.self.view_is) (Took-to s t (Drop c.args.id) (Ok Dropped) (dropped_to s t c.args.id q) left is (Took-drop s t c.args.id q (sym c.remove.ensures.request ∙ c.in-Some.is)))

pub returns-in-None : goal.returns-in-None
returns-in-None g c = λ t.
    let i = c.self.inside in
    let s : State = state_by i.parts.manager i.wait (shelf_of i.parts.store) i.parts.lock i.requests i.found i.absent in
    let none = sym c.remove.ensures.request ∙ c.in-None.is in
    rw (← c.self.view_is, c.remove.ensures.left, remove-none i.requests c.args.id none) (Took-drop-none s t c.args.id none)
