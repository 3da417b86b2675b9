use Rattle.std.proofs.Common.{◌≡◌, false, ap, sym, ◌∙◌, subst}
use Rattle.std.specs.Prelude.{Ok}
use Rattle.tier_model.specs.declared.event.Action.TheVariants.{Open}
use Rattle.tier_model.specs.declared.event.Answer.TheVariants.{Opened}
use Rattle.tier_model.specs.State.{State, Request, closed}
use Rattle.tier_model.specs.Keys.{entry_of}
use Rattle.tier_model.specs.Shelf.{landed}
use Rattle.tier_model.specs.After.{opened_request, turned, on_write, leave_of}
use Rattle.cache_lock.specs.State.{after_all}
use Rattle.std.specs.FinMap.{insert}
use Rattle.tier_requests.specs.Shelves.{shelf_of}
use Rattle.tier_single.specs.States.{state_by}
use Rattle.tier_single.proofs.TookLaws.{some_moment, Took-to, none-open}
use Rattle.tier_single.proofs.OpenLaws.{Took-open, Took-open-memory, Took-open-used}
use Rattle.tier_single.proofs.KeptState.{IsKept, kept-took}
use Rattle.tier_single.proofs.tier.Tier.open.Goals as goal

pub returns-then-contains : goal.returns-then-contains
returns-then-contains g c = λ t.
    let i = c.self.inside in
    let s : State = state_by i.parts.manager i.wait (shelf_of i.parts.store) i.parts.lock i.requests i.found i.absent in
    rw (← c.self.view_is) (Took-open-used s t c.args.id c.args.key.now c.args.asks (sym c.contains.ensures ∙ c.if-contains.true))

pub returns-in_default : goal.returns-in_default
returns-in_default g c = λ t.
    let i = c.self.inside in
    let s : State = state_by i.parts.manager i.wait (shelf_of i.parts.store) i.parts.lock i.requests i.found i.absent in
    let left : State = state_by c.open.new.parts.manager i.wait (shelf_of c.open.new.parts.store) c.open.new.parts.lock i.requests i.found i.absent in
    let is : left ≡ s = λ j. state_by (c.open.ensures.parts j).manager i.wait (c.open.ensures.shelf j) (c.open.ensures.lock j) i.requests i.found i.absent in
    let none = none-open _ (sym c.contains.ensures ∙ c.if-contains.false) in
    rw (← c.self.view_is, c.out_of_memory.ensures) (Took-to s t (Open c.args.id c.args.key.now c.args.asks) _ s left is (Took-open-memory s t c.args.id c.args.key.now c.args.asks none))

pub invariant_of-self : goal.invariant_of-self
invariant_of-self g c =
    let i = c.self.inside in
    let s : State = state_by i.parts.manager i.wait (shelf_of i.parts.store) i.parts.lock i.requests i.found i.absent in
    let left : State = state_by c.open.new.parts.manager i.wait (shelf_of c.open.new.parts.store) c.open.new.parts.lock i.requests i.found i.absent in
    let is : left ≡ s = λ j. state_by (c.open.ensures.parts j).manager i.wait (c.open.ensures.shelf j) (c.open.ensures.lock j) i.requests i.found i.absent in
    subst (λ (x : State). IsKept g.row.N i.watermark i.age x) (sym is) c.self.invariant

pub insert-requires : goal.insert-requires
insert-requires g c = none-open _ (sym c.contains.ensures ∙ c.if-contains.false)

pub invariant_of-self-in-Ok-insert : goal.invariant_of-self-in-Ok-insert
invariant_of-self-in-Ok-insert g c =
    let i = c.self.inside in
    let s : State = state_by i.parts.manager i.wait (shelf_of i.parts.store) i.parts.lock i.requests i.found i.absent in
    let p : Request = opened_request i.wait (entry_of c.args.key.now) c.args.asks in
    let to : State = state_by i.parts.manager i.wait (shelf_of i.parts.store) i.parts.lock (insert i.requests c.args.id p) i.found i.absent in
    let left : State = state_by c.open.new.parts.manager i.wait (shelf_of c.open.new.parts.store) c.open.new.parts.lock c.insert.new.self i.found i.absent in
    let is : left ≡ to =
    λ j. state_by (c.open.ensures.parts j).manager i.wait (c.open.ensures.shelf j) (c.open.ensures.lock j) ((c.in-Ok-insert.ensures.ok ∙ ap (λ (q : Request). insert i.requests c.args.id q) c.in-Ok.ensures.request) j) i.found i.absent in
    let none = none-open _ (sym c.contains.ensures ∙ c.if-contains.false) in
    kept-took g.row.N c.self.inside.watermark c.self.inside.age s some_moment (Open c.args.id c.args.key.now c.args.asks) (Ok Opened) left c.self.invariant (Took-to s some_moment (Open c.args.id c.args.key.now c.args.asks) (Ok Opened) to left is (Took-open s some_moment c.args.id c.args.key.now c.args.asks none))

pub returns-in-Ok-insert : goal.returns-in-Ok-insert
returns-in-Ok-insert g c = λ t.
    let i = c.self.inside in
    let s : State = state_by i.parts.manager i.wait (shelf_of i.parts.store) i.parts.lock i.requests i.found i.absent in
    let p : Request = opened_request i.wait (entry_of c.args.key.now) c.args.asks in
    let to : State = state_by i.parts.manager i.wait (shelf_of i.parts.store) i.parts.lock (insert i.requests c.args.id p) i.found i.absent in
    let left : State = state_by c.open.new.parts.manager i.wait (shelf_of c.open.new.parts.store) c.open.new.parts.lock c.insert.new.self i.found i.absent in
    let is : left ≡ to =
    λ j. state_by (c.open.ensures.parts j).manager i.wait (c.open.ensures.shelf j) (c.open.ensures.lock j) ((c.in-Ok-insert.ensures.ok ∙ ap (λ (q : Request). insert i.requests c.args.id q) c.in-Ok.ensures.request) j) i.found i.absent in
    let none = none-open _ (sym c.contains.ensures ∙ c.if-contains.false) in
    rw (← c.self.view_is) (Took-to s t (Open c.args.id c.args.key.now c.args.asks) (Ok Opened) to left is (Took-open s t c.args.id c.args.key.now c.args.asks none))

pub invariant_of-self-in-Err : goal.invariant_of-self-in-Err
invariant_of-self-in-Err g c =
    let i = c.self.inside in
    let s : State = state_by i.parts.manager i.wait (shelf_of i.parts.store) i.parts.lock i.requests i.found i.absent in
    let p : Request = opened_request i.wait (entry_of c.args.key.now) c.args.asks in
    let q : Request = c.in-Err.request in
    let same : q ≡ p = c.in-Err.ensures.err.0 ∙ c.in-Ok.ensures.request in
    let left : State = state_by c.end.new.parts.manager i.wait (shelf_of c.end.new.parts.store) c.end.new.parts.lock c.insert.new.self i.found i.absent in
    let shelf : shelf_of c.end.new.parts.store ≡ shelf_of i.parts.store =
    c.end.ensures.shelf ∙ ap (λ (x : Request). turned x.reader closed (on_write x.write (landed false) (shelf_of c.open.new.parts.store))) same ∙ c.open.ensures.shelf in
    let lock : c.end.new.parts.lock ≡ i.parts.lock =
    c.end.ensures.lock ∙ ap (λ (x : Request). after_all (leave_of x.held) c.open.new.parts.lock) same ∙ c.open.ensures.lock in
    let manager : c.end.new.parts.manager ≡ i.parts.manager = (λ j. (c.end.ensures.parts j).manager) ∙ (λ j. (c.open.ensures.parts j).manager) in
    let is : left ≡ s = λ j. state_by (manager j) i.wait (shelf j) (lock j) (c.in-Err.ensures.err.1 j) i.found i.absent in
    subst (λ (x : State). IsKept g.row.N i.watermark i.age x) (sym is) c.self.invariant

pub returns-in-Err : goal.returns-in-Err
returns-in-Err g c = λ t.
    let i = c.self.inside in
    let s : State = state_by i.parts.manager i.wait (shelf_of i.parts.store) i.parts.lock i.requests i.found i.absent in
    let p : Request = opened_request i.wait (entry_of c.args.key.now) c.args.asks in
    let q : Request = c.in-Err.request in
    let same : q ≡ p = c.in-Err.ensures.err.0 ∙ c.in-Ok.ensures.request in
    let left : State = state_by c.end.new.parts.manager i.wait (shelf_of c.end.new.parts.store) c.end.new.parts.lock c.insert.new.self i.found i.absent in
    let shelf : shelf_of c.end.new.parts.store ≡ shelf_of i.parts.store =
    c.end.ensures.shelf ∙ ap (λ (x : Request). turned x.reader closed (on_write x.write (landed false) (shelf_of c.open.new.parts.store))) same ∙ c.open.ensures.shelf in
    let lock : c.end.new.parts.lock ≡ i.parts.lock =
    c.end.ensures.lock ∙ ap (λ (x : Request). after_all (leave_of x.held) c.open.new.parts.lock) same ∙ c.open.ensures.lock in
    let manager : c.end.new.parts.manager ≡ i.parts.manager = (λ j. (c.end.ensures.parts j).manager) ∙ (λ j. (c.open.ensures.parts j).manager) in
    let is : left ≡ s = λ j. state_by (manager j) i.wait (shelf j) (lock j) (c.in-Err.ensures.err.1 j) i.found i.absent in
    let none = none-open _ (sym c.contains.ensures ∙ c.if-contains.false) in
    rw (← c.self.view_is, c.out_of_memory-in-Err.ensures) (Took-to s t (Open c.args.id c.args.key.now c.args.asks) _ s left is (Took-open-memory s t c.args.id c.args.key.now c.args.asks none))
