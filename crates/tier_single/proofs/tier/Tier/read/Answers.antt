use Rattle.tier_model.specs.declared.event.Action.TheVariants.{Read}
use Rattle.tier_model.specs.State.{State}
use Rattle.tier_requests.specs.Shelves.{shelf_of}
use Rattle.tier_single.specs.States.{state_by}
use Rattle.tier_single.proofs.TookLaws.{some_moment}
use Rattle.tier_single.proofs.ReadLaws.{Took-read}
use Rattle.tier_single.proofs.KeptState.{kept-took}
use Rattle.tier_single.proofs.tier.Tier.read.Goals as goal

pub invariant_of-self : goal.invariant_of-self
invariant_of-self g c =
    let i = c.self.inside in
    let s : State = state_by i.parts.manager i.wait (shelf_of i.parts.store) i.parts.lock i.requests i.found i.absent in
    let left : State = state_by i.parts.manager i.wait (shelf_of i.parts.store) i.parts.lock c.read.new.self i.found i.absent in
    kept-took g.row.N c.self.inside.watermark c.self.inside.age s some_moment (Read c.args.id) c.read.result left c.self.invariant
    (Took-read s some_moment c.args.id c.read.result c.read.new.self c.read.ensures)

pub returns : goal.returns
returns g c = λ t.
    let i = c.self.inside in
    let s : State = state_by i.parts.manager i.wait (shelf_of i.parts.store) i.parts.lock i.requests i.found i.absent in
    let left : State = state_by i.parts.manager i.wait (shelf_of i.parts.store) i.parts.lock c.read.new.self i.found i.absent in
    rw (← c.self.view_is) (Took-read s t c.args.id c.read.result c.read.new.self c.read.ensures)
