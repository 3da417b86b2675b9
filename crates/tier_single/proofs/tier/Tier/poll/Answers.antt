use Rattle.std.proofs.Common.{◌≡◌}
use Rattle.tier_model.specs.declared.event.Action.TheVariants.{Poll}
use Rattle.tier_model.specs.State.{State}
use Rattle.tier_requests.specs.Shelves.{shelf_of}
use Rattle.tier_single.specs.States.{state_by}
use Rattle.tier_single.proofs.TookLaws.{Took-to}
use Rattle.tier_single.proofs.PollLaws.{Took-poll, polled_to}
use Rattle.tier_single.proofs.KeptState.{kept-took}
use Rattle.tier_single.proofs.tier.Tier.poll.Goals as goal

pub invariant_of-self : goal.invariant_of-self
invariant_of-self g c =
    let i = c.self.inside in
    let s : State = state_by i.parts.manager i.wait (shelf_of i.parts.store) i.parts.lock i.requests i.found i.absent in
    let left : State = state_by c.poll.new.parts.manager i.wait (shelf_of c.poll.new.parts.store) c.poll.new.parts.lock c.poll.new.self i.found i.absent in
    let is : left ≡ polled_to s c.args.moment c.args.id c.poll.new.self c.poll.new.parts.lock =
    λ j. state_by (c.poll.ensures.parts j).manager i.wait (shelf_of (c.poll.ensures.parts j).store) (c.poll.ensures.parts j).lock c.poll.new.self i.found i.absent in
    kept-took g.row.N c.self.inside.watermark c.self.inside.age s c.args.moment (Poll c.args.id) c.poll.result left c.self.invariant
    (Took-to s c.args.moment (Poll c.args.id) c.poll.result (polled_to s c.args.moment c.args.id c.poll.new.self c.poll.new.parts.lock) left is (Took-poll s c.args.moment c.args.id c.poll.result c.poll.new.self c.poll.new.parts.lock c.poll.ensures.answer))

pub returns : goal.returns
returns g c =
    let i = c.self.inside in
    let s : State = state_by i.parts.manager i.wait (shelf_of i.parts.store) i.parts.lock i.requests i.found i.absent in
    let left : State = state_by c.poll.new.parts.manager i.wait (shelf_of c.poll.new.parts.store) c.poll.new.parts.lock c.poll.new.self i.found i.absent in
    let is : left ≡ polled_to s c.args.moment c.args.id c.poll.new.self c.poll.new.parts.lock =
    λ j. state_by (c.poll.ensures.parts j).manager i.wait (shelf_of (c.poll.ensures.parts j).store) (c.poll.ensures.parts j).lock c.poll.new.self i.found i.absent in
    rw (← c.self.view_is) (Took-to s c.args.moment (Poll c.args.id) c.poll.result (polled_to s c.args.moment c.args.id c.poll.new.self c.poll.new.parts.lock) left is (Took-poll s c.args.moment c.args.id c.poll.result c.poll.new.self c.poll.new.parts.lock c.poll.ensures.answer))
