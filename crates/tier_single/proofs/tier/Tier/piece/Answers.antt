use Rattle.std.proofs.Common.{◌≡◌}
use Rattle.tier_model.specs.declared.event.Action.TheVariants.{Piece}
use Rattle.tier_model.specs.State.{State}
use Rattle.tier_requests.specs.Shelves.{shelf_of}
use Rattle.tier_single.specs.States.{state_by}
use Rattle.tier_single.proofs.TookLaws.{some_moment, Took-to}
use Rattle.tier_single.proofs.PieceLaws.{Took-piece, pieced_to}
use Rattle.tier_single.proofs.KeptState.{kept-took}
use Rattle.tier_single.proofs.tier.Tier.piece.Goals as goal

pub invariant_of-self : goal.invariant_of-self
invariant_of-self g c =
    let i = c.self.inside in
    let s : State = state_by i.parts.manager i.wait (shelf_of i.parts.store) i.parts.lock i.requests i.found i.absent in
    let left : State = state_by c.piece.new.parts.manager i.wait (shelf_of c.piece.new.parts.store) c.piece.new.parts.lock c.piece.new.self i.found i.absent in
    let is : left ≡ pieced_to s some_moment c.args.id c.args.bytes.now c.args.end c.piece.new.self (shelf_of c.piece.new.parts.store) =
    λ j. state_by (c.piece.ensures.parts j).manager i.wait (shelf_of (c.piece.ensures.parts j).store) (c.piece.ensures.parts j).lock c.piece.new.self i.found i.absent in
    kept-took g.row.N c.self.inside.watermark c.self.inside.age s some_moment (Piece c.args.id c.args.bytes.now c.args.end) c.piece.result left c.self.invariant
    (Took-to s some_moment (Piece c.args.id c.args.bytes.now c.args.end) c.piece.result (pieced_to s some_moment c.args.id c.args.bytes.now c.args.end c.piece.new.self (shelf_of c.piece.new.parts.store)) left is (Took-piece s some_moment c.args.id c.args.bytes.now c.args.end c.piece.result c.piece.new.self (shelf_of c.piece.new.parts.store) c.piece.ensures.answer))

pub returns : goal.returns
returns g c = λ t.
    let i = c.self.inside in
    let s : State = state_by i.parts.manager i.wait (shelf_of i.parts.store) i.parts.lock i.requests i.found i.absent in
    let left : State = state_by c.piece.new.parts.manager i.wait (shelf_of c.piece.new.parts.store) c.piece.new.parts.lock c.piece.new.self i.found i.absent in
    let is : left ≡ pieced_to s t c.args.id c.args.bytes.now c.args.end c.piece.new.self (shelf_of c.piece.new.parts.store) =
    λ j. state_by (c.piece.ensures.parts j).manager i.wait (shelf_of (c.piece.ensures.parts j).store) (c.piece.ensures.parts j).lock c.piece.new.self i.found i.absent in
    rw (← c.self.view_is) (Took-to s t (Piece c.args.id c.args.bytes.now c.args.end) c.piece.result (pieced_to s t c.args.id c.args.bytes.now c.args.end c.piece.new.self (shelf_of c.piece.new.parts.store)) left is (Took-piece s t c.args.id c.args.bytes.now c.args.end c.piece.result c.piece.new.self (shelf_of c.piece.new.parts.store) c.piece.ensures.answer))
