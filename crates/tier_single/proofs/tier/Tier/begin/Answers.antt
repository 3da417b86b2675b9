use Rattle.std.proofs.Common.{◌≡◌, sym, ◌∙◌, true, false, Some}
use Rattle.std.specs.Prelude.{Ok, Err}
use Rattle.std.specs.FinMap.{get}
use Rattle.std.proofs.lemmas.Result.{err_from_is_err_and}
use Rattle.tier_model.specs.declared.event.Action.TheVariants.{Begin}
use Rattle.tier_model.specs.declared.event.Answer.TheVariants.{Begun, Uncacheable}
use Rattle.tier_model.specs.Calls.{Outcome}
use Rattle.tier_model.specs.Response.{kept, not_kept}
use Rattle.tier_model.specs.State.{State}
use Rattle.tier_requests.specs.Shelves.{shelf_of}
use Rattle.tier_single.specs.States.{state_by}
use Rattle.tier_single.specs.Acts.{Took}
use Rattle.tier_single.specs.Heads.{JudgesTo}
use Rattle.tier_single.proofs.TookLaws.{Took-to}
use Rattle.tier_single.proofs.BegunLaws.{may_begin, begin-none, begin-wrong, begin-fault, begin-given-up, begin-begun, begin-not}
use Rattle.tier_single.proofs.KeptState.{kept-took}
use Rattle.tier_single.proofs.tier.Tier.begin.Goals as goal

pub returns-in-None : goal.returns-in-None
returns-in-None g c =
    let i = c.self.inside in
    let s : State = state_by i.parts.manager i.wait (shelf_of i.parts.store) i.parts.lock i.requests i.found i.absent in
    rw (← c.self.view_is) (begin-none s c.args.moment c.args.id c.args.head.now c.args.given (sym c.can_begin.ensures ∙ c.in-None.is))

pub returns-in-Some-false : goal.returns-in-Some-false
returns-in-Some-false g c =
    let i = c.self.inside in
    let s : State = state_by i.parts.manager i.wait (shelf_of i.parts.store) i.parts.lock i.requests i.found i.absent in
    let wrong : may_begin (get i.requests c.args.id) ≡ Some false = cc (c.can_begin.ensures, c.in-Some-false.is, c.in-Some-false.field-0-test) in
    rw (← c.self.view_is) (begin-wrong s c.args.moment c.args.id c.args.head.now c.args.given wrong)

pub returns-in-Err : goal.returns-in-Err
returns-in-Err g c =
    let i = c.self.inside in
    let s : State = state_by i.parts.manager i.wait (shelf_of i.parts.store) i.parts.lock i.requests i.found i.absent in
    let may : may_begin (get i.requests c.args.id) ≡ Some true = cc (c.can_begin.ensures, c.in-Some-true.is, c.in-Some-true.field-0-test) in
    rw (← c.self.view_is) (begin-fault s c.args.moment c.args.id c.args.head.now c.args.given may c.in-Err.fault c.in-Err.ensures)

pub invariant_of-self : goal.invariant_of-self
invariant_of-self g c =
    let i = c.self.inside in
    let s : State = state_by i.parts.manager i.wait (shelf_of i.parts.store) i.parts.lock i.requests i.found i.absent in
    let may : may_begin (get i.requests c.args.id) ≡ Some true = cc (c.can_begin.ensures, c.in-Some-true.is, c.in-Some-true.field-0-test) in
    let j : JudgesTo c.args.given c.args.moment c.args.head.now (kept c.in-Ok-Kept.meta) = rw c.in-Ok-Kept.field-0-is at c.in-Ok-Kept.ensures in
    let left : State = state_by c.begin.new.parts.manager i.wait (shelf_of c.begin.new.parts.store) c.begin.new.parts.lock c.begin.new.self i.found i.absent in
    let f = c.in_err-begin-in-Ok-Kept.field-0.0 in
    let to : State = record s { shelf = shelf_of c.begin.new.parts.store } in
    let is : left ≡ to =
    λ k. state_by (c.begin.ensures.parts k).manager i.wait (shelf_of (c.begin.ensures.parts k).store) (c.in_err-begin-in-Ok-Kept.ensures.err.1 k) (c.in_err-begin-in-Ok-Kept.ensures.err.0 k) i.found i.absent in
    let took : Took s c.args.moment (Begin c.args.id c.args.head.now c.args.given) (Err f) left = Took-to s c.args.moment (Begin c.args.id c.args.head.now c.args.given) (Err f) to left is
    (begin-not s c.args.moment c.args.id c.args.head.now c.args.given may c.in-Ok-Kept.meta j f (shelf_of c.begin.new.parts.store) c.in_err-begin-in-Ok-Kept.ensures.refused) in
    kept-took g.row.N c.self.inside.watermark c.self.inside.age s c.args.moment (Begin c.args.id c.args.head.now c.args.given) (Err f) left c.self.invariant took

pub returns-in_err-begin-in-Ok-Kept : goal.returns-in_err-begin-in-Ok-Kept
returns-in_err-begin-in-Ok-Kept g c =
    let i = c.self.inside in
    let s : State = state_by i.parts.manager i.wait (shelf_of i.parts.store) i.parts.lock i.requests i.found i.absent in
    let may : may_begin (get i.requests c.args.id) ≡ Some true = cc (c.can_begin.ensures, c.in-Some-true.is, c.in-Some-true.field-0-test) in
    let j : JudgesTo c.args.given c.args.moment c.args.head.now (kept c.in-Ok-Kept.meta) = rw c.in-Ok-Kept.field-0-is at c.in-Ok-Kept.ensures in
    let left : State = state_by c.begin.new.parts.manager i.wait (shelf_of c.begin.new.parts.store) c.begin.new.parts.lock c.begin.new.self i.found i.absent in
    let f = c.in_err-begin-in-Ok-Kept.field-0.0 in
    let to : State = record s { shelf = shelf_of c.begin.new.parts.store } in
    let is : left ≡ to =
    λ k. state_by (c.begin.ensures.parts k).manager i.wait (shelf_of (c.begin.ensures.parts k).store) (c.in_err-begin-in-Ok-Kept.ensures.err.1 k) (c.in_err-begin-in-Ok-Kept.ensures.err.0 k) i.found i.absent in
    let took : Took s c.args.moment (Begin c.args.id c.args.head.now c.args.given) (Err f) left = Took-to s c.args.moment (Begin c.args.id c.args.head.now c.args.given) (Err f) to left is
    (begin-not s c.args.moment c.args.id c.args.head.now c.args.given may c.in-Ok-Kept.meta j f (shelf_of c.begin.new.parts.store) c.in_err-begin-in-Ok-Kept.ensures.refused) in
    let p = err_from_is_err_and c.from_residual.result c.from_residual.ensures.1 in
    rw (← c.self.view_is, p.1, p.2) took

pub invariant_of-self-in-Ok-Kept : goal.invariant_of-self-in-Ok-Kept
invariant_of-self-in-Ok-Kept g c =
    let i = c.self.inside in
    let s : State = state_by i.parts.manager i.wait (shelf_of i.parts.store) i.parts.lock i.requests i.found i.absent in
    let may : may_begin (get i.requests c.args.id) ≡ Some true = cc (c.can_begin.ensures, c.in-Some-true.is, c.in-Some-true.field-0-test) in
    let j : JudgesTo c.args.given c.args.moment c.args.head.now (kept c.in-Ok-Kept.meta) = rw c.in-Ok-Kept.field-0-is at c.in-Ok-Kept.ensures in
    let left : State = state_by c.begin.new.parts.manager i.wait (shelf_of c.begin.new.parts.store) c.begin.new.parts.lock c.begin.new.self i.found i.absent in
    let to : State = record s { requests = c.begin.new.self; shelf = shelf_of c.begin.new.parts.store; lock = c.begin.new.parts.lock } in
    let is : left ≡ to = λ k. state_by (c.begin.ensures.parts k).manager i.wait (shelf_of (c.begin.ensures.parts k).store) (c.begin.ensures.parts k).lock c.begin.new.self i.found i.absent in
    let took : Took s c.args.moment (Begin c.args.id c.args.head.now c.args.given) (Ok Begun) left = Took-to s c.args.moment (Begin c.args.id c.args.head.now c.args.given) (Ok Begun) to left is
    (begin-begun s c.args.moment c.args.id c.args.head.now c.args.given may c.in-Ok-Kept.meta j c.begin.new.self (shelf_of c.begin.new.parts.store) c.begin.new.parts.lock c.in_ok-begin-in-Ok-Kept.ensures.begun) in
    kept-took g.row.N c.self.inside.watermark c.self.inside.age s c.args.moment (Begin c.args.id c.args.head.now c.args.given) (Ok Begun) left c.self.invariant took

pub returns-in_ok-begin-in-Ok-Kept : goal.returns-in_ok-begin-in-Ok-Kept
returns-in_ok-begin-in-Ok-Kept g c =
    let i = c.self.inside in
    let s : State = state_by i.parts.manager i.wait (shelf_of i.parts.store) i.parts.lock i.requests i.found i.absent in
    let may : may_begin (get i.requests c.args.id) ≡ Some true = cc (c.can_begin.ensures, c.in-Some-true.is, c.in-Some-true.field-0-test) in
    let j : JudgesTo c.args.given c.args.moment c.args.head.now (kept c.in-Ok-Kept.meta) = rw c.in-Ok-Kept.field-0-is at c.in-Ok-Kept.ensures in
    let left : State = state_by c.begin.new.parts.manager i.wait (shelf_of c.begin.new.parts.store) c.begin.new.parts.lock c.begin.new.self i.found i.absent in
    let to : State = record s { requests = c.begin.new.self; shelf = shelf_of c.begin.new.parts.store; lock = c.begin.new.parts.lock } in
    let is : left ≡ to = λ k. state_by (c.begin.ensures.parts k).manager i.wait (shelf_of (c.begin.ensures.parts k).store) (c.begin.ensures.parts k).lock c.begin.new.self i.found i.absent in
    let took : Took s c.args.moment (Begin c.args.id c.args.head.now c.args.given) (Ok Begun) left = Took-to s c.args.moment (Begin c.args.id c.args.head.now c.args.given) (Ok Begun) to left is
    (begin-begun s c.args.moment c.args.id c.args.head.now c.args.given may c.in-Ok-Kept.meta j c.begin.new.self (shelf_of c.begin.new.parts.store) c.begin.new.parts.lock c.in_ok-begin-in-Ok-Kept.ensures.begun) in
    rw (← c.self.view_is) took

pub invariant_of-self-in-Ok-NotKept : goal.invariant_of-self-in-Ok-NotKept
invariant_of-self-in-Ok-NotKept g c =
    let i = c.self.inside in
    let s : State = state_by i.parts.manager i.wait (shelf_of i.parts.store) i.parts.lock i.requests i.found i.absent in
    let may : may_begin (get i.requests c.args.id) ≡ Some true = cc (c.can_begin.ensures, c.in-Some-true.is, c.in-Some-true.field-0-test) in
    let left : State = state_by c.give_up.new.parts.manager i.wait (shelf_of c.give_up.new.parts.store) c.give_up.new.parts.lock c.give_up.new.self i.found i.absent in
    let j : JudgesTo c.args.given c.args.moment c.args.head.now (not_kept c.in-Ok-NotKept.reason) = rw c.in-Ok-NotKept.field-0-is at c.in-Ok-NotKept.ensures in
    let o : Outcome = Ok (Uncacheable c.in-Ok-NotKept.reason) in
    let to : State = record s { requests = c.give_up.new.self; shelf = shelf_of c.give_up.new.parts.store; lock = c.give_up.new.parts.lock } in
    let is : left ≡ to = λ k. state_by (c.give_up.ensures.parts k).manager i.wait (shelf_of (c.give_up.ensures.parts k).store) (c.give_up.ensures.parts k).lock c.give_up.new.self i.found i.absent in
    let took : Took s c.args.moment (Begin c.args.id c.args.head.now c.args.given) o left = Took-to s c.args.moment (Begin c.args.id c.args.head.now c.args.given) o to left is
    (begin-given-up s c.args.moment c.args.id c.args.head.now c.args.given may c.in-Ok-NotKept.reason c.give_up.new.self (shelf_of c.give_up.new.parts.store) c.give_up.new.parts.lock j c.give_up.ensures.given_up) in
    kept-took g.row.N c.self.inside.watermark c.self.inside.age s c.args.moment (Begin c.args.id c.args.head.now c.args.given) o left c.self.invariant took

pub returns-in-Ok-NotKept : goal.returns-in-Ok-NotKept
returns-in-Ok-NotKept g c =
    let i = c.self.inside in
    let s : State = state_by i.parts.manager i.wait (shelf_of i.parts.store) i.parts.lock i.requests i.found i.absent in
    let may : may_begin (get i.requests c.args.id) ≡ Some true = cc (c.can_begin.ensures, c.in-Some-true.is, c.in-Some-true.field-0-test) in
    let left : State = state_by c.give_up.new.parts.manager i.wait (shelf_of c.give_up.new.parts.store) c.give_up.new.parts.lock c.give_up.new.self i.found i.absent in
    let j : JudgesTo c.args.given c.args.moment c.args.head.now (not_kept c.in-Ok-NotKept.reason) = rw c.in-Ok-NotKept.field-0-is at c.in-Ok-NotKept.ensures in
    let o : Outcome = Ok (Uncacheable c.in-Ok-NotKept.reason) in
    let to : State = record s { requests = c.give_up.new.self; shelf = shelf_of c.give_up.new.parts.store; lock = c.give_up.new.parts.lock } in
    let is : left ≡ to = λ k. state_by (c.give_up.ensures.parts k).manager i.wait (shelf_of (c.give_up.ensures.parts k).store) (c.give_up.ensures.parts k).lock c.give_up.new.self i.found i.absent in
    let took : Took s c.args.moment (Begin c.args.id c.args.head.now c.args.given) o left = Took-to s c.args.moment (Begin c.args.id c.args.head.now c.args.given) o to left is
    (begin-given-up s c.args.moment c.args.id c.args.head.now c.args.given may c.in-Ok-NotKept.reason c.give_up.new.self (shelf_of c.give_up.new.parts.store) c.give_up.new.parts.lock j c.give_up.ensures.given_up) in
    rw (← c.self.view_is) took
