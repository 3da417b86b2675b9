use Rattle.std.proofs.Common.{◌≡◌, ◌∙◌, sym, refl, true, false, Some, None}
use Rattle.std.specs.Prelude.{Ok, Err}
use Rattle.std.specs.FinMap.{get}
use Rattle.cache_words.specs.Time.{MomentValue}
use Rattle.cache_heads.specs.declared.reason.NoCacheReason.TheVariants.{OriginNotCache}
use Rattle.rand_core.specs.Stream.{Stream}
use Rattle.tier_model.specs.declared.event.Action.TheVariants.{Begin}
use Rattle.tier_model.specs.declared.event.Answer.TheVariants.{Uncacheable}
use Rattle.tier_model.specs.declared.event.TierFault.TheVariants as fault
use Rattle.tier_model.specs.State.{State}
use Rattle.tier_requests.specs.Shelves.{shelf_of}
use Rattle.tier_single.specs.States.{state_by}
use Rattle.tier_single.specs.Acts.{Took}
use Rattle.tier_model.specs.NoStore.{no_store_head}
use Rattle.tier_single.proofs.TookLaws.{some_moment, Took-to}
use Rattle.tier_single.proofs.BegunLaws.{may_begin, begin-none, begin-wrong, begin-given-up}
use Rattle.tier_model.proofs.NoStoreLaws.{not-stored}
use Rattle.tier_single.proofs.KeptState.{kept-took}
use Rattle.tier_single.proofs.RunLaws.{Steps-took, Takes-step}
use Rattle.tier_single.proofs.tier.Tier.give_up.Goals as goal

pub returns-in-None-clause-takes : goal.returns-in-None-clause-takes
returns-in-None-clause-takes g c = λ (t : MomentValue) (s : Stream).
    let i = c.self.inside in
    let st : State = state_by i.parts.manager i.wait (shelf_of i.parts.store) i.parts.lock i.requests i.found i.absent in
    rw (← c.self.view_is) (Takes-step st s (record { moment = t; action = Begin c.args.id no_store_head None }) (Err fault.NoRequest) st s
    (Steps-took st s (record { moment = t; action = Begin c.args.id no_store_head None }) (Begin c.args.id no_store_head None) (Err fault.NoRequest) st refl tt (begin-none st t c.args.id no_store_head None (sym c.can_begin.ensures ∙ c.in-None.is))))

pub returns-in-Some-false-clause-takes : goal.returns-in-Some-false-clause-takes
returns-in-Some-false-clause-takes g c = λ (t : MomentValue) (s : Stream).
    let i = c.self.inside in
    let st : State = state_by i.parts.manager i.wait (shelf_of i.parts.store) i.parts.lock i.requests i.found i.absent in
    let wrong : may_begin (get i.requests c.args.id) ≡ Some false = cc (c.can_begin.ensures, c.in-Some-false.is, c.in-Some-false.field-0-test) in
    rw (← c.self.view_is) (Takes-step st s (record { moment = t; action = Begin c.args.id no_store_head None }) (Err fault.WrongPhase) st s
    (Steps-took st s (record { moment = t; action = Begin c.args.id no_store_head None }) (Begin c.args.id no_store_head None) (Err fault.WrongPhase) st refl tt (begin-wrong st t c.args.id no_store_head None wrong)))

pub invariant_of-self : goal.invariant_of-self
invariant_of-self g c =
    let i = c.self.inside in
    let st : State = state_by i.parts.manager i.wait (shelf_of i.parts.store) i.parts.lock i.requests i.found i.absent in
    let may : may_begin (get i.requests c.args.id) ≡ Some true = cc (c.can_begin.ensures, c.in-Some-true.is, c.in-Some-true.field-0-test) in
    let left : State = state_by c.give_up.new.parts.manager i.wait (shelf_of c.give_up.new.parts.store) c.give_up.new.parts.lock c.give_up.new.self i.found i.absent in
    let to : State = record st { requests = c.give_up.new.self; shelf = shelf_of c.give_up.new.parts.store; lock = c.give_up.new.parts.lock } in
    let is : left ≡ to = λ k. state_by (c.give_up.ensures.parts k).manager i.wait (shelf_of (c.give_up.ensures.parts k).store) (c.give_up.ensures.parts k).lock c.give_up.new.self i.found i.absent in
    let took : Took st some_moment (Begin c.args.id no_store_head None) (Ok (Uncacheable OriginNotCache)) left = Took-to st some_moment (Begin c.args.id no_store_head None) (Ok (Uncacheable OriginNotCache)) to left is
    (begin-given-up st some_moment c.args.id no_store_head None may OriginNotCache c.give_up.new.self (shelf_of c.give_up.new.parts.store) c.give_up.new.parts.lock (not-stored some_moment) c.give_up.ensures.given_up) in
    kept-took g.row.N c.self.inside.watermark c.self.inside.age st some_moment (Begin c.args.id no_store_head None) (Ok (Uncacheable OriginNotCache)) left c.self.invariant took

pub returns-clause-takes : goal.returns-clause-takes
returns-clause-takes g c = λ (t : MomentValue) (s : Stream).
    let i = c.self.inside in
    let st : State = state_by i.parts.manager i.wait (shelf_of i.parts.store) i.parts.lock i.requests i.found i.absent in
    let may : may_begin (get i.requests c.args.id) ≡ Some true = cc (c.can_begin.ensures, c.in-Some-true.is, c.in-Some-true.field-0-test) in
    let left : State = state_by c.give_up.new.parts.manager i.wait (shelf_of c.give_up.new.parts.store) c.give_up.new.parts.lock c.give_up.new.self i.found i.absent in
    let to : State = record st { requests = c.give_up.new.self; shelf = shelf_of c.give_up.new.parts.store; lock = c.give_up.new.parts.lock } in
    let is : left ≡ to = λ k. state_by (c.give_up.ensures.parts k).manager i.wait (shelf_of (c.give_up.ensures.parts k).store) (c.give_up.ensures.parts k).lock c.give_up.new.self i.found i.absent in
    let took : Took st t (Begin c.args.id no_store_head None) (Ok (Uncacheable OriginNotCache)) left = Took-to st t (Begin c.args.id no_store_head None) (Ok (Uncacheable OriginNotCache)) to left is
    (begin-given-up st t c.args.id no_store_head None may OriginNotCache c.give_up.new.self (shelf_of c.give_up.new.parts.store) c.give_up.new.parts.lock (not-stored t) c.give_up.ensures.given_up) in
    rw (← c.self.view_is) (Takes-step st s (record { moment = t; action = Begin c.args.id no_store_head None }) (Ok (Uncacheable OriginNotCache)) left s
    (Steps-took st s (record { moment = t; action = Begin c.args.id no_store_head None }) (Begin c.args.id no_store_head None) (Ok (Uncacheable OriginNotCache)) left refl tt took))
