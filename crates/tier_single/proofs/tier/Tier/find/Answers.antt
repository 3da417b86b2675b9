use Rattle.tier_model.specs.declared.event.Action.TheVariants.{LookUp}
use Rattle.tier_single.specs.Hits.{at_moment}
use Rattle.tier_single.proofs.FindLaws.{some_stream, finds-head, find-memory, one-found}
use Rattle.tier_single.proofs.RunLaws.{Steps-took, Takes-step}
use Rattle.std.proofs.Common.{refl}
use Rattle.tier_single.proofs.tier.Tier.find.Goals as goal

pub returns-in_default-clause-takes : goal.returns-in_default-clause-takes
returns-in_default-clause-takes g c = λ s.
    rw c.out_of_memory.ensures
    (Takes-step c.args.self.now s _ _ c.args.self.now s (Steps-took c.args.self.now s (at_moment c.args.moment (LookUp c.args.request)) (LookUp c.args.request) _ c.args.self.now refl tt
    (find-memory c.args.self.now c.args.moment c.args.request c.in_default.ensures)))

pub returns-in-Ok-look_up-clause-takes : goal.returns-in-Ok-look_up-clause-takes
returns-in-Ok-look_up-clause-takes g c = λ s.
    Takes-step c.args.self.now s _ _ _ s (Steps-took c.args.self.now s (at_moment c.args.moment (LookUp c.args.request)) (LookUp c.args.request) _ _ refl tt c.in-Ok-look_up.ensures)

pub returns-in-Err-clause-takes : goal.returns-in-Err-clause-takes
returns-in-Err-clause-takes g c = λ s.
    Takes-step c.args.self.now s _ _ _ s (Steps-took c.args.self.now s (at_moment c.args.moment (LookUp c.args.request)) (LookUp c.args.request) _ _ refl tt c.in-Err.ensures)

pub returns-in-Ok-look_up-clause-head : goal.returns-in-Ok-look_up-clause-head
returns-in-Ok-look_up-clause-head g c = finds-head c.args.self.now c.args.moment c.args.request _ _ c.in-Ok-look_up.ensures _ c.in-Ok.ensures

pub returns-in-Ok-look_up-clause-one : goal.returns-in-Ok-look_up-clause-one
returns-in-Ok-look_up-clause-one g c =
    let past = c.self.invariant.2 in
    let s = c.args.self.now in
    let head = finds-head s c.args.moment c.args.request _ _ c.in-Ok-look_up.ensures _ c.in-Ok.ensures in
    one-found past.0 past.1 s _ c.args.moment c.args.request _ _ _ _ (rw (← c.self.view_is) past.2)
    (Takes-step s some_stream _ _ _ some_stream (Steps-took s some_stream (at_moment c.args.moment (LookUp c.args.request)) (LookUp c.args.request) _ _ refl tt c.in-Ok-look_up.ensures)) head
