-- Calls that go on by one event.
use Rattle.std.proofs.Common.{◌≡◌, List, [], ◌∷◌, ◌++◌, subst, sym}
use Rattle.tier_model.specs.declared.event.Event.{Event}
use Rattle.tier_model.specs.Calls.{Call, Outcome, AreCallsOf, extended}
use Rattle.tier_model.specs.State.{State}
use Rattle.tier_model.specs.Step.{Allows}
use Rattle.tier_model.specs.After.{after}
use Rattle.tier_model.specs.Past.{AreTaken}
use Rattle.tier_model.proofs.Carried.{CarriesPast-taken}
use Rattle.tier_promise.proofs.NowPromise.{Promise-lawful}
use Rattle.rand_core.specs.Stream.{Stream}
use Rattle.tier_single.specs.Draws.{evicts_from, AreDrawn, AreAllDrawn}
use Rattle.tier_single.specs.Takes.{Takes}
use Rattle.tier_single.proofs.RunLaws.{carries-draws}

abbrev pub StepsBy : State → Stream → Event → Outcome → State → Stream → Type 0
StepsBy old s e o new rest = (c : Call) × (c.event ≡ e) × (c.outcome ≡ o) × Allows old c × (new ≡ after old c) × AreDrawn old (evicts_from old c) c.outcome s rest

-- what is taken of one event is a step
pub StepsBy-takes : (old : State) (s : Stream) (e : Event) (o : Outcome) (new : State) (rest : Stream) → Takes old s (e ∷ []) (o ∷ []) new rest → StepsBy old s e o new rest
StepsBy-takes old s e o new rest takes = by_calls takes.calls takes.are_of takes.taken takes.drawn
  where
    by_calls : (calls : List Call) → AreCallsOf (e ∷ []) (o ∷ []) calls → AreTaken old calls new → AreAllDrawn old calls s rest → StepsBy old s e o new rest
    by_calls [] are taken drawn = absurd are
    by_calls (c ∷ []) are taken drawn = (c, are.0, are.1, taken.0, taken.1, subst (λ (x : Stream). AreDrawn old (evicts_from old c) c.outcome s x) (sym drawn.2) drawn.1)
    by_calls (c ∷ d ∷ calls) are taken drawn = absurd are.2

calls-then : (es fs : List Event) (os ps : List Outcome) (cs ds : List Call) → AreCallsOf es os cs → AreCallsOf fs ps ds → AreCallsOf (es ++ fs) (os ++ ps) (cs ++ ds)
calls-then [] fs [] ps [] ds are more = more
calls-then (e ∷ es) fs (o ∷ os) ps (c ∷ cs) ds are more = (are.0, are.1, calls-then es fs os ps cs ds are.2 more)
calls-then [] fs [] ps (c ∷ cs) ds are more = absurd are
calls-then [] fs (o ∷ os) ps cs ds are more = absurd are
calls-then (e ∷ es) fs [] ps cs ds are more = absurd are
calls-then (e ∷ es) fs (o ∷ os) ps [] ds are more = absurd are

taken-then : (old mid new : State) (cs ds : List Call) → AreTaken old cs mid → AreTaken mid ds new → AreTaken old (cs ++ ds) new
taken-then old mid new [] ds taken more = subst (λ (x : State). AreTaken x ds new) taken more
taken-then old mid new (c ∷ cs) ds taken more = (taken.0, taken-then (after old c) mid new cs ds taken.1 more)

drawn-then : (old mid : State) (cs ds : List Call) (s left rest : Stream) → AreTaken old cs mid → AreAllDrawn old cs s left → AreAllDrawn mid ds left rest → AreAllDrawn old (cs ++ ds) s rest
drawn-then old mid [] ds s left rest taken drawn more = subst (λ (x : State). AreAllDrawn x ds s rest) taken (subst (λ (x : Stream). AreAllDrawn mid ds x rest) drawn more)
drawn-then old mid (c ∷ cs) ds s left rest taken drawn more = (drawn.0, drawn.1, drawn-then (after old c) mid cs ds drawn.0 left rest taken.1 drawn.2 more)

-- events that were taken after others
pub Takes-then : (old mid new : State) (s left rest : Stream) (es fs : List Event) (os ps : List Outcome) → Takes old s es os mid left → Takes mid left fs ps new rest
    → Takes old s (es ++ fs) (os ++ ps) new rest
Takes-then old mid new s left rest es fs os ps first more =
    let taken : AreTaken old (first.calls ++ more.calls) new = taken-then old mid new first.calls more.calls first.taken more.taken in
    let drawn : AreAllDrawn old (first.calls ++ more.calls) s rest = drawn-then old mid first.calls more.calls s left rest first.taken first.drawn more.drawn in
    let carries = CarriesPast-taken old (first.calls ++ more.calls) new taken in
    record {
      calls = first.calls ++ more.calls;
      are_of = calls-then es fs os ps first.calls more.calls first.are_of more.are_of;
      taken = taken;
      drawn = drawn;
      promise = λ start past had. Promise-lawful start (extended past (first.calls ++ more.calls)) (carries start past had).lawful;
      picked = carries-draws old s (first.calls ++ more.calls) new rest taken drawn;
      past = carries;
    }
