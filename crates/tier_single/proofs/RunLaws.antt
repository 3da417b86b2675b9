-- Events that are taken one after another.
use Rattle.std.proofs.Common.{◌≡◌, Bool, List, [], ◌∷◌, ◌++◌, refl, sym, subst, ap, ◌∙◌, None, Option}
use Rattle.cache_words.specs.Time.{MomentValue}
use Rattle.rand_core.specs.Stream.{Stream}
use Rattle.cache_evict.specs.Managed.{Managed}
use Rattle.tier_model.specs.declared.event.Action.{Action}
use Rattle.tier_model.specs.declared.event.Action.TheVariants.{Open, LookUp, Poll, Begin, Revalidate, Piece, Finish, Read, Drop, Purge, Put}
use Rattle.tier_model.specs.declared.event.Event.{Event}
use Rattle.tier_model.specs.Calls.{Call, Outcome, AreCallsOf, extended}
use Rattle.tier_model.specs.Histories.{empty_opening}
use Rattle.tier_model.specs.State.{Settings, State}
use Rattle.head_parse.specs.Response.{Reading}
use Rattle.tier_model.specs.Step.{Allows}
use Rattle.tier_model.specs.After.{after}
use Rattle.tier_model.specs.Past.{HasPast, AreTaken, CarriesPast}
use Rattle.tier_model.proofs.Carried.{CarriesPast-taken}
use Rattle.tier_single.specs.Draws.{AreDrawn, AreAllDrawn, evicts_from}
use Rattle.tier_promise.proofs.NowPromise.{Promise-lawful}
use Rattle.tier_promise.specs.Promise.{Keeps}
use Rattle.tier_promise.proofs.Drawn.{drawn-by_rows}
use Rattle.tier_single.specs.Takes.{CarriesPromise, CarriesDraws, Takes}
use Rattle.tier_single.specs.Acts.{Took, StepsBy}

-- an action that finishes no body and weighs none anew
abbrev pub IsDrawless : Action → Type 0
IsDrawless (Revalidate id head given) = ⊥
IsDrawless (Finish id) = ⊥
IsDrawless (Put key pieces given) = ⊥
IsDrawless _ = Unit {0}

abbrev call_of : MomentValue → Action → Outcome → Option Reading → Bool → Bool → Call
call_of t action o r began asked = record { event = record { moment = t; action = action }; outcome = o; reading = r; began = began; asked = asked }

no_start : (old : State) (t : MomentValue) (action : Action) (o : Outcome) (r : Option Reading) (began asked : Bool) → IsDrawless action → evicts_from old (call_of t action o r began asked) ≡ None
no_start old t (Open id key asks) o r began asked d = refl
no_start old t (LookUp id) o r began asked d = refl
no_start old t (Poll id) o r began asked d = refl
no_start old t (Begin id head given) o r began asked d = refl
no_start old t (Revalidate id head given) o r began asked d = absurd d
no_start old t (Piece id bytes last) o r began asked d = refl
no_start old t (Finish id) o r began asked d = absurd d
no_start old t (Read id) o r began asked d = refl
no_start old t (Drop id) o r began asked d = refl
no_start old t (Purge key) o r began asked d = refl
no_start old t (Put key pieces given) o r began asked d = absurd d

-- such an event draws no word
pub Steps-took : (old : State) (s : Stream) (e : Event) (action : Action) (o : Outcome) (new : State) → e.action ≡ action → IsDrawless action → Took old e.moment action o new → StepsBy old s e o new s
Steps-took old s e action o new is drawless took =
    let same : took.0.event.action ≡ action = ap (λ (x : Event). x.action) took.1 in (
      took.0,
      took.1 ∙ ap (λ (a : Action). record { moment = e.moment; action = a }) (sym is),
      took.2,
      took.3,
      took.4,
      subst (λ (m : Option Managed). AreDrawn old m took.0.outcome s s)
          (sym (no_start old took.0.event.moment took.0.event.action took.0.outcome took.0.reading took.0.began took.0.asked (subst IsDrawless (sym same) drawless))) refl,
    )

-- an event that may draw words
pub Steps-drawn : (old : State) (s : Stream) (e : Event) (action : Action) (o : Outcome) (new : State) (rest : Stream) → e.action ≡ action → StepsBy old s (record { moment = e.moment; action = action }) o new rest → StepsBy old s e o new rest
Steps-drawn old s e action o new rest is steps = subst (λ (a : Action). StepsBy old s (record { moment = e.moment; action = a }) o new rest) (sym is) steps

-- what carries each past on keeps the promise
carries-promise : (old : State) (calls : List Call) (new : State) → CarriesPast old calls new → CarriesPromise old calls
carries-promise old calls new carries = λ start past had. Promise-lawful start (extended past calls) (carries start past had).lawful

-- what was drawn by the states was drawn by the rows of each past
pub carries-draws : (old : State) (s : Stream) (calls : List Call) (new : State) (rest : Stream) → AreTaken old calls new → AreAllDrawn old calls s rest → CarriesDraws old calls s rest
carries-draws old s calls new rest taken drawn = λ start past had.
    drawn-by_rows start past calls new s rest had.lawful (subst (λ (x : State). AreTaken x calls new) had.state taken) (subst (λ (x : State). AreAllDrawn x calls s rest) had.state drawn)

-- calls that were taken, with the words that they drew
taken-all : (old : State) (s : Stream) (es : List Event) (os : List Outcome) (calls : List Call) (new : State) (rest : Stream) → AreCallsOf es os calls → AreTaken old calls new → AreAllDrawn old calls s rest
    → Takes old s es os new rest
taken-all old s es os calls new rest are taken drawn = record {
  calls = calls;
  are_of = are;
  taken = taken;
  drawn = drawn;
  promise = carries-promise old calls new (CarriesPast-taken old calls new taken);
  picked = carries-draws old s calls new rest taken drawn;
  past = CarriesPast-taken old calls new taken;
}

-- of a new tier
pub keeps-new : (x : Settings) (new : State) (s : Stream) (es : List Event) (os : List Outcome) (last : State) (rest : Stream) → HasPast (empty_opening x) new [] → Takes new s es os last rest → Keeps x es os s rest
keeps-new x new s es os last rest had takes = (takes.calls, takes.are_of, takes.promise (empty_opening x) [] had, takes.picked (empty_opening x) [] had)

-- one event is one call
pub Takes-step : (old : State) (s : Stream) (e : Event) (o : Outcome) (new : State) (rest : Stream) → StepsBy old s e o new rest → Takes old s (e ∷ []) (o ∷ []) new rest
Takes-step old s e o new rest step = taken-all old s (e ∷ []) (o ∷ []) (step.0 ∷ []) new rest (step.1, step.2, tt) (step.3, step.4) (rest, step.5, refl)

-- the one call of an event that was taken carries each past on, and keeps the promise
pub Takes-one : (old : State) (s : Stream) (e : Event) (o : Outcome) (new : State) (rest : Stream) → Takes old s (e ∷ []) (o ∷ []) new rest
    → (c : Call) × (c.event ≡ e) × (c.outcome ≡ o) × CarriesPast old (c ∷ []) new × CarriesPromise old (c ∷ [])
Takes-one old s e o new rest takes = by_calls takes.calls takes.are_of takes.past takes.promise
  where
    by_calls : (calls : List Call) → AreCallsOf (e ∷ []) (o ∷ []) calls → CarriesPast old calls new → CarriesPromise old calls
        → (c : Call) × (c.event ≡ e) × (c.outcome ≡ o) × CarriesPast old (c ∷ []) new × CarriesPromise old (c ∷ [])
    by_calls [] are past promise = absurd are
    by_calls (c ∷ []) are past promise = (c, are.0, are.1, past, promise)
    by_calls (c ∷ d ∷ calls) are past promise = absurd are.2

-- nothing was taken yet
pub Takes-none : (old : State) (s : Stream) → Takes old s [] [] old s
Takes-none old s = taken-all old s [] [] [] old s tt refl refl

calls-more : (es : List Event) (os : List Outcome) (calls : List Call) (e : Event) (o : Outcome) (c : Call) → AreCallsOf es os calls → c.event ≡ e → c.outcome ≡ o
    → AreCallsOf (es ++ e ∷ []) (os ++ o ∷ []) (calls ++ c ∷ [])
calls-more [] [] [] e o c are is gave = (is, gave, tt)
calls-more (d ∷ es) (p ∷ os) (b ∷ calls) e o c are is gave = (are.0, are.1, calls-more es os calls e o c are.2 is gave)
calls-more [] [] (b ∷ calls) e o c are is gave = absurd are
calls-more [] (p ∷ os) calls e o c are is gave = absurd are
calls-more (d ∷ es) [] calls e o c are is gave = absurd are
calls-more (d ∷ es) (p ∷ os) [] e o c are is gave = absurd are

pub taken-more : (old : State) (calls : List Call) (mid : State) (c : Call) (new : State) → AreTaken old calls mid → Allows mid c → new ≡ after mid c → AreTaken old (calls ++ c ∷ []) new
taken-more old [] mid c new taken allowed is = subst (λ (x : State). AreTaken x (c ∷ []) new) taken (allowed, is)
taken-more old (b ∷ calls) mid c new taken allowed is = (taken.0, taken-more (after old b) calls mid c new taken.1 allowed is)

pub drawn-more : (old : State) (calls : List Call) (mid : State) (c : Call) (s left rest : Stream) → AreTaken old calls mid → AreAllDrawn old calls s left → AreDrawn mid (evicts_from mid c) c.outcome left rest
    → AreAllDrawn old (calls ++ c ∷ []) s rest
drawn-more old [] mid c s left rest taken drawn more =
    (rest, subst (λ (x : State). AreDrawn x (evicts_from x c) c.outcome s rest) taken (subst (λ (x : Stream). AreDrawn mid (evicts_from mid c) c.outcome x rest) drawn more), refl)
drawn-more old (b ∷ calls) mid c s left rest taken drawn more = (drawn.0, drawn.1, drawn-more (after old b) calls mid c drawn.0 left rest taken.1 drawn.2 more)

-- the calls so far, and one event more
Takes-call : (old : State) (s : Stream) (es : List Event) (os : List Outcome) (mid : State) (left : Stream) (e : Event) (o : Outcome) (new : State) (rest : Stream)
    → Takes old s es os mid left → StepsBy mid left e o new rest → Takes old s (es ++ e ∷ []) (os ++ o ∷ []) new rest
Takes-call old s es os mid left e o new rest before step =
    taken-all old s (es ++ e ∷ []) (os ++ o ∷ []) (before.calls ++ step.0 ∷ []) new rest
    (calls-more es os before.calls e o step.0 before.are_of step.1 step.2)
    (taken-more old before.calls mid step.0 new before.taken step.3 step.4)
    (drawn-more old before.calls mid step.0 s left rest before.taken before.drawn step.5)

-- what is taken of one event is a step
pub StepsBy-takes : (old : State) (s : Stream) (e : Event) (o : Outcome) (new : State) (rest : Stream) → Takes old s (e ∷ []) (o ∷ []) new rest → StepsBy old s e o new rest
StepsBy-takes old s e o new rest takes = by_calls takes.calls takes.are_of takes.taken takes.drawn
  where
    by_calls : (calls : List Call) → AreCallsOf (e ∷ []) (o ∷ []) calls → AreTaken old calls new → AreAllDrawn old calls s rest → StepsBy old s e o new rest
    by_calls [] are taken drawn = absurd are
    by_calls (c ∷ []) are taken drawn = (c, are.0, are.1, taken.0, taken.1, subst (λ (x : Stream). AreDrawn old (evicts_from old c) c.outcome s x) (sym drawn.2) drawn.1)
    by_calls (c ∷ d ∷ calls) are taken drawn = absurd are.2

pub Takes-more : (old : State) (s : Stream) (es : List Event) (os : List Outcome) (mid : State) (left : Stream) (e : Event) (o : Outcome) (new : State) (rest : Stream)
    → Takes old s es os mid left → Takes mid left (e ∷ []) (o ∷ []) new rest → Takes old s (es ++ e ∷ []) (os ++ o ∷ []) new rest
Takes-more old s es os mid left e o new rest before step = Takes-call old s es os mid left e o new rest before (StepsBy-takes mid left e o new rest step)

-- ---- calls, and calls after them

calls-join : (es fs : List Event) (os ps : List Outcome) (bs cs : List Call) → AreCallsOf es os bs → AreCallsOf fs ps cs → AreCallsOf (es ++ fs) (os ++ ps) (bs ++ cs)
calls-join [] fs [] ps [] cs a b = b
calls-join (e ∷ es) fs (o ∷ os) ps (c ∷ bs) cs a b = (a.0, a.1, calls-join es fs os ps bs cs a.2 b)
calls-join [] fs [] ps (c ∷ bs) cs a b = absurd a
calls-join [] fs (o ∷ os) ps bs cs a b = absurd a
calls-join (e ∷ es) fs [] ps bs cs a b = absurd a
calls-join (e ∷ es) fs (o ∷ os) ps [] cs a b = absurd a

taken-join : (old : State) (bs cs : List Call) (mid new : State) → AreTaken old bs mid → AreTaken mid cs new → AreTaken old (bs ++ cs) new
taken-join old [] cs mid new a b = subst (λ (x : State). AreTaken x cs new) a b
taken-join old (c ∷ bs) cs mid new a b = (a.0, taken-join (after old c) bs cs mid new a.1 b)

drawn-join : (old : State) (bs cs : List Call) (mid : State) (s left rest : Stream) → AreTaken old bs mid → AreAllDrawn old bs s left → AreAllDrawn mid cs left rest → AreAllDrawn old (bs ++ cs) s rest
drawn-join old [] cs mid s left rest taken drawn more = subst (λ (x : State). AreAllDrawn x cs s rest) taken (subst (λ (w : Stream). AreAllDrawn mid cs w rest) drawn more)
drawn-join old (c ∷ bs) cs mid s left rest taken drawn more = (drawn.0, drawn.1, drawn-join (after old c) bs cs mid drawn.0 left rest taken.1 drawn.2 more)

pub Takes-join : (old : State) (s : Stream) (es : List Event) (os : List Outcome) (mid : State) (left : Stream) (fs : List Event) (ps : List Outcome) (new : State) (rest : Stream)
    → Takes old s es os mid left → Takes mid left fs ps new rest → Takes old s (es ++ fs) (os ++ ps) new rest
Takes-join old s es os mid left fs ps new rest a b =
    taken-all old s (es ++ fs) (os ++ ps) (a.calls ++ b.calls) new rest (calls-join es fs os ps a.calls b.calls a.are_of b.are_of) (taken-join old a.calls b.calls mid new a.taken b.taken)
    (drawn-join old a.calls b.calls mid s left rest a.taken a.drawn b.drawn)
