-- Which requests are open after a hit: those that were. It takes a number of which none is.
use Rattle.std.proofs.Common.{◌≡◌, ◌≤◌, ◌<◌, ℕ, suc, List, [], ◌∷◌, refl, ap, ◌∙◌, true, false, Bool, cond, arith}
use Rattle.std.proofs.lemmas.Bool.Decides.{nat_tests}
use Rattle.std.specs.Prelude.{Option, Some, None, is_some, Result, Ok, Err, max, nat_eq}
use Rattle.std.specs.Ordering.{nat_cmp}
use Rattle.std.specs.Cmp.{unsigned_tied}
use Rattle.std.specs.FinMap.{FinMap, get, entries, find, get-entries}
use Rattle.rand_core.specs.Stream.{Stream}
use Rattle.cache_words.specs.Time.{MomentValue}
use Rattle.cache_words.specs.Key.{CacheKeyValue}
use Rattle.tier_model.specs.declared.event.Event.{Event}
use Rattle.tier_model.specs.declared.event.TierFault.{TierFault}
use Rattle.tier_model.specs.declared.event.Action.TheVariants.{Open, LookUp, Drop}
use Rattle.tier_model.specs.declared.event.Answer.TheVariants as answer
use Rattle.tier_model.specs.Calls.{Call, Outcome, AreCallsOf}
use Rattle.tier_model.specs.State.{State}
use Rattle.tier_model.specs.Past.{AreTaken}
use Rattle.tier_model.specs.After.{after}
use Rattle.tier_model.proofs.CallLaws.{named_by, is_named}
use Rattle.tier_promise.specs.Promise.{Whether}
use Rattle.tier_single.specs.declared.found.Hit.{Hit}
use Rattle.tier_single.specs.Hits.{HitTakes, at_moment, is_of_open}
use Rattle.tier_single.specs.Takes.{Takes}
use Rattle.gateway_state.proofs.Openings.{others-open, no_words}

-- none of the events is that request's
abbrev PassesBy : ℕ → List Event → Type 0
PassesBy y [] = Unit {0}
PassesBy y (e ∷ es) = (is_named y (named_by e.action) ≡ false) × PassesBy y es

passed : (old new : State) (events : List Event) (outcomes : List Outcome) (calls : List Call) (y : ℕ) → AreCallsOf events outcomes calls → AreTaken old calls new → PassesBy y events
    → is_some (get new.requests y) ≡ is_some (get old.requests y)
passed old new [] [] [] y are taken by = ap (λ (s : State). is_some (get s.requests y)) taken
passed old new [] [] (c ∷ cs) y are taken by = absurd are
passed old new [] (o ∷ os) [] y are taken by = absurd are
passed old new [] (o ∷ os) (c ∷ cs) y are taken by = absurd are
passed old new (e ∷ es) [] [] y are taken by = absurd are
passed old new (e ∷ es) [] (c ∷ cs) y are taken by = absurd are
passed old new (e ∷ es) (o ∷ os) [] y are taken by = absurd are
passed old new (e ∷ es) (o ∷ os) (c ∷ cs) y are taken by =
    passed (after old c) new es os cs y are.2 taken.1 by.1
    ∙ others-open old (after old c) e.moment e.action o (record { call = c; event_is = are.0; outcome_is = are.1; allowed = taken.0; new_is = refl }) y by.0

-- ==== a number of which none is open, and another than a given one

abbrev above : {X : Type 0} → List (ℕ × X) → ℕ
above [] = 0
above (e ∷ es) = max (suc e.0) (above es)

apart : (n k : ℕ) → k < n → nat_eq n k ≡ false
apart n k h = grind (arith, nat_tests)

not-found : {X : Type 0} (es : List (ℕ × X)) (n : ℕ) → above es ≤ n → find nat_cmp n es ≡ None
not-found [] n h = refl
not-found (e ∷ es) n h =
    let below : e.0 < n = omega (arith, h) in
    let rest : above es ≤ n = omega (arith, h) in
    ap (λ t. cond t (Some e.1) (find nat_cmp n es)) (unsigned_tied n e.0 ∙ apart n e.0 below) ∙ not-found es n rest

abbrev free : {X : Type 0} → FinMap nat_cmp X → ℕ → ℕ
free m y = max (suc y) (above (entries m))

is-free : {X : Type 0} (m : FinMap nat_cmp X) (y : ℕ) → get m (free m y) ≡ None
is-free m y = get-entries m (free m y) ∙ not-found (entries m) (free m y) (omega arith)

is-other : {X : Type 0} (m : FinMap nat_cmp X) (y : ℕ) → is_named y (Some (free m y)) ≡ false
is-other m y = apart (free m y) y (omega arith)

-- ==== a hit

pub hit-keeps : (old new : State) (t : MomentValue) (key : CacheKeyValue) (came : Result (Option Hit) TierFault)
    → ((id : ℕ) (s : Stream) → get old.requests id ≡ None → HitTakes old s t id key came new) → (y : ℕ) → is_some (get new.requests y) ≡ is_some (get old.requests y)
hit-keeps old new t key came takes y = by came (takes (free old.requests y) no_words (is-free old.requests y))
  where
    other : is_named y (Some (free old.requests y)) ≡ false
    other = is-other old.requests y

    all : (events : List Event) (outcomes : List Outcome) → Takes old no_words events outcomes new no_words → PassesBy y events → is_some (get new.requests y) ≡ is_some (get old.requests y)
    all events outcomes took pass = passed old new events outcomes took.calls y took.are_of took.taken pass

    by : (r : Result (Option Hit) TierFault) → HitTakes old no_words t (free old.requests y) key r new → is_some (get new.requests y) ≡ is_some (get old.requests y)
    by (Ok (Some h)) took = all _ _ took (other, (other, (other, (other, tt))))
    by (Ok None) same = ap (λ (s : State). is_some (get s.requests y)) same
    by (Err f) took = refused f (is_of_open f) took
      where
        refused : (f : TierFault) (b : Bool)
            → Whether b (Takes old no_words (at_moment t (Open (free old.requests y) key false) ∷ []) (Err f ∷ []) new no_words)
            (Takes old no_words (at_moment t (Open (free old.requests y) key false) ∷ at_moment t (LookUp (free old.requests y)) ∷ at_moment t (Drop (free old.requests y)) ∷ [])
            (Ok answer.Opened ∷ Err f ∷ Ok answer.Dropped ∷ []) new no_words)
            → is_some (get new.requests y) ≡ is_some (get old.requests y)
        refused f true took = all _ _ took (other, tt)
        refused f false took = all _ _ took (other, (other, (other, tt)))
