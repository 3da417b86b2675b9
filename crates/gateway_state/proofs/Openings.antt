-- Which requests are open after an event of the tier.
use Rattle.std.proofs.Common.{◌≡◌, ◌≢◌, ℕ, List, [], ◌∷◌, refl, ap, sym, ◌∙◌, subst, true, false, Bool, cond, inl, inr}
use Rattle.std.specs.Prelude.{Option, Some, None, ◌||◌, is_ok, is_some, option_map, Result, Ok, Err, IfOk, ◌==◌, pos}
use Rattle.std.specs.FinMap.{get}
use Rattle.rand_core.specs.Stream.{Stream}
use Rattle.cache_words.specs.Time.{MomentValue, from_seconds}
use Rattle.tier_model.specs.declared.event.Event.{Event}
use Rattle.tier_model.specs.declared.event.Action.{Action}
use Rattle.tier_model.specs.declared.event.Action.TheVariants.{Open, LookUp, Poll, Begin, Revalidate, Piece, Finish, Read, Drop, Purge, Put}
use Rattle.tier_model.specs.declared.event.TierFault.{TierFault}
use Rattle.cache_words.specs.Key.{CacheKeyValue}
use Rattle.tier_model.specs.declared.event.Answer.TheVariants as answer
use Rattle.tier_model.specs.Calls.{Call, Outcome, AreCallsOf}
use Rattle.tier_model.specs.Response.{Judged}
use Rattle.tier_model.specs.State.{Request, State}
use Rattle.tier_model.specs.Past.{AreTaken}
use Rattle.tier_model.specs.Checks.{refusal}
use Rattle.tier_model.specs.Step.{Allows, AllowsBy, IsFault}
use Rattle.tier_model.specs.After.{after}
use Rattle.tier_model.proofs.CallLaws.{named_by, is_named, turn, judged_for, requests-after, itself as same}
use Rattle.tier_single.specs.GivesUp.{last_moment}
use Rattle.tier_single.specs.Hits.{at_moment}
use Rattle.tier_single.specs.Takes.{Takes}
use Rattle.gateway_state.specs.AtTier.{TakesAt, TakesAnytime}
use Rattle.gateway_state.specs.Openings.{keeps_open}

is_some-map : {X Y : Type 0} (f : X → Y) (o : Option X) → is_some (option_map f o) ≡ is_some o
is_some-map f None = refl
is_some-map f (Some x) = refl

-- an event that neither opens nor ends a request leaves it open, or not
turn-keeps : (s : State) (t : MomentValue) (a : Action) (j : Option Judged) (o : Outcome) (q : Option Request) → keeps_open a ≡ true → is_some (turn s t a j o q) ≡ is_some q
turn-keeps s t (Open id key asks) j o q e = absurd cc
turn-keeps s t (LookUp id) j (Ok a) q e = is_some-map _ q
turn-keeps s t (LookUp id) j (Err f) q e = refl
turn-keeps s t (Poll id) j (Ok answer.Opened) q e = refl
turn-keeps s t (Poll id) j (Ok (answer.Found a b c)) q e = refl
turn-keeps s t (Poll id) j (Ok (answer.Absent a)) q e = refl
turn-keeps s t (Poll id) j (Ok (answer.Waited a)) q e = is_some-map _ q
turn-keeps s t (Poll id) j (Ok answer.Begun) q e = refl
turn-keeps s t (Poll id) j (Ok answer.Written) q e = refl
turn-keeps s t (Poll id) j (Ok (answer.Bytes a)) q e = refl
turn-keeps s t (Poll id) j (Ok answer.Pending) q e = refl
turn-keeps s t (Poll id) j (Ok answer.End) q e = refl
turn-keeps s t (Poll id) j (Ok answer.Dropped) q e = refl
turn-keeps s t (Poll id) j (Ok (answer.Purged a)) q e = refl
turn-keeps s t (Poll id) j (Ok (answer.Finished a b)) q e = refl
turn-keeps s t (Poll id) j (Ok (answer.Uncacheable a)) q e = refl
turn-keeps s t (Poll id) j (Ok (answer.Revalidated a)) q e = refl
turn-keeps s t (Poll id) j (Err f) q e = refl
turn-keeps s t (Begin id head given) j (Ok a) q e = is_some-map _ q
turn-keeps s t (Begin id head given) j (Err f) q e = refl
turn-keeps s t (Revalidate id head given) j (Ok a) q e = is_some-map _ q
turn-keeps s t (Revalidate id head given) j (Err f) q e = is_some-map _ q
turn-keeps s t (Piece id bytes last) j (Ok a) q e = refl
turn-keeps s t (Piece id bytes last) j (Err f) q e = refl
turn-keeps s t (Finish id) j (Ok a) q e = is_some-map _ q
turn-keeps s t (Finish id) j (Err f) q e = is_some-map _ q
turn-keeps s t (Read id) j (Ok a) q e = is_some-map _ q
turn-keeps s t (Read id) j (Err f) q e = refl
turn-keeps s t (Drop id) j o q e = absurd cc
turn-keeps s t (Purge key) j (Ok a) q e = refl
turn-keeps s t (Purge key) j (Err f) q e = refl
turn-keeps s t (Put key pieces given) j (Ok a) q e = refl
turn-keeps s t (Put key pieces given) j (Err f) q e = refl

-- the one call of an event
pub record One (old : State) (event : Event) (outcome : Outcome) (new : State) : Type 0 where
  pub call : Call
  pub event_is : call.event ≡ event
  pub outcome_is : call.outcome ≡ outcome
  pub allowed : Allows old call
  pub new_is : new ≡ after old call

one-of : (old new : State) (event : Event) (outcome : Outcome) (calls : List Call) → AreCallsOf (event ∷ []) (outcome ∷ []) calls → AreTaken old calls new → One old event outcome new
one-of old new event outcome [] are taken = absurd are
one-of old new event outcome (c ∷ []) are taken = record { call = c; event_is = are.0; outcome_is = are.1; allowed = taken.0; new_is = taken.1 }
one-of old new event outcome (c ∷ d ∷ ds) are taken = absurd are.2

pub one : (old new : State) (s rest : Stream) (event : Event) (outcome : Outcome) → Takes old s (event ∷ []) (outcome ∷ []) new rest → One old event outcome new
one old new s rest event outcome t = one-of old new event outcome t.calls t.are_of t.taken

-- what stands under a number after one event
named-after : (old new : State) (t : MomentValue) (a : Action) (o : Outcome) (x : One old (at_moment t a) o new) (y : ℕ)
    → get new.requests y ≡ cond (is_named y (named_by a)) (turn old t a (judged_for old x.call) o (get old.requests y)) (get old.requests y)
named-after old new t a o x y =
    ap (λ (s : State). get s.requests y) x.new_is ∙ requests-after old x.call y
    ∙ ap (λ (e : Event). cond (is_named y (named_by e.action)) (turn old e.moment e.action (judged_for old x.call) x.call.outcome (get old.requests y)) (get old.requests y)) x.event_is
    ∙ ap (λ (u : Outcome). cond (is_named y (named_by a)) (turn old t a (judged_for old x.call) u (get old.requests y)) (get old.requests y)) x.outcome_is

pub kept-open : (old new : State) (t : MomentValue) (a : Action) (o : Outcome) → One old (at_moment t a) o new → keeps_open a ≡ true → (y : ℕ) → is_some (get new.requests y) ≡ is_some (get old.requests y)
kept-open old new t a o x keeps y = ap is_some (named-after old new t a o x y) ∙ by (is_named y (named_by a))
  where
    by : (n : Bool) → is_some (cond n (turn old t a (judged_for old x.call) o (get old.requests y)) (get old.requests y)) ≡ is_some (get old.requests y)
    by true = turn-keeps old t a (judged_for old x.call) o (get old.requests y) keeps
    by false = refl

pub others-open : (old new : State) (t : MomentValue) (a : Action) (o : Outcome) → One old (at_moment t a) o new → (y : ℕ) → is_named y (named_by a) ≡ false → is_some (get new.requests y) ≡ is_some (get old.requests y)
others-open old new t a o x y apart =
    ap is_some (named-after old new t a o x y) ∙ ap (λ (n : Bool). is_some (cond n (turn old t a (judged_for old x.call) o (get old.requests y)) (get old.requests y))) apart

-- ==== an opening, an end

itself : (x : ℕ) → is_named x (Some x) ≡ true
itself x = same x

pub opened : (old new : State) (t : MomentValue) (x : ℕ) (key : CacheKeyValue) (lock : Bool) (o : Outcome) → One old (at_moment t (Open x key lock)) o new
    → is_some (get new.requests x) ≡ (is_ok o || is_some (get old.requests x))
opened old new t x key lock (Ok a) one =
    ap is_some (named-after old new t (Open x key lock) (Ok a) one x)
    ∙ ap (λ (n : Bool). is_some (cond n (turn old t (Open x key lock) (judged_for old one.call) (Ok a) (get old.requests x)) (get old.requests x))) (itself x)
opened old new t x key lock (Err f) one =
    ap is_some (named-after old new t (Open x key lock) (Err f) one x)
    ∙ ap (λ (n : Bool). is_some (cond n (turn old t (Open x key lock) (judged_for old one.call) (Err f) (get old.requests x)) (get old.requests x))) (itself x)

allowed-as : (old : State) (c : Call) (t : MomentValue) (a : Action) (o : Outcome) → c.event ≡ at_moment t a → c.outcome ≡ o
    → AllowsBy (refusal old c.event.action) old c.event.moment c.event.action c c.outcome → AllowsBy (refusal old a) old t a c o
allowed-as old c t a o e f h =
    let of_event : AllowsBy (refusal old a) old t a c c.outcome = subst (λ (u : Event). AllowsBy (refusal old u.action) old u.moment u.action c c.outcome) e h in
    subst (λ (u : Outcome). AllowsBy (refusal old a) old t a c u) f of_event

-- a request that is open may always be ended
never-kept : (old : State) (c : Call) (t : MomentValue) (x : ℕ) (f : TierFault) (q : Option Request) → get old.requests x ≡ q → AllowsBy (refusal old (Drop x)) old t (Drop x) c (Err f) → q ≡ None
never-kept old c t x f None is h = refl
never-kept old c t x f (Some q) is h = absurd (by (rw is at h))
  where
    by : IsFault old t (Drop x) c f → ⊥
    by (inl p) = p.1
    by (inr p) = p

pub ended : (old new : State) (t : MomentValue) (x : ℕ) (o : Outcome) → One old (at_moment t (Drop x)) o new → is_some (get new.requests x) ≡ false
ended old new t x (Ok a) one =
    ap is_some (named-after old new t (Drop x) (Ok a) one x)
    ∙ ap (λ (n : Bool). is_some (cond n (turn old t (Drop x) (judged_for old one.call) (Ok a) (get old.requests x)) (get old.requests x))) (itself x)
ended old new t x (Err f) one =
    ap is_some (named-after old new t (Drop x) (Err f) one x)
    ∙ ap (λ (n : Bool). is_some (cond n (turn old t (Drop x) (judged_for old one.call) (Err f) (get old.requests x)) (get old.requests x))) (itself x)
    ∙ ap is_some (never-kept old one.call t x f (get old.requests x) refl (allowed-as old one.call t (Drop x) (Err f) one.event_is one.outcome_is one.allowed.outcome))

-- any words
pub no_words : Stream
no_words = record { u32_after = λ cs. 0; u64_after = λ cs. 0; bytes_after = λ cs n. [] }

abbrev pub first_moment : MomentValue
first_moment = from_seconds (pos 0)

-- ==== a call that the tier took

pub keeps : (old new : State) (a : Action) (o : Outcome) → TakesAnytime a old o new → keeps_open a ≡ true → (y : ℕ) → is_some (get new.requests y) ≡ is_some (get old.requests y)
keeps old new a o took e y = kept-open old new first_moment a o (one old new no_words no_words _ o (took first_moment no_words)) e y

pub keeps-at : (old new : State) (t : MomentValue) (a : Action) (s rest : Stream) (o : Outcome) → TakesAt t a s rest old o new → keeps_open a ≡ true
    → (y : ℕ) → is_some (get new.requests y) ≡ is_some (get old.requests y)
keeps-at old new t a s rest o took e y = kept-open old new t a o (one old new s rest _ o took) e y

-- a look-up at which nothing is fresh: of a request that asks for the permit it is refused
pub looks-past : (old new : State) (x : ℕ) (o : Outcome) → (option_map (λ q. q.asks) (get old.requests x) ≡ Some true → new ≡ old)
    → (option_map (λ q. q.asks) (get old.requests x) ≢ Some true → (s : Stream) → Takes old s (at_moment last_moment (LookUp x) ∷ []) (o ∷ []) new s)
    → (y : ℕ) → is_some (get new.requests y) ≡ is_some (get old.requests y)
looks-past old new x o locked takes y = by (option_map (λ q. q.asks) (get old.requests x)) refl
  where
    by : (a : Option Bool) → option_map (λ q. q.asks) (get old.requests x) ≡ a → is_some (get new.requests y) ≡ is_some (get old.requests y)
    by None e = keeps-at old new last_moment (LookUp x) no_words no_words o (takes (λ h. let never : None ≡ Some true = sym e ∙ h in absurd cc) no_words) refl y
    by (Some false) e = keeps-at old new last_moment (LookUp x) no_words no_words o (takes (λ h. let never : Some false ≡ Some true = sym e ∙ h in absurd cc) no_words) refl y
    by (Some true) e = ap (λ (s : State). is_some (get s.requests y)) (locked e)

pub opens : (old new : State) (x : ℕ) (key : CacheKeyValue) (lock : Bool) (o : Outcome) → TakesAnytime (Open x key lock) old o new → is_some (get new.requests x) ≡ (is_ok o || is_some (get old.requests x))
opens old new x key lock o took = opened old new first_moment x key lock o (one old new no_words no_words _ o (took first_moment no_words))

pub opens-no-other : (old new : State) (x : ℕ) (key : CacheKeyValue) (lock : Bool) (o : Outcome) → TakesAnytime (Open x key lock) old o new → (y : ℕ) → (x == y) ≡ false
    → is_some (get new.requests y) ≡ is_some (get old.requests y)
opens-no-other old new x key lock o took y apart = others-open old new first_moment (Open x key lock) o (one old new no_words no_words _ o (took first_moment no_words)) y apart

pub ends : (old new : State) (x : ℕ) (o : Outcome) → TakesAnytime (Drop x) old o new → is_some (get new.requests x) ≡ false
ends old new x o took = ended old new first_moment x o (one old new no_words no_words _ o (took first_moment no_words))

pub ends-no-other : (old new : State) (x : ℕ) (o : Outcome) → TakesAnytime (Drop x) old o new → (y : ℕ) → (x == y) ≡ false → is_some (get new.requests y) ≡ is_some (get old.requests y)
ends-no-other old new x o took y apart = others-open old new first_moment (Drop x) o (one old new no_words no_words _ o (took first_moment no_words)) y apart

-- whether it was opened, as its caller is told
pub shown-opened : {E : Type 0} (r : Result Bool E) (o n q : Bool) → IfOk r (λ a. a ≡ o) → n ≡ (o || q) → IfOk r (λ ok. n ≡ (ok || q))
shown-opened (Ok a) o n q is h = h ∙ ap (λ (b : Bool). b || q) (sym is)
shown-opened (Err e) o n q is h = tt
