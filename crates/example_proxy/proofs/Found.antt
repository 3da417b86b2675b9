-- What taken calls say to a proxy.
use Rattle.std.proofs.Common.{◌≡◌, ℕ, sym, ap, subst, true, false, [], ◌∷◌}
use Rattle.std.specs.Prelude.{Bool, List, Option, Some, None, option_map, Ok, Err}
use Rattle.rand_core.specs.Stream.{Stream}
use Rattle.cache_words.specs.Time.{MomentValue}
use Rattle.cache_words.specs.Key.{CacheKeyValue}
use Rattle.tier_model.specs.declared.event.Event.{Event}
use Rattle.tier_model.specs.declared.event.TierFault.{TierFault}
use Rattle.tier_model.specs.Calls.{Call, Outcome, AreCallsOf}
use Rattle.tier_model.specs.Keys.{stored_key_of}
use Rattle.tier_model.specs.State.{State}
use Rattle.tier_model.specs.Past.{HasPast, CarriesPast}
use Rattle.tier_promise.specs.Promise.{Whether}
use Rattle.tier_single.specs.Hits.{HitTakes, IsHitOf, body_in, is_of_open}
use Rattle.tier_single.specs.declared.found.Hit.{Hit}
use Rattle.tier_single.specs.Takes.{Takes, CarriesPromise}
use Rattle.example_proxy.specs.Finds.{Answers, Tells, IsFind}

-- the tier took one event
pub answers-taken : (old : State) (s : Stream) (e : Event) (o : Outcome) (new : State) (rest : Stream) → Takes old s (e ∷ []) (o ∷ []) new rest → Answers old e o new
answers-taken old s e o new rest takes = by_calls takes.calls takes.are_of takes.past takes.promise
  where
    by_calls : (calls : List Call) → AreCallsOf (e ∷ []) (o ∷ []) calls → CarriesPast old calls new → CarriesPromise old calls → Answers old e o new
    by_calls [] are carries keeps = absurd are
    by_calls (c ∷ []) are carries keeps = λ start past h. (c, are.0, are.1, carries start past h, keeps start past h)
    by_calls (c ∷ d ∷ more) are carries keeps = absurd are.2

-- ---- a hit

finds-one : (old new : State) (s : Stream) (t : MomentValue) (id : ℕ) (key : CacheKeyValue) (h : Hit) → HitTakes old s t id key (Ok (Some h)) new
    → IsHitOf old t (stored_key_of key) (Some (body_in h)) → Tells (IsFind t key) old (Ok (Some h.body)) new
finds-one old new s t id key h takes hit = λ start past has. (takes.calls, takes.past start past has, ap (λ b. option_map (λ x. x.bytes) b) (hit start past has))

finds-nothing : (old new : State) (s : Stream) (t : MomentValue) (id : ℕ) (key : CacheKeyValue) → HitTakes old s t id key (Ok None) new
    → IsHitOf old t (stored_key_of key) None → Tells (IsFind t key) old (Ok None) new
finds-nothing old new s t id key same hit = λ start past has. ([], subst (λ (x : State). HasPast start x past) (sym same) has, ap (λ b. option_map (λ x. x.bytes) b) (hit start past has))

pub finds-some : (old new : State) (s : Stream) (t : MomentValue) (id : ℕ) (key : CacheKeyValue) (o : Option Hit) (h : Hit) → o ≡ Some h → HitTakes old s t id key (Ok o) new
    → IsHitOf old t (stored_key_of key) (option_map body_in o) → Tells (IsFind t key) old (Ok (Some h.body)) new
finds-some old new s t id key o h is takes hit = finds-one old new s t id key h (subst (λ (x : Option Hit). HitTakes old s t id key (Ok x) new) is takes)
    (subst (λ (x : Option Hit). IsHitOf old t (stored_key_of key) (option_map body_in x)) is hit)

pub finds-none : (old new : State) (s : Stream) (t : MomentValue) (id : ℕ) (key : CacheKeyValue) (o : Option Hit) → o ≡ None → HitTakes old s t id key (Ok o) new
    → IsHitOf old t (stored_key_of key) (option_map body_in o) → Tells (IsFind t key) old (Ok None) new
finds-none old new s t id key o is takes hit = finds-nothing old new s t id key (subst (λ (x : Option Hit). HitTakes old s t id key (Ok x) new) is takes)
    (subst (λ (x : Option Hit). IsHitOf old t (stored_key_of key) (option_map body_in x)) is hit)

-- it made one call or three
by_open : (old new : State) (s : Stream) (t : MomentValue) (key : CacheKeyValue) (f : TierFault) (e e' : List Event) (o o' : List Outcome) (b : Bool)
    → Whether b (Takes old s e o new s) (Takes old s e' o' new s) → Tells (IsFind t key) old (Err f) new
by_open old new s t key f e e' o o' true takes = λ start past has. (takes.calls, takes.past start past has)
by_open old new s t key f e e' o o' false takes = λ start past has. (takes.calls, takes.past start past has)

pub finds-fault : (old new : State) (s : Stream) (t : MomentValue) (id : ℕ) (key : CacheKeyValue) (f : TierFault) → HitTakes old s t id key (Err f) new → Tells (IsFind t key) old (Err f) new
finds-fault old new s t id key f takes = by_open old new s t key f _ _ _ _ (is_of_open f) takes

-- any words: a hit draws none
abbrev pub no_words : Stream
no_words = record { u32_after = λ cs. 0; u64_after = λ cs. 0; bytes_after = λ cs n. [] }
