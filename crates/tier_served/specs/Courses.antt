-- The events by which a request is served, with their outcomes, and what is answered to them.
use Rattle.std.specs.Prelude.{◌≡◌, ◌<◌, ℕ, ◌^◌, Bool, true, false, ◌&&◌, ◌⊎◌, List, [], ◌∷◌, None, is_some, Result, Ok, Err}
use Rattle.std.specs.FinMap.{get}
use Rattle.rand_core.specs.Stream.{Stream}
use Rattle.cache_words.specs.Time.{MomentValue}
use Rattle.cache_words.specs.Key.{CacheKeyValue}
use Rattle.tier_model.specs.declared.event.Event.{Event}
use Rattle.tier_model.specs.declared.event.Action.TheVariants.{Open, LookUp, Read, Drop, Purge, Put}
use Rattle.tier_model.specs.declared.event.Answer.{Answer}
use Rattle.tier_model.specs.declared.event.Answer.TheVariants.{Opened, Found, Bytes, Dropped, Finished, Uncacheable, Purged}
use Rattle.tier_model.specs.declared.event.LockGiven.TheVariants as lock
use Rattle.tier_model.specs.declared.event.TierFault.{TierFault}
use Rattle.tier_model.specs.declared.event.TierFault.TheVariants.{IdInUse}
use Rattle.tier_model.specs.Calls.{Outcome}
use Rattle.tier_model.specs.State.{State}
use Rattle.tier_requests.specs.Faults.{out_of_memory}
use Rattle.tier_single.specs.Takes.{Takes}
use Rattle.tier_served.specs.Requests.{event_at}
use Rattle.tier_served.specs.declared.request.Method.{Method}
use Rattle.tier_served.specs.declared.request.Method.TheVariants as method
use Rattle.tier_served.specs.declared.request.Served.{Served}
use Rattle.tier_served.specs.declared.request.Served.TheVariants.{Hit, Filled, Passed}
use Rattle.tier_served.specs.declared.request.Served.TheVariants as served

-- a look-up found the key
abbrev pub is_found : Answer → Bool
is_found (Found fresh complete given) = true
is_found _ = false

-- and all of a body that is fresh; what is found of a write in flight isn't all
abbrev pub is_hit : Answer → Bool
is_hit (Found fresh complete given) = fresh && complete
is_hit _ = false

-- how a get goes that was opened
pub data Course : Type 0 where
  -- its look-up was refused
  unseen : TierFault → Course
  -- its look-up found a fresh and complete body, of these bytes
  hit : List ℕ → Course
  -- its look-up was answered so, and there was no memory for the event of a put
  unfilled : Answer → Course
  -- its look-up was answered so, and the put had that outcome
  filled : Answer → Outcome → Course

-- no request asks for the lock
abbrev pub events_of : MomentValue → CacheKeyValue → List ℕ → ℕ → Course → List Event
events_of t key response id (unseen f) = event_at t (Open id key false) ∷ event_at t (LookUp id) ∷ event_at t (Drop id) ∷ []
events_of t key response id (hit body) = event_at t (Open id key false) ∷ event_at t (LookUp id) ∷ event_at t (Read id) ∷ event_at t (Drop id) ∷ []
events_of t key response id (unfilled a) = event_at t (Open id key false) ∷ event_at t (LookUp id) ∷ event_at t (Drop id) ∷ []
events_of t key response id (filled a o) = event_at t (Open id key false) ∷ event_at t (LookUp id) ∷ event_at t (Drop id) ∷ event_at t (Put key (response ∷ []) None) ∷ []

abbrev pub outcomes_of : Course → List Outcome
outcomes_of (unseen f) = Ok Opened ∷ Err f ∷ Ok Dropped ∷ []
outcomes_of (hit body) = Ok Opened ∷ Ok (Found true true lock.None) ∷ Ok (Bytes body) ∷ Ok Dropped ∷ []
outcomes_of (unfilled a) = Ok Opened ∷ Ok a ∷ Ok Dropped ∷ []
outcomes_of (filled a o) = Ok Opened ∷ Ok a ∷ Ok Dropped ∷ o ∷ []

-- what is answered to a put, by whether the look-up found the key
abbrev pub IsPutTold : Bool → Outcome → Result Served TierFault → Type 0
IsPutTold found (Ok (Finished n evicted)) told = told ≡ Ok (Filled found n evicted)
IsPutTold found (Ok (Uncacheable reason)) told = told ≡ Ok (Passed found reason)
IsPutTold found (Ok _) told = ⊥
IsPutTold found (Err f) told = told ≡ Err f

-- what is answered to a get. A put comes only where no fresh and complete body was found
abbrev pub IsTold : Course → Result Served TierFault → Type 0
IsTold (unseen f) told = told ≡ Err f
IsTold (hit body) told = told ≡ Ok (Hit body)
IsTold (unfilled a) told = (is_hit a ≡ false) × (told ≡ Err out_of_memory)
IsTold (filled a o) told = (is_hit a ≡ false) × IsPutTold (is_found a) o told

-- each number has an open request
abbrev pub AreAllOpen : State → Type 0
AreAllOpen s = (id : ℕ) → id < 2 ^ 64 → is_some (get s.requests id) ≡ true

-- a get could not be opened, and nothing was done: for memory, or since each number has an open request
abbrev pub IsUnopened : State → Stream → TierFault → State → Stream → Type 0
IsUnopened old s f new rest = (new ≡ old) × (rest ≡ s) × ((f ≡ out_of_memory) ⊎ ((f ≡ IdInUse) × AreAllOpen old))

-- a get took its events under a number of which no request was open
pub record Gets (old : State) (s : Stream) (t : MomentValue) (key : CacheKeyValue) (response : List ℕ) (told : Result Served TierFault) (new : State) (rest : Stream) : Type 0 where
  pub id : ℕ
  pub free : get old.requests id ≡ None
  pub course : Course
  pub takes : Takes old s (events_of t key response id course) (outcomes_of course) new rest
  pub is_told : IsTold course told

-- a request took its events, with the words from s to rest
abbrev pub TakesBy : Method → State → Stream → MomentValue → CacheKeyValue → Result Served TierFault → State → Stream → Type 0
TakesBy (method.Get response) old s t key told new rest = ((f : TierFault) × (told ≡ Err f) × IsUnopened old s f new rest) ⊎ Gets old s t key response told new rest
TakesBy method.Purge old s t key told new rest =
    ((told ≡ Err out_of_memory) × (new ≡ old) × (rest ≡ s))
    ⊎ ((found : Bool) × (told ≡ Ok (served.Purged found)) × Takes old s (event_at t (Purge key) ∷ []) (Ok (Purged found) ∷ []) new rest)
