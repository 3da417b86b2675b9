-- What the steps of a get answer and leave. It serves private contracts.
use Rattle.std.specs.Prelude.{◌≡◌, ◌<◌, ◌^◌, ℕ, Bool, true, false, ◌&&◌, ◌⊎◌, List, [], ◌∷◌, Option, Some, None, is_some, Result, Ok, Err, ⊤}
use Rattle.std.specs.FinMap.{get}
use Rattle.rand_core.specs.Stream.{Stream}
use Rattle.cache_words.specs.Time.{MomentValue}
use Rattle.cache_words.specs.Key.{CacheKeyValue}
use Rattle.cache_lock.specs.State.{after_all}
use Rattle.tier_model.specs.declared.event.Action.TheVariants.{Open, LookUp, Read, Drop, Put}
use Rattle.tier_model.specs.declared.event.Answer.{Answer}
use Rattle.tier_model.specs.declared.event.Answer.TheVariants.{Opened, Found, Bytes, Dropped, Finished, Uncacheable}
use Rattle.tier_model.specs.declared.event.LockGiven.TheVariants as lock
use Rattle.tier_model.specs.declared.event.TierFault.{TierFault}
use Rattle.tier_model.specs.declared.event.TierFault.TheVariants.{IdInUse}
use Rattle.tier_model.specs.Calls.{Outcome}
use Rattle.tier_model.specs.Keys.{Entry, entry_of}
use Rattle.tier_model.specs.Rows.{Numbered}
use Rattle.tier_model.specs.Shelf.{finished, is_there}
use Rattle.tier_model.specs.State.{nothing, closed, unread, spent, Request, State}
use Rattle.tier_model.specs.Answers.{is_fresh}
use Rattle.tier_model.specs.After.{opened_request, with_request, without_request, reader_of, turned, leave_of}
use Rattle.tier_single.specs.Takes.{Takes}
use Rattle.tier_served.specs.Requests.{event_at}
use Rattle.tier_requests.specs.Faults.{out_of_memory}
use Rattle.tier_served.specs.Courses.{is_found, is_hit, IsPutTold, IsUnopened}
use Rattle.tier_served.specs.Leaves.{found_at, gives_hit, joined_by, looked_up}
use Rattle.tier_served.specs.declared.look_ups.Looked.{Looked}
use Rattle.tier_served.specs.declared.look_ups.Looked.TheVariants.{Fresh, Missed}
use Rattle.tier_served.specs.declared.request.Served.{Served}

-- a request that was opened for an entry, and asks for no lock
abbrev pub opened_for : State → Entry → Request
opened_for s e = opened_request s.wait e false

-- it is open under that number, and did nothing yet
abbrev pub IsNew : State → ℕ → Entry → Type 0
IsNew s id e = get s.requests id ≡ Some (opened_for s e)

abbrev pub IsOpened : State → Stream → MomentValue → CacheKeyValue → ℕ → State → Stream → Type 0
IsOpened old s t key id new rest =
    (get old.requests id ≡ None) × (new ≡ with_request id (opened_for old (entry_of key)) old) × Takes old s (event_at t (Open id key false) ∷ []) (Ok Opened ∷ []) new rest

-- a request was opened under a number, or nothing was done
abbrev pub OpensAt : State → Stream → MomentValue → CacheKeyValue → ℕ → Result ⊤ TierFault → State → Stream → Type 0
OpensAt old s t key id (Ok _) new rest = IsOpened old s t key id new rest
OpensAt old s t key id (Err f) new rest = (new ≡ old) × (rest ≡ s) × ((f ≡ out_of_memory) ⊎ ((f ≡ IdInUse) × (is_some (get old.requests id) ≡ true)))

abbrev pub Opens : State → Stream → MomentValue → CacheKeyValue → Result ℕ TierFault → State → Stream → Type 0
Opens old s t key (Ok id) new rest = IsOpened old s t key id new rest
Opens old s t key (Err f) new rest = IsUnopened old s f new rest

-- a request of the number is open already
abbrev pub is_in_use : TierFault → Bool
is_in_use IdInUse = true
is_in_use _ = false

-- a request is open of each greater number
abbrev pub AreOpenAbove : State → ℕ → Type 0
AreOpenAbove s id = (j : ℕ) → id < j → j < 2 ^ 64 → is_some (get s.requests j) ≡ true

-- whether a look-up found all of a fresh body; nothing where it found nothing
abbrev pub hit_of : Answer → Option Bool
hit_of (Found fresh complete given) = Some (fresh && complete)
hit_of _ = None

-- a put that isn't refused is answered so
abbrev pub IsAnswerOfPut : Answer → Type 0
IsAnswerOfPut (Finished n evicted) = Unit {0}
IsAnswerOfPut (Uncacheable reason) = Unit {0}
IsAnswerOfPut _ = ⊥

-- the request has all of these bytes to read
abbrev pub IsUnread : State → ℕ → List ℕ → Type 0
IsUnread s id bytes = (q : Request) × (get s.requests id ≡ Some q) × (q.reader ≡ unread bytes)

-- all was read
abbrev pub Reads : State → Stream → MomentValue → ℕ → List ℕ → State → Stream → Type 0
Reads old s t id body new rest =
    (q : Request) × (get old.requests id ≡ Some q) × (q.reader ≡ unread body) × (new ≡ with_request id (record q { reader = spent }) old)
    × Takes old s (event_at t (Read id) ∷ []) (Ok (Bytes body) ∷ []) new rest

-- a look-up that was answered: the request has another phase, and a reader, which goes with it as one of what was found does; no permit, no wait and no write
pub record IsLooked (old : State) (id : ℕ) (e : Entry) (new : State) : Type 0 where
  pub request : Request
  pub held : request.held ≡ nothing
  pub write : request.write ≡ None
  pub reader : turned request.reader closed (joined_by (found_at e old) old.shelf) ≡ turned (reader_of (found_at e old)) closed (joined_by (found_at e old) old.shelf)
  pub state : new ≡ with_request id request (record (looked_up old e (found_at e old)) { shelf = joined_by (found_at e old) old.shelf })

-- the look-up of a request that was opened for an entry
abbrev pub Looks : State → Stream → MomentValue → ℕ → Entry → Result Looked TierFault → State → Stream → Type 0
Looks old s t id e (Ok (Fresh body)) new rest =
    ((x : Numbered) × (found_at e old ≡ finished x) × (is_fresh t x.body.meta ≡ true) × (body ≡ x.body.bytes)) × IsLooked old id e new
    × Takes old s (event_at t (LookUp id) ∷ event_at t (Read id) ∷ []) (Ok (Found true true lock.None) ∷ Ok (Bytes body) ∷ []) new rest
Looks old s t id e (Ok (Missed found)) new rest =
    (found ≡ is_there (found_at e old)) × (gives_hit t (found_at e old) ≡ false) × IsLooked old id e new
    × ((a : Answer) × (is_found a ≡ found) × (is_hit a ≡ false) × Takes old s (event_at t (LookUp id) ∷ []) (Ok a ∷ []) new rest)
Looks old s t id e (Err f) new rest = (new ≡ old) × Takes old s (event_at t (LookUp id) ∷ []) (Err f ∷ []) new rest

-- the request was open, and is not open now: what it held is handed back
abbrev pub Ends : State → Stream → MomentValue → ℕ → State → Stream → Type 0
Ends old s t id new rest =
    ((q : Request) → get old.requests id ≡ Some q → new ≡ record (without_request old id q) { lock = after_all (leave_of q.held) old.lock })
    × Takes old s (event_at t (Drop id) ∷ []) (Ok Dropped ∷ []) new rest

-- a key was looked up under a number of which no request was open
abbrev pub Finds : State → Stream → MomentValue → CacheKeyValue → Result Looked TierFault → State → Stream → Type 0
Finds old s t key (Ok (Fresh body)) new rest =
    ((x : Numbered) × (found_at (entry_of key) old ≡ finished x) × (is_fresh t x.body.meta ≡ true) × (body ≡ x.body.bytes) × (new ≡ looked_up old (entry_of key) (finished x)))
    × ((id : ℕ) × (get old.requests id ≡ None)
    × Takes old s (event_at t (Open id key false) ∷ event_at t (LookUp id) ∷ event_at t (Read id) ∷ event_at t (Drop id) ∷ [])
    (Ok Opened ∷ Ok (Found true true lock.None) ∷ Ok (Bytes body) ∷ Ok Dropped ∷ []) new rest)
Finds old s t key (Ok (Missed found)) new rest =
    (found ≡ is_there (found_at (entry_of key) old)) × (gives_hit t (found_at (entry_of key) old) ≡ false) × (new ≡ looked_up old (entry_of key) (found_at (entry_of key) old))
    × ((id : ℕ) × (a : Answer) × (get old.requests id ≡ None) × (is_found a ≡ found) × (is_hit a ≡ false)
    × Takes old s (event_at t (Open id key false) ∷ event_at t (LookUp id) ∷ event_at t (Drop id) ∷ []) (Ok Opened ∷ Ok a ∷ Ok Dropped ∷ []) new rest)
Finds old s t key (Err f) new rest =
    IsUnopened old s f new rest
    ⊎ ((new ≡ old)
    × ((id : ℕ) × (get old.requests id ≡ None)
    × Takes old s (event_at t (Open id key false) ∷ event_at t (LookUp id) ∷ event_at t (Drop id) ∷ []) (Ok Opened ∷ Err f ∷ Ok Dropped ∷ []) new rest))

-- a response was put, or there was no memory for the event
abbrev pub Fills : State → Stream → MomentValue → CacheKeyValue → List ℕ → Bool → Result Served TierFault → State → Stream → Type 0
Fills mid s t key response found told new rest =
    ((told ≡ Err out_of_memory) × (new ≡ mid) × (rest ≡ s))
    ⊎ ((o : Outcome) × IsPutTold found o told × Takes mid s (event_at t (Put key (response ∷ []) None) ∷ []) (o ∷ []) new rest)
