-- What a request that was served leaves of the plain state, and what it answers.
use Rattle.std.specs.Prelude.{◌≡◌, ℕ, Bool, true, false, ◌⊎◌, List, [], ◌∷◌, None, if◌then◌else◌, Result, Ok, Err}
use Rattle.cache_words.specs.Time.{MomentValue}
use Rattle.cache_words.specs.Key.{CacheKeyValue}
use Rattle.cache_changes.specs.Changes.{stored_key}
use Rattle.cache_evict.specs.Managed.{Managed}
use Rattle.tier_model.specs.declared.event.Action.TheVariants.{Put}
use Rattle.tier_model.specs.declared.event.TierFault.{TierFault}
use Rattle.tier_model.specs.Keys.{Entry, entry_of, alone}
use Rattle.tier_model.specs.Calls.{Call}
use Rattle.tier_model.specs.Rows.{Numbered}
use Rattle.tier_model.specs.Shelf.{Shelf, Look, finished, look, is_there}
use Rattle.tier_model.specs.State.{closed, State}
use Rattle.tier_model.specs.Answers.{is_fresh, used}
use Rattle.tier_model.specs.Step.{Allows}
use Rattle.tier_model.specs.After.{after, after_purge, counted, counted_if, reader_of, turned}
use Rattle.tier_served.specs.Requests.{event_at}
use Rattle.tier_requests.specs.Faults.{out_of_memory}
use Rattle.tier_served.specs.Courses.{IsPutTold}
use Rattle.tier_served.specs.declared.request.Request.{Request}
use Rattle.tier_served.specs.declared.request.Method.{Method}
use Rattle.tier_served.specs.declared.request.Method.TheVariants.{Get, Purge}
use Rattle.tier_served.specs.declared.request.Served.{Served}
use Rattle.tier_served.specs.declared.request.Served.TheVariants.{Hit, Purged}

-- what is found of an entry's key
abbrev pub found_at : Entry → State → Look
found_at e s = look (stored_key e) s.shelf

-- all of a body is found, and it is fresh; of a write in flight not all is found
abbrev pub gives_hit : MomentValue → Look → Bool
gives_hit t (finished x) = is_fresh t x.body.meta
gives_hit t _ = false

-- the order of use after a use of what was found of an entry's key: a finished body is used
abbrev pub used_by : State → Entry → Look → Managed
used_by s e (finished x) = used s (alone e) x.body
used_by s e _ = s.managed

-- a reader came to what is found
abbrev pub joined_by : Look → Shelf → Shelf
joined_by l shelf = turned closed (reader_of l) shelf

-- and it went again. In a state that some history led to this is as before (see `laws`)
abbrev pub came_and_went : Look → Shelf → Shelf
came_and_went l shelf = turned (reader_of l) closed (joined_by l shelf)

-- after the look-up of an entry that found this, and the end of its request: what is found is used, and the look-up counted
abbrev pub looked_up : State → Entry → Look → State
looked_up s e l = record s {
  managed = used_by s e l;
  shelf = came_and_went l s.shelf;
  found = counted_if (is_there l) s.found;
  absent = if is_there l then s.absent else counted s.absent 1;
}

-- a response was put after a look-up, which left mid: a put that mid allows; or there was no memory for the event
abbrev pub LeavesPut : State → MomentValue → CacheKeyValue → List ℕ → Bool → Result Served TierFault → State → Type 0
LeavesPut mid t key response found told new =
    ((told ≡ Err out_of_memory) × (new ≡ mid))
    ⊎ ((c : Call) × (c.event ≡ event_at t (Put key (response ∷ []) None)) × IsPutTold found c.outcome told × Allows mid c × (new ≡ after mid c))

-- a fresh body was found whole: its bytes are answered
abbrev pub LeavesHit : State → MomentValue → Entry → Result Served TierFault → State → Type 0
LeavesHit old t e told new =
    (x : Numbered) × (found_at e old ≡ finished x) × (is_fresh t x.body.meta ≡ true) × (told ≡ Ok (Hit x.body.bytes)) × (new ≡ looked_up old e (finished x))

-- no such body was found, and the response was put
abbrev pub LeavesFill : State → MomentValue → CacheKeyValue → List ℕ → Result Served TierFault → State → Type 0
LeavesFill old t key response told new =
    (gives_hit t (found_at (entry_of key) old) ≡ false)
    × LeavesPut (looked_up old (entry_of key) (found_at (entry_of key) old)) t key response (is_there (found_at (entry_of key) old)) told new

-- a get was refused before or at its look-up, and left all as before; or gave a fresh body whole; or put its response
abbrev pub LeavesGet : State → MomentValue → CacheKeyValue → List ℕ → Result Served TierFault → State → Type 0
LeavesGet old t key response told new =
    ((f : TierFault) × (told ≡ Err f) × (new ≡ old))
    ⊎ (LeavesHit old t (entry_of key) told new ⊎ LeavesFill old t key response told new)

abbrev pub LeavesPurge : State → CacheKeyValue → Result Served TierFault → State → Type 0
LeavesPurge old key told new =
    ((told ≡ Err out_of_memory) × (new ≡ old))
    ⊎ ((told ≡ Ok (Purged (is_there (found_at (entry_of key) old)))) × (new ≡ after_purge old key (is_there (found_at (entry_of key) old))))

abbrev pub LeavesBy : Method → State → MomentValue → CacheKeyValue → Result Served TierFault → State → Type 0
LeavesBy (Get response) old t key told new = LeavesGet old t key response told new
LeavesBy Purge old t key told new = LeavesPurge old key told new

-- nothing changed in who is open and in the lock
pub record IsAside (old new : State) : Type 0 where
  pub requests : new.requests ≡ old.requests
  pub lock : new.lock ≡ old.lock

-- what a request leaves, and what it answers. No request is opened for others, none of theirs ends, and the lock isn't asked
pub record Leaves (old : State) (r : Request) (told : Result Served TierFault) (new : State) : Type 0 where
  pub leaves : LeavesBy r.method old r.moment r.key told new
  pub aside : IsAside old new
