-- What a request has read of what it has to read, by the calls since it got that.
use Rattle.std.specs.Prelude.{◌≡◌, ℕ, true, false, List, [], ◌∷◌, ◌++◌, length, ◌⊎◌, Some}
use Rattle.std.specs.List.{AllByRecursion}
use Rattle.cache_changes.specs.Changes.{stored_key}
use Rattle.cache_entries.specs.declared.rows.Tracked.{Tracked}
use Rattle.tier_model.specs.Calls.{Call, History, hits, hits_partly, begins_by, ends_reader, bytes_read}
use Rattle.tier_model.specs.State.{Settings, Reader, closed, unread, spent, streaming}
use Rattle.tier_promise.specs.Promise.{Write, Changes, Request, shown, bytes_of, now_of}

-- what a request has to read it got by a call, when it was that request; since are the calls after it, none of which ended that
pub record HasReader (s : Settings) (loaded : List Tracked) (id : ℕ) (since h : History) : Type 0 where
  pub call : Call
  pub before : History
  pub request : Request
  pub split : h ≡ since ++ call ∷ before
  pub asked : (now_of s loaded before).request id ≡ Some request
  pub last : AllByRecursion (λ c. ends_reader id c ≡ false) since

-- a look-up showed it that write
abbrev pub Shows : (s : Settings) (loaded : List Tracked) (id : ℕ) (since h : History) → HasReader s loaded id since h → Write → Type 0
Shows s loaded id since h r w = shown (stored_key r.request.entry) (now_of s loaded r.before).changes ≡ Some w

-- its look-up found all of a body, whose bytes were these then
abbrev pub HasWhole : Settings → List Tracked → ℕ → List ℕ → History → History → Type 0
HasWhole s loaded id bytes since h =
    (r : HasReader s loaded id since h) × (hits id r.call ≡ true) × ((w : Write) × Shows s loaded id since h r w × (bytes ≡ bytes_of w.number (now_of s loaded r.before).changes))

-- its look-up found the write of that number in flight, or it began that write
abbrev pub HasPart : Settings → List Tracked → ℕ → ℕ → History → History → Type 0
HasPart s loaded id n since h =
    (r : HasReader s loaded id since h)
    × (((hits_partly id r.call ≡ true) × ((w : Write) × Shows s loaded id since h r w × (w.number ≡ n)))
    ⊎ ((begins_by id r.call ≡ true) × (n ≡ length (now_of s loaded r.before).changes)))

-- of a whole body it read nothing, or all, as that was when it was found; of a write as it comes a beginning of its bytes, up to its place. What it
-- read since then is joined; c is what the calls changed
abbrev pub HasRead : Settings → List Tracked → ℕ → Reader → Changes → History → Type 0
HasRead s loaded id closed c h = Unit {0}
HasRead s loaded id (unread bytes) c h = (since : History) × HasWhole s loaded id bytes since h × (bytes_read id since ≡ [])
HasRead s loaded id spent c h = (since : History) × HasWhole s loaded id (bytes_read id since) since h
HasRead s loaded id (streaming n place) c h =
    (since : History) × HasPart s loaded id n since h × (place ≡ length (bytes_read id since)) × ((more : List ℕ) × (bytes_of n c ≡ bytes_read id since ++ more))
