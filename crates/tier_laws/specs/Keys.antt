-- Of which key an event is, and what an outcome says of that key.
use Rattle.std.specs.Prelude.{Bool, true, false, ◌||◌, Option, Some, option_map, Ok}
use Rattle.cache_changes.specs.Changes.{StoredKey, stored_key}
use Rattle.tier_model.specs.declared.event.Action.{Action}
use Rattle.tier_model.specs.declared.event.Action.TheVariants as on
use Rattle.tier_model.specs.declared.event.Answer.TheVariants as answer
use Rattle.tier_model.specs.declared.event.LockGiven.{LockGiven}
use Rattle.tier_model.specs.declared.event.LockGiven.TheVariants as lock
use Rattle.tier_model.specs.Keys.{entry_of}
use Rattle.tier_model.specs.Calls.{Outcome, has_stored}
use Rattle.tier_promise.specs.Promise.{Request, Now}

abbrev pub key_of_request : Option Request → Option StoredKey
key_of_request o = option_map (λ q. stored_key q.entry) o

-- the stored key that an event is of: the one that it names, or that of its request, where that is open
abbrev pub key_of : Action → Now → Option StoredKey
key_of (on.Open id key asks) now = Some (stored_key (entry_of key))
key_of (on.Put key pieces given) now = Some (stored_key (entry_of key))
key_of (on.Purge key) now = Some (stored_key (entry_of key))
key_of (on.LookUp id) now = key_of_request (now.request id)
key_of (on.Poll id) now = key_of_request (now.request id)
key_of (on.Begin id head given) now = key_of_request (now.request id)
key_of (on.Revalidate id head given) now = key_of_request (now.request id)
key_of (on.Piece id bytes last) now = key_of_request (now.request id)
key_of (on.Finish id) now = key_of_request (now.request id)
key_of (on.Read id) now = key_of_request (now.request id)
key_of (on.Drop id) now = key_of_request (now.request id)

abbrev pub is_purge : Action → Bool
is_purge (on.Purge key) = true
is_purge _ = false

-- what is stored of the event's key is another body then, or nothing: it was a purge, a put or a finish was answered, or it was refused after
-- something was stored
abbrev pub replaces : Action → Outcome → Bool
replaces action o = is_purge action || has_stored o

abbrev pub is_permit : LockGiven → Bool
is_permit lock.Write = true
is_permit _ = false

-- the event's request was given the permit
abbrev pub gives_permit : Outcome → Bool
gives_permit (Ok (answer.Found fresh complete given)) = is_permit given
gives_permit (Ok (answer.Absent given)) = is_permit given
gives_permit _ = false
