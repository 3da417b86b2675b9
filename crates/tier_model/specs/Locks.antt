-- Locks, said of answers alone: when a permit waits, and what a look-up is to be given.
use Rattle.std.specs.Prelude.{◌≡◌, ℕ, ◌==◌, Bool, true, false, ◌&&◌, [], ◌∷◌, ◌++◌, if◌then◌else◌, Option, Some, None, Ok, Err}
use Rattle.std.specs.List.{AllByRecursion}
use Rattle.cache_entries.specs.Keys.{same_bytes}
use Rattle.cache_changes.specs.Changes.{StoredKey, stored_key}
use Rattle.cache_lock.specs.declared.status.LockStatus.TheVariants.{AgeTimeout}
use Rattle.tier_model.specs.declared.event.Action.{Action}
use Rattle.tier_model.specs.declared.event.Action.TheVariants.{LookUp, Poll, Begin, Revalidate, Drop}
use Rattle.tier_model.specs.declared.event.Answer.TheVariants.{Found, Absent, Waited}
use Rattle.tier_model.specs.declared.event.LockGiven.{LockGiven}
use Rattle.tier_model.specs.declared.event.LockGiven.TheVariants as lock
use Rattle.tier_model.specs.Keys.{Entry}
use Rattle.tier_model.specs.Calls.{Call, History, Outcome, done_of, opened_for}

abbrev pub given_after : ℕ → Action → Outcome → LockGiven → LockGiven
given_after id (LookUp request) (Ok (Found fresh complete given)) old = if request == id then given else old
given_after id (LookUp request) (Ok (Absent given)) old = if request == id then given else old
given_after id _ _ old = old

-- what the request's last look-up among these calls gave; nothing where none was answered
abbrev pub last_given : ℕ → History → LockGiven
last_given id [] = lock.None
last_given id (c ∷ h) = given_after id c.event.action c.outcome (last_given id h)

abbrev pub is_permit : LockGiven → Bool
is_permit lock.Write = true
is_permit _ = false

abbrev pub is_wait : LockGiven → Bool
is_wait lock.Read = true
is_wait _ = false

-- the call gave the request a permit
abbrev pub gives_permit : ℕ → Call → Bool
gives_permit id c = is_permit (given_after id c.event.action c.outcome lock.None)

abbrev pub is_end_of_permit : ℕ → Action → Outcome → Bool
is_end_of_permit id (Begin request head given) (Ok answer) = request == id
is_end_of_permit id (Revalidate request head given) (Ok answer) = request == id
is_end_of_permit id (Revalidate request head given) (Err f) = (request == id) && (done_of f).stored
is_end_of_permit id (Drop request) (Ok answer) = request == id
is_end_of_permit id _ _ = false

-- the call ended the request's permit: it began a write, its head may not be kept, what it found was confirmed, also where that was taken back
-- with its body, or it was dropped
abbrev pub ends_permit : ℕ → Call → Bool
ends_permit id c = is_end_of_permit id c.event.action c.outcome

abbrev pub is_for : StoredKey → Option Entry → Bool
is_for k None = false
is_for k (Some e) = same_bytes (stored_key e) k

abbrev pub is_aged_poll : StoredKey → Action → Outcome → History → History → Bool
is_aged_poll k (Poll request) (Ok (Waited (Some AgeTimeout))) since before = is_for k (opened_for request (since ++ before)) && is_wait (last_given request since)
is_aged_poll k _ _ since before = false

-- the call answered a request for k that its wait is past the permit's age; that wait was given among the calls `since`
abbrev pub aged_for : StoredKey → Call → History → History → Bool
aged_for k c since before = is_aged_poll k c.event.action c.outcome since before

-- no call among these, with those before them, gave that answer to one that was given a wait for k among them
abbrev pub AreTimely : StoredKey → History → History → Type 0
AreTimely k [] before = Unit {0}
AreTimely k (c ∷ since) before = (aged_for k c since before ≡ false) × AreTimely k since before

-- a permit of k waits: it was given, its request met no begin, no uncacheable head, no confirmation and no drop since, and none that waits for it
-- was answered that it is past its age
pub record PermitWaits (k : StoredKey) (h : History) : Type 0 where
  pub since : History
  pub call : Call
  pub before : History
  pub id : ℕ
  pub entry : Entry
  pub split : h ≡ since ++ call ∷ before
  pub gives : gives_permit id call ≡ true
  pub of_entry : opened_for id before ≡ Some entry
  pub of_key : same_bytes (stored_key entry) k ≡ true
  pub held : AllByRecursion (λ c. ends_permit id c ≡ false) since
  pub timely : AreTimely k since (call ∷ before)
