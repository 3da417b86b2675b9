-- Waits for another's permit: that they end, and what the next that asks is given then.
use Rattle.std.specs.Prelude.{◌≡◌, ℕ, Bool, true, false, List, [], ◌∷◌, ◌++◌, Option, Some, None, Ok, IfSome, is_some}
use Rattle.cache_words.specs.Time.{MomentValue, at_least, elapsed}
use Rattle.cache_entries.specs.declared.rows.Tracked.{Tracked}
use Rattle.cache_changes.specs.Changes.{StoredKey, stored_key}
use Rattle.tier_model.specs.declared.event.Action.TheVariants as on
use Rattle.tier_model.specs.declared.event.Answer.TheVariants as answer
use Rattle.tier_model.specs.declared.event.LockGiven.{LockGiven}
use Rattle.tier_model.specs.Calls.{Call, History, Outcome}
use Rattle.tier_model.specs.State.{Settings}
use Rattle.tier_model.specs.Standings.{time_waited}
use Rattle.tier_model.specs.Answers.{is_past}
use Rattle.tier_laws.specs.Keys.{key_of, gives_permit}
use Rattle.tier_promise.specs.Promise.{Permit, Hold, no_lock, waits, Request, Changes, ended, waiting, now_of, AreRight}

-- of right calls the last polls a request that waits for the permit p, since its first poll, if there was one
pub record PollsWait (s : Settings) (used : ℕ) (loaded : List Tracked) (h : History) (c : Call) (id : ℕ) (q : Request) (p : Permit) (first : Option MomentValue) : Type 0 where
  pub right : AreRight s used loaded (c ∷ h)
  pub polls : c.event.action ≡ on.Poll id
  pub request : (now_of s loaded h).request id ≡ Some q
  pub wait : q.hold ≡ waits p first

-- it was told how its wait ended
abbrev pub is_told : Outcome → Bool
is_told (Ok (answer.Waited (Some how))) = true
is_told _ = false

abbrev pub is_nothing : Hold → Bool
is_nothing no_lock = true
is_nothing _ = false

-- a request is open, and has neither a permit nor a wait
abbrev pub is_free : Option Request → Bool
is_free None = false
is_free (Some q) = is_nothing q.hold

-- a poll finds the permit past its age
abbrev pub is_aged : Settings → Permit → Call → Bool
is_aged s p c = at_least (elapsed p.given c.event.moment) s.age

-- it finds the request's waits, this one since its first poll, past their bound
abbrev pub is_past_bound : Settings → Request → Option MomentValue → Call → Bool
is_past_bound s q first c = is_past s.wait q.waited (time_waited first c.event.moment)

-- whether a poll ends a wait, by whether the permit had ended, and is past its age, and the request's waits past their bound: it is told so, and the
-- request may look up again
abbrev pub PollEnds : Bool → Bool → Bool → Bool → Type 0
PollEnds had_ended aged past so =
    (s : Settings) (used : ℕ) (loaded : List Tracked) (h : History) (c : Call) (id : ℕ) (q : Request) (p : Permit) (first : Option MomentValue) → PollsWait s used loaded h c id q p first
    → is_some (ended p.number (now_of s loaded h).changes) ≡ had_ended → is_aged s p c ≡ aged → is_past_bound s q first c ≡ past
    → (is_told c.outcome ≡ so) × (is_free ((now_of s loaded (c ∷ h)).request id) ≡ so)

-- no other permit of k waits than p
abbrev pub NoOtherWaits : StoredKey → Permit → Changes → Type 0
NoOtherWaits k p c = IfSome (waiting k c) (λ x. x.number ≡ p.number)

-- none of these calls gave a permit for k, after those
abbrev pub NoneGiven : Settings → List Tracked → StoredKey → History → History → Type 0
NoneGiven s loaded k [] h = Unit {0}
NoneGiven s loaded k (c ∷ since) h = (key_of c.event.action (now_of s loaded (since ++ h)) ≡ Some k → gives_permit c.outcome ≡ false) × NoneGiven s loaded k since h

-- what a look-up that found nothing fresh gave of the permit
abbrev pub given_by : Outcome → Option LockGiven
given_by (Ok (answer.Absent given)) = Some given
given_by (Ok (answer.Found false complete given)) = Some given
given_by _ = None

-- what the next request is given that asks for the permit of the key and finds nothing fresh, after a wait was polled once the permit was past its
-- age; where no other permit was given before that
abbrev pub IsGivenNext : LockGiven → Type 0
IsGivenNext next =
    (s : Settings) (used : ℕ) (loaded : List Tracked) (h : History) (c : Call) (id : ℕ) (q : Request) (p : Permit) (first : Option MomentValue) → PollsWait s used loaded h c id q p first
    → is_aged s p c ≡ true → NoOtherWaits (stored_key q.entry) p (now_of s loaded h).changes
    → (since : History) (look : Call) (other : ℕ) (r : Request) (given : LockGiven) → AreRight s used loaded (look ∷ since ++ c ∷ h) → NoneGiven s loaded (stored_key q.entry) since (c ∷ h)
    → look.event.action ≡ on.LookUp other → (now_of s loaded (since ++ c ∷ h)).request other ≡ Some r → r.asks ≡ true → stored_key r.entry ≡ stored_key q.entry
    → given_by look.outcome ≡ Some given → given ≡ next
