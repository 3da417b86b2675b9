-- What a lock answers in a state, and what each answer changes.
use Rattle.std.specs.Prelude.{◌≡◌, ℕ, ◌-◌, ◌^◌, ◌==◌, not, Bool, true, false, ◌&&◌, List, [], ◌∷◌, Option, Some, None, option_map, if◌then◌else◌}
use Rattle.std.specs.FinMap.{get}
use Rattle.cache_words.specs.Time.{MomentValue, elapsed, at_least}
use Rattle.cache_lock.specs.declared.lock_core.HeldCore.{HeldCore}
use Rattle.cache_lock.specs.declared.lock_core.LockCore.{LockCore}
use Rattle.cache_lock.specs.declared.status.LockStatus.{LockStatus}
use Rattle.cache_lock.specs.declared.status.LockStatus.TheVariants.{Dangling, AgeTimeout}
use Rattle.cache_lock.specs.declared.tokens.ReadLock.{ReadLock}
use Rattle.cache_lock.specs.declared.tokens.Locked.{Locked}
use Rattle.cache_lock.specs.declared.tokens.Locked.TheVariants.{Write, Read}
use Rattle.cache_lock.specs.declared.fault.LockFault.{LockFault}
use Rattle.cache_lock.specs.declared.fault.LockFault.TheVariants.{Memory, CoreNumbersSpent}
use Rattle.cache_lock.specs.declared.fills.UnusableFill.{UnusableFill}
use Rattle.cache_lock.specs.declared.fills.WaitOutcome.{WaitOutcome}
use Rattle.cache_lock.specs.declared.fills.WaitOutcome.TheVariants.{Released, AgeTimeout as Aged, Abandoned}
use Rattle.cache_lock.specs.Status.{is_waiting, is_aged, is_replaced}
use Rattle.cache_lock.specs.Fills.{fill_among}
use Rattle.cache_lock.specs.Changes.{Change, gives, lends, stores, takes_out, spends}
use Rattle.cache_lock.specs.State.{LockState, after, after_all, is_number, status_of, tokens_of}

-- the core that who asks for a key is to wait for: the key's, unless its status is Dangling or AgeTimeout
abbrev pub waited_for : LockState → Option ℕ → Option ℕ
waited_for s None = None
waited_for s (Some n) = if is_replaced (status_of n s) then None else Some n

abbrev pub to_wait_for : List ℕ → LockState → Option ℕ
to_wait_for key s = waited_for s (get s.current key)

-- a read lock of that core; without one the permit, under the next number
abbrev pub locked_by : LockState → Option ℕ → Locked
locked_by s None = Write (record { number = s.next })
locked_by s (Some n) = Read (record { number = n })

abbrev pub lock_change : List ℕ → Bool → MomentValue → LockState → Option ℕ → Change
lock_change key stale moment s None = gives s.next key stale moment
lock_change key stale moment s (Some n) = lends n

-- the last number was given, or the core can't be named once more
abbrev pub IsSpent : LockState → Option ℕ → Type 0
IsSpent s None = s.next ≡ 2 ^ 64 - 1
IsSpent s (Some n) = (c : HeldCore) × (get s.cores n ≡ Some c) × (c.names ≡ 2 ^ 64 - 1)

-- why no lock is given: that, or, for a new core alone, no memory
abbrev pub IsRefused : LockState → Option ℕ → LockFault → Type 0
IsRefused s o CoreNumbersSpent = IsSpent s o
IsRefused s None Memory = IsSpent s None → ⊥
IsRefused s (Some n) Memory = ⊥

-- the core is there, and can be named once more
abbrev pub is_lendable : Option HeldCore → Bool
is_lendable None = false
is_lendable (Some c) = not (c.names == 2 ^ 64 - 1)

-- a read lock that is asked for by the core's number
abbrev pub read_lock_of : ℕ → Option HeldCore → Option ReadLock
read_lock_of n o = if is_lendable o then Some (record { number = n }) else None

abbrev pub lend_changes : ℕ → Option HeldCore → List Change
lend_changes n o = if is_lendable o then lends n ∷ [] else []

-- what the release of the permit of core n changes, by whether a poll found it past its age, and whether that core is the key's: a
-- permit past its age keeps that status, and its key keeps its core. One whose core isn't the key's is dropped
abbrev pub released_by : Bool → Bool → List ℕ → ℕ → LockStatus → List Change
released_by true own key n reason = spends n ∷ []
released_by false true key n reason = spends n ∷ stores n reason ∷ takes_out key ∷ []
released_by false false key n reason = spends n ∷ stores n Dangling ∷ []

abbrev pub release_changes : List ℕ → ℕ → LockStatus → LockState → List Change
release_changes key n reason s = released_by (is_aged (status_of n s)) (is_number n (get s.current key)) key n reason

abbrev pub unlock_changes : ℕ → LockStatus → List Change
unlock_changes n reason = spends n ∷ stores n reason ∷ []

-- a permit that is dropped is Dangling
abbrev pub leave_changes : Locked → List Change
leave_changes (Write permit) = spends permit.number ∷ stores permit.number Dangling ∷ []
leave_changes (Read reader) = spends reader.number ∷ []

-- what a lock of a key that is given and left at once leaves of a state
abbrev pub given_back : List ℕ → Bool → MomentValue → LockState → LockState
given_back key stale moment s = after_all (leave_changes (locked_by s (to_wait_for key s))) (after (lock_change key stale moment s (to_wait_for key s)) s)

-- the permit is at least as old as its age
abbrev pub is_over_age : LockCore → MomentValue → Bool
is_over_age core moment = at_least (elapsed core.lock_start moment) core.age_timeout

-- how the wait for a core ends: by its status, by its age, by a fill that is published; else it goes on
abbrev pub outcome : Option HeldCore → List ℕ → List UnusableFill → MomentValue → Option WaitOutcome
outcome None tokens fills moment = Some Released
outcome (Some c) tokens fills moment =
    if is_waiting c.core.status
    then (if is_over_age c.core moment then Some Aged else option_map Abandoned (fill_among tokens fills))
    else Some Released

abbrev pub wait_outcome : ℕ → List UnusableFill → MomentValue → LockState → Option WaitOutcome
wait_outcome n fills moment s = outcome (get s.cores n) (tokens_of n s) fills moment

abbrev pub poll_changes : ℕ → Option WaitOutcome → List Change
poll_changes n (Some Aged) = stores n AgeTimeout ∷ []
poll_changes n _ = []

-- nobody who asks for a lock or waits can distinguish the states: each core is the same, each key has the same core to wait for, and
-- each wait ends the same way. The next number may be another, and a core that nobody is to wait for may have left its key
pub record IsAsBefore (new old : LockState) : Type 0 where
  pub cores : new.cores ≡ old.cores
  pub age : new.age ≡ old.age
  pub current : (key : List ℕ) (n : ℕ) → get new.current key ≡ Some n → get old.current key ≡ Some n
  pub asked : (key : List ℕ) → to_wait_for key new ≡ to_wait_for key old
  pub outcomes : (n : ℕ) (fills : List UnusableFill) (moment : MomentValue) → wait_outcome n fills moment new ≡ wait_outcome n fills moment old

-- what a permit and a read lock report of their core
abbrev pub is_stale : Option HeldCore → Bool
is_stale None = false
is_stale (Some c) = c.core.stale_writer

abbrev pub is_expired : Option HeldCore → MomentValue → Bool
is_expired None moment = true
is_expired (Some c) moment = is_over_age c.core moment

-- one that waits past its age has AgeTimeout, though no poll stored it
abbrev pub status_at_moment : Option HeldCore → MomentValue → LockStatus
status_at_moment None moment = Dangling
status_at_moment (Some c) moment = if is_waiting c.core.status && is_over_age c.core moment then AgeTimeout else c.core.status
