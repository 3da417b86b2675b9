-- Statuses as numbers and names, and what each means for the next that asks.
use Rattle.std.specs.Prelude.{ℕ, Bool, true, false, List, Option, unwrap_or, slice_get, ◌∷◌, [], codes}
use Rattle.cache_lock.specs.declared.status.LockStatus.{LockStatus}
use Rattle.cache_lock.specs.declared.status.LockStatus.TheVariants.{Waiting, Done, TransientError, GiveUp, Dangling, WaitTimeout, AgeTimeout}

-- in the order of their numbers, from 0
abbrev pub all_statuses : List LockStatus
all_statuses = Waiting ∷ Done ∷ TransientError ∷ GiveUp ∷ Dangling ∷ WaitTimeout ∷ AgeTimeout ∷ []

abbrev pub status_at : ℕ → Option LockStatus
status_at n = slice_get all_statuses n

-- any other number is read as GiveUp
abbrev pub status_or_give_up : ℕ → LockStatus
status_or_give_up n = unwrap_or (status_at n) GiveUp

abbrev pub status_number : LockStatus → ℕ
status_number Waiting = 0
status_number Done = 1
status_number TransientError = 2
status_number GiveUp = 3
status_number Dangling = 4
status_number WaitTimeout = 5
status_number AgeTimeout = 6

abbrev pub status_name : LockStatus → List ℕ
status_name Waiting = codes "Waiting"
status_name Done = codes "Done"
status_name TransientError = codes "TransientError"
status_name GiveUp = codes "GiveUp"
status_name Dangling = codes "Dangling"
status_name WaitTimeout = codes "WaitTimeout"
status_name AgeTimeout = codes "AgeTimeout"

-- a permit may end with it: it is neither Waiting nor a reader's own WaitTimeout
abbrev pub is_end : LockStatus → Bool
is_end Waiting = false
is_end WaitTimeout = false
is_end _ = true

-- the permit is held, and no poll has found it past its age
abbrev pub is_waiting : LockStatus → Bool
is_waiting Waiting = true
is_waiting _ = false

-- a poll found the permit past its age
abbrev pub is_aged : LockStatus → Bool
is_aged AgeTimeout = true
is_aged _ = false

-- another may get a permit
abbrev pub is_replaced : LockStatus → Bool
is_replaced Dangling = true
is_replaced AgeTimeout = true
is_replaced _ = false
