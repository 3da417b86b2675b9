-- How a request's wait for a permit ends.
use Rattle.std.specs.Prelude.{ℕ, Bool, true, false, List, Option, Some, None, unwrap_or}
use Rattle.cache_words.specs.Time.{DurationValue, MomentValue, span_of, elapsed, at_least, difference}
use Rattle.cache_heads.specs.declared.reason.NoCacheReason.TheVariants.{Custom}
use Rattle.cache_lock.specs.declared.status.LockStatus.{LockStatus}
use Rattle.cache_lock.specs.declared.status.LockStatus.TheVariants as status
use Rattle.cache_lock.specs.declared.tokens.Locked.{Locked}
use Rattle.cache_lock.specs.declared.tokens.Locked.TheVariants.{Read}
use Rattle.cache_lock.specs.declared.fills.UnusableFill.{UnusableFill}
use Rattle.cache_lock.specs.declared.fills.WaitOutcome.{WaitOutcome}
use Rattle.cache_lock.specs.declared.fills.WaitOutcome.TheVariants as poll
use Rattle.cache_lock.specs.declared.fills.LockWaitOutcome.{LockWaitOutcome}
use Rattle.cache_lock.specs.declared.fills.LockWaitOutcome.TheVariants.{Done, TransientError, Dangling, WaitTimeout, AgeTimeout, GiveUp, Abandoned}
use Rattle.cache_lock.specs.State.{LockState, after_all, status_of}
use Rattle.cache_lock.specs.Answers.{wait_outcome, poll_changes}
use Rattle.request_phases.specs.declared.digest.LockAbandon.{LockAbandon}
use Rattle.request_phases.specs.declared.digest.HttpCacheDigest.{HttpCacheDigest}
use Rattle.request_phases.specs.declared.request_lock.RequestLock.{RequestLock}
use Rattle.request_phases.specs.Digests.{added}
use Rattle.request_phases.specs.Locks.{held, timeout_of, let_go, lock_left}

-- the number of the core that is waited for
abbrev pub number_in : Option Locked → ℕ
number_in (Some (Read read)) = read.number
number_in _ = 0

abbrev pub waited_core : RequestLock → ℕ
waited_core r = number_in (held r)

-- when the read lock was polled first: at that moment, if it wasn't before
abbrev pub first_poll : RequestLock → MomentValue → MomentValue
first_poll r moment = unwrap_or r.polled moment

-- the wait so far, which counts from the first poll
abbrev pub time_waited : RequestLock → MomentValue → DurationValue
time_waited r moment = elapsed (first_poll r moment) moment

-- the wait is at least as long as the longest one, less what the request waited before
abbrev pub is_over_timeout : Option DurationValue → Option DurationValue → DurationValue → Bool
is_over_timeout None before waited = false
is_over_timeout (Some longest) before waited = at_least waited (difference longest (unwrap_or before (span_of 0)))

abbrev pub is_over : RequestLock → HttpCacheDigest → MomentValue → Bool
is_over r d moment = is_over_timeout (timeout_of r) d.lock_duration (time_waited r moment)

-- what is reported of a permit that has ended, by its status
abbrev pub released_as : LockStatus → LockWaitOutcome
released_as status.Waiting = Dangling
released_as status.Done = Done
released_as status.TransientError = TransientError
released_as status.GiveUp = GiveUp
released_as status.Dangling = Dangling
released_as status.WaitTimeout = WaitTimeout
released_as status.AgeTimeout = AgeTimeout

-- what is reported of what a poll found
abbrev pub ended_as : LockStatus → WaitOutcome → LockWaitOutcome
ended_as status poll.Released = released_as status
ended_as status poll.AgeTimeout = AgeTimeout
ended_as status (poll.Abandoned fill) = Abandoned (Custom fill.reason) fill.token

-- what is reported of a poll, by the core's status, and by whether the longest wait is over: that comes last
abbrev pub told : LockStatus → Bool → Option WaitOutcome → Option LockWaitOutcome
told status over (Some found) = Some (ended_as status found)
told status true None = Some WaitTimeout
told status false None = None

-- what a poll finds of the core that is waited for
abbrev pub found_by : RequestLock → List UnusableFill → MomentValue → LockState → Option WaitOutcome
found_by r fills moment s = wait_outcome (waited_core r) fills moment s

-- what is reported to the request
abbrev pub wait_told : RequestLock → HttpCacheDigest → List UnusableFill → MomentValue → LockState → Option LockWaitOutcome
wait_told r d fills moment s = told (status_of (waited_core r) s) (is_over r d moment) (found_by r fills moment s)

-- the request after a poll: an outcome ends its wait, and else the first poll is kept
abbrev pub request_polled : Option LockWaitOutcome → MomentValue → RequestLock → RequestLock
request_polled None moment r = record r { polled = Some (first_poll r moment) }
request_polled (Some outcome) moment r = let_go r

-- the lock after a poll that found that: an outcome leaves the read lock
abbrev pub lock_polled : RequestLock → Option WaitOutcome → Option LockWaitOutcome → LockState → LockState
lock_polled r found None s = after_all (poll_changes (waited_core r) found) s
lock_polled r found (Some outcome) s = lock_left r (after_all (poll_changes (waited_core r) found) s)

-- the last wait that was given up for a fill
abbrev pub abandoned : LockWaitOutcome → Option LockAbandon → Option LockAbandon
abandoned (Abandoned reason token) before = Some (record { reason = reason; token = token })
abandoned _ before = before

-- the digest after a poll: an outcome adds the time of the wait
abbrev pub digest_polled : Option LockWaitOutcome → DurationValue → HttpCacheDigest → HttpCacheDigest
digest_polled None waited d = d
digest_polled (Some outcome) waited d = record d { lock_duration = added d.lock_duration waited; lock_abandon = abandoned outcome d.lock_abandon }
