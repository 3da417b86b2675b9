-- How a wait ended, as a status.
use Rattle.cache_lock.specs.declared.fills.LockWaitOutcome.{LockWaitOutcome}
use Rattle.cache_lock.specs.declared.fills.LockWaitOutcome.TheVariants.{Done, TransientError, Dangling, WaitTimeout, AgeTimeout, GiveUp, Abandoned}
use Rattle.cache_lock.specs.declared.status.LockStatus.{LockStatus}
use Rattle.cache_lock.specs.declared.status.LockStatus.TheVariants as status

abbrev pub status_of_outcome : LockWaitOutcome → LockStatus
status_of_outcome Done = status.Done
status_of_outcome TransientError = status.TransientError
status_of_outcome Dangling = status.Dangling
status_of_outcome WaitTimeout = status.WaitTimeout
status_of_outcome AgeTimeout = status.AgeTimeout
status_of_outcome GiveUp = status.GiveUp
status_of_outcome (Abandoned reason token) = status.GiveUp
