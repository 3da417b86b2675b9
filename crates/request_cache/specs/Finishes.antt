-- What the finish of a write leaves of its request and of the lock.
use Rattle.std.specs.Prelude.{◌≡◌, ℕ, List, Option, Some, None, Result, Ok, Err, if◌then◌else◌}
use Rattle.cache_changes.specs.Changes.{StoredKey}
use Rattle.cache_entries.specs.declared.entry.CacheEntryId.{CacheEntryId}
use Rattle.cache_lock.specs.declared.status.LockStatus.{LockStatus}
use Rattle.cache_lock.specs.declared.status.LockStatus.TheVariants as status
use Rattle.cache_lock.specs.State.{LockState}
use Rattle.request_phases.specs.declared.request_lock.RequestLock.{RequestLock}
use Rattle.request_phases.specs.Locks.{let_go}
use Rattle.request_phases.specs.Releases.{lock_released}
use Rattle.request_store.specs.declared.faults.Finished.{Finished}
use Rattle.request_store.specs.declared.faults.FinishFault.{FinishFault}
use Rattle.request_store.specs.declared.faults.FinishFault.TheVariants.{Memory, WriteRemoved}
use Rattle.request_store.specs.Finishes.{SameWriter}
use Rattle.request_cache.specs.Request.{Request}

-- the status with which a permit is released after a finish, if it is: not where the write may be finished again
abbrev pub finish_status : Result (Option Finished) FinishFault → Option LockStatus
finish_status (Ok None) = None
finish_status (Ok (Some finished)) = Some status.Done
finish_status (Err WriteRemoved) = Some status.TransientError
finish_status (Err (Memory done)) = if done.stored then Some status.Done else None
finish_status (Err _) = Some status.Done

-- the request once its write is finished; with no status it has its writer, as before
abbrev pub IsLeftBy : {H M : Type 0} → (M → ℕ) → (M → Option CacheEntryId) → (M → Option (List ℕ)) → Option LockStatus → Request H M → Request H M → Type 0
IsLeftBy number id tag None old new = (new ≡ record old { writer = new.writer }) × SameWriter number id tag old.writer new.writer
IsLeftBy number id tag (Some status) old new = new ≡ record old { writer = None; lock = let_go old.lock }

abbrev pub lock_finished : Option LockStatus → StoredKey → RequestLock → LockState → LockState
lock_finished None key r s = s
lock_finished (Some status) key r s = lock_released key status r s
