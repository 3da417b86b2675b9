-- A request with what its store holds and its lock, and how a request is disabled.
use Rattle.std.specs.Prelude.{◌≡◌, ℕ, List}
use Rattle.cache_heads.specs.declared.reason.NoCacheReason.{NoCacheReason}
use Rattle.cache_lock.specs.declared.status.LockStatus.{LockStatus}
use Rattle.cache_lock.specs.State.{LockState}
use Rattle.cache_store.specs.StoreState.{StoreState}
use Rattle.cache_store.specs.Readers.{Reader}
use Rattle.request_phases.specs.Releases.{lock_released_for, status_for, key_in}
use Rattle.request_cache.specs.Request.{Request, disabled_for}
use Rattle.request_store.specs.Spends.{Ends}

pub record Point (H M : Type 0) : Type 0 where
  pub request : Request H M
  pub held : StoreState
  pub lock : LockState

abbrev pub point : {H M : Type 0} → Request H M → StoreState → LockState → Point H M
point request held lock = record { request = request; held = held; lock = lock }

-- a request is disabled for a reason; `custom` is what the lock reports of custom reasons
pub record IsDisabledFor {H M : Type 0} (reader : H → Reader) (number : M → ℕ) (custom : List ℕ → LockStatus) (reason : NoCacheReason) (old new : Point H M) : Type 0 where
  pub request : new.request ≡ disabled_for reason old.request
  pub store : Ends reader number old.request.reader old.request.writer old.held new.held
  pub lock : new.lock ≡ lock_released_for (key_in old.request.key) (status_for custom reason) old.request.lock old.lock
