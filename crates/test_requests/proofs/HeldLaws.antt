-- When nothing is held of a lock.
use Rattle.std.proofs.Common.{◌≡◌, sym, false, None}
use Rattle.std.specs.Prelude.{is_some}
use Rattle.cache_evict.proofs.FaultLaws.{none_there}
use Rattle.request_phases.specs.declared.request_lock.RequestLock.{RequestLock}
use Rattle.request_phases.specs.Locks.{held}

pub nothing_held : (l : RequestLock) → is_some (held l) ≡ false → held l ≡ None
nothing_held l e = none_there (held l) (sym e)
