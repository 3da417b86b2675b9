-- Waits, said of answers alone: what a poll is to be answered.
use Rattle.std.specs.Prelude.{Bool, if◌then◌else◌, Option, Some, None}
use Rattle.cache_lock.specs.declared.status.LockStatus.{LockStatus}
use Rattle.cache_lock.specs.declared.status.LockStatus.TheVariants.{WaitTimeout, AgeTimeout}

-- then a wait ends where the permit is past its age, or else where all waits of the request took its longest wait
abbrev pub told_in_time : Bool → Bool → Option LockStatus
told_in_time aged over = if aged then Some AgeTimeout else (if over then Some WaitTimeout else None)
