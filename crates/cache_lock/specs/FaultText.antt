-- Faults as text.
use Rattle.std.specs.Prelude.{ℕ, List, codes}
use Rattle.cache_lock.specs.declared.fault.LockFault.{LockFault}
use Rattle.cache_lock.specs.declared.fault.LockFault.TheVariants.{Memory, CoreNumbersSpent}

abbrev pub lock_fault_text : LockFault → List ℕ
lock_fault_text Memory = codes "out of memory"
lock_fault_text CoreNumbersSpent = codes "no number is left for a lock"
