-- What a tier reports of faults.
use Rattle.cache_evict.specs.declared.fault.EvictFault.{EvictFault}
use Rattle.cache_evict.specs.declared.fault.EvictFault.TheVariants as evict
use Rattle.cache_lock.specs.declared.fault.LockFault.{LockFault}
use Rattle.cache_lock.specs.declared.fault.LockFault.TheVariants as lock
use Rattle.cache_store.specs.declared.storage.StoreFault.{StoreFault}
use Rattle.cache_store.specs.declared.storage.StoreFault.TheVariants as store
use Rattle.tier_model.specs.declared.event.Done.{Done}
use Rattle.tier_model.specs.declared.event.TierFault.{TierFault}
use Rattle.tier_model.specs.declared.event.TierFault.TheVariants.{Memory, TooHeavy, TooLong, NumbersSpent, Folder}
use Rattle.tier_model.specs.Calls.{nothing_done}

-- there is no memory, and nothing was done
abbrev pub out_of_memory : TierFault
out_of_memory = Memory nothing_done

-- a fault of the order of use, after what was done
abbrev pub fault_for : EvictFault → Done → TierFault
fault_for (evict.Memory v) done = Memory done
fault_for (evict.Weight v) done = TooHeavy done
fault_for (evict.Length v) done = TooLong done
fault_for (evict.NumbersSpent v) done = NumbersSpent done
fault_for (evict.File v) done = Folder

-- a fault of the lock
abbrev pub lock_fault_for : LockFault → TierFault
lock_fault_for lock.Memory = out_of_memory
lock_fault_for lock.CoreNumbersSpent = NumbersSpent nothing_done

-- why a write didn't begin: no number is left, or no memory
abbrev pub begin_fault_for : StoreFault → TierFault
begin_fault_for store.WriteNumbersSpent = NumbersSpent nothing_done
begin_fault_for _ = out_of_memory
