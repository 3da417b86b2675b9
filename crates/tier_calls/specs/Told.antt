-- What an outcome tells in numbers: its status, and what comes with it.
use Rattle.std.specs.Prelude.{ℕ, Bool, true, false, List, [], ◌∷◌, length, Option, Some, None, unwrap_or, Ok, Err}
use Rattle.cache_entries.specs.declared.entry.CacheEntryKey.{CacheEntryKey}
use Rattle.cache_lock.specs.Status.{status_number}
use Rattle.tier_model.specs.declared.event.LockGiven.{LockGiven}
use Rattle.tier_model.specs.declared.event.LockGiven.TheVariants as lock
use Rattle.tier_model.specs.declared.event.Answer.{Answer}
use Rattle.tier_model.specs.declared.event.Answer.TheVariants as answer
use Rattle.tier_model.specs.declared.event.Done.{Done}
use Rattle.tier_model.specs.declared.event.TierFault.{TierFault}
use Rattle.tier_model.specs.declared.event.TierFault.TheVariants as fault
use Rattle.tier_model.specs.Calls.{Outcome, done_of}
use Rattle.tier_calls.specs.declared.structs.CallAnswer.{CallAnswer}

-- a status alone
abbrev pub plain : ℕ → CallAnswer
plain n = record {
  status = n;
  number = 0;
  evicted = 0;
  fresh = 0;
  complete = 0;
  permit = 0;
  stored = 0;
  admitted = 0;
  second = 0;
  third = 0;
  reserved = 0 ∷ 0 ∷ [];
}

abbrev pub flag : Bool → ℕ
flag true = 1
flag false = 0

-- a fault's number, as a trace's answers have it
abbrev pub fault_number : TierFault → ℕ
fault_number fault.NoRequest = 1
fault_number fault.IdInUse = 2
fault_number fault.WrongPhase = 3
fault_number fault.Waiting = 4
fault_number fault.AfterEnd = 5
fault_number fault.BadHead = 6
fault_number fault.WriteRemoved = 7
fault_number fault.BeforeEpoch = 8
fault_number fault.Incomplete = 9
fault_number (fault.NumbersSpent done) = 10
fault_number (fault.TooHeavy done) = 11
fault_number (fault.TooLong done) = 12
fault_number (fault.Memory done) = 13
fault_number fault.Folder = 14
fault_number fault.NoRecord = 15
fault_number fault.NotStored = 17

-- what was got of the permit to write
abbrev pub permit_number : LockGiven → ℕ
permit_number lock.None = 0
permit_number lock.Write = 1
permit_number lock.Read = 2

abbrev pub told_of_answer : Answer → CallAnswer
told_of_answer answer.Opened = plain 32
told_of_answer (answer.Found fresh complete lock) = record (plain 33) { fresh = flag fresh; complete = flag complete; permit = permit_number lock }
told_of_answer (answer.Absent lock) = record (plain 34) { permit = permit_number lock }
told_of_answer (answer.Waited (Some status)) = record (plain 35) { number = status_number status }
told_of_answer (answer.Waited None) = plain 36
told_of_answer answer.Begun = plain 37
told_of_answer answer.Written = plain 38
told_of_answer (answer.Bytes bytes) = record (plain 39) { number = length bytes }
told_of_answer answer.Pending = plain 40
told_of_answer answer.End = plain 41
told_of_answer answer.Dropped = plain 42
told_of_answer (answer.Purged true) = plain 43
told_of_answer (answer.Purged false) = plain 44
told_of_answer (answer.Finished size evicted) = record (plain 45) { number = size; evicted = length evicted }
told_of_answer (answer.Revalidated evicted) = record (plain 50) { evicted = length evicted }
told_of_answer (answer.Uncacheable reason) = record (plain 46) { number = 5 }

-- the same of a read: with the end, whether all of what it read came
abbrev pub told_with : Option Bool → Answer → CallAnswer
told_with whole answer.End = record (plain 41) { complete = flag (unwrap_or whole false) }
told_with whole a = told_of_answer a

-- a refusal, with what was done before it
abbrev pub told_done : ℕ → Done → CallAnswer
told_done n done = record (plain n) { evicted = length done.evicted; stored = flag done.stored; admitted = flag done.admitted }

abbrev pub told_of_fault : TierFault → CallAnswer
told_of_fault (fault.NumbersSpent done) = told_done 10 done
told_of_fault (fault.TooHeavy done) = told_done 11 done
told_of_fault (fault.TooLong done) = told_done 12 done
told_of_fault (fault.Memory done) = told_done 13 done
told_of_fault f = plain (fault_number f)

abbrev pub told_of : Outcome → CallAnswer
told_of (Ok answer) = told_of_answer answer
told_of (Err fault) = told_of_fault fault

-- what a read is told
abbrev pub read_told : Option Bool → Outcome → CallAnswer
read_told whole (Ok answer) = told_with whole answer
read_told whole (Err fault) = told_of_fault fault

-- the entries that an event evicted, also one that was refused
abbrev pub evicted_in : Outcome → List CacheEntryKey
evicted_in (Ok (answer.Finished size evicted)) = evicted
evicted_in (Ok (answer.Revalidated evicted)) = evicted
evicted_in (Ok _) = []
evicted_in (Err fault) = (done_of fault).evicted
