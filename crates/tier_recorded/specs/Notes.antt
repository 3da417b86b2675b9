-- What a history keeps of an outcome.
use Rattle.std.specs.Prelude.{ℕ, List, length, Ok, Err}
use Rattle.cache_words.specs.Blake.{blake2b_128}
use Rattle.tier_model.specs.declared.event.Answer.{Answer}
use Rattle.tier_model.specs.declared.event.Answer.TheVariants as answer
use Rattle.tier_model.specs.declared.event.Done.{Done}
use Rattle.tier_model.specs.declared.event.TierFault.{TierFault}
use Rattle.tier_model.specs.declared.event.TierFault.TheVariants as fault
use Rattle.tier_model.specs.Calls.{Outcome}
use Rattle.tier_recorded.specs.declared.note.AnswerNote.{AnswerNote}
use Rattle.tier_recorded.specs.declared.note.AnswerNote.TheVariants as told
use Rattle.tier_recorded.specs.declared.note.DoneNote.{DoneNote}
use Rattle.tier_recorded.specs.declared.note.FaultNote.{FaultNote}
use Rattle.tier_recorded.specs.declared.note.FaultNote.TheVariants as refused
use Rattle.tier_recorded.specs.declared.note.Note.{Note}
use Rattle.tier_recorded.specs.declared.note.Note.TheVariants.{Answered, Uncacheable, Refused}

-- bytes that were read, by length and digest
abbrev pub bytes_note : List ℕ → AnswerNote
bytes_note bytes = told.Bytes (length bytes) (blake2b_128 bytes)

-- an answer, with length and digest for its bytes, and their number for its evicted entries
abbrev pub answer_note : Answer → Note
answer_note answer.Opened = Answered told.Opened
answer_note (answer.Found fresh complete lock) = Answered (told.Found fresh complete lock)
answer_note (answer.Absent lock) = Answered (told.Absent lock)
answer_note (answer.Waited ended) = Answered (told.Waited ended)
answer_note answer.Begun = Answered told.Begun
answer_note answer.Written = Answered told.Written
answer_note (answer.Bytes bytes) = Answered (bytes_note bytes)
answer_note answer.Pending = Answered told.Pending
answer_note answer.End = Answered told.End
answer_note answer.Dropped = Answered told.Dropped
answer_note (answer.Purged was_there) = Answered (told.Purged was_there)
answer_note (answer.Finished size evicted) = Answered (told.Finished size (length evicted))
answer_note (answer.Revalidated evicted) = Answered (told.Revalidated (length evicted))
answer_note (answer.Uncacheable reason) = Uncacheable reason

abbrev pub done_note : Done → DoneNote
done_note done = record { stored = done.stored; admitted = done.admitted; evicted = length done.evicted }

abbrev pub fault_note : TierFault → FaultNote
fault_note fault.NoRequest = refused.NoRequest
fault_note fault.IdInUse = refused.IdInUse
fault_note fault.WrongPhase = refused.WrongPhase
fault_note fault.Waiting = refused.Waiting
fault_note fault.AfterEnd = refused.AfterEnd
fault_note fault.BadHead = refused.BadHead
fault_note fault.WriteRemoved = refused.WriteRemoved
fault_note fault.BeforeEpoch = refused.BeforeEpoch
fault_note fault.Incomplete = refused.Incomplete
fault_note (fault.NumbersSpent done) = refused.NumbersSpent (done_note done)
fault_note (fault.TooHeavy done) = refused.TooHeavy (done_note done)
fault_note (fault.TooLong done) = refused.TooLong (done_note done)
fault_note (fault.Memory done) = refused.Memory (done_note done)
fault_note fault.Folder = refused.Folder
fault_note fault.NoRecord = refused.NoRecord
fault_note fault.NotStored = refused.NotStored

-- the note of an outcome
abbrev pub note_of : Outcome → Note
note_of (Ok answer) = answer_note answer
note_of (Err fault) = Refused (fault_note fault)
