-- The lines that are written, without the line feed that ends each.
use Rattle.std.specs.Prelude.{ℕ, ◌==◌, if◌then◌else◌, Bool, true, false, List, [], ◌∷◌, ◌++◌, length, codes, Option, Some, None, Ok, Err}
use Rattle.std.specs.Fmt.{decimal}
use Rattle.hex.specs.Hex.{encode_lower}
use Rattle.cache_heads.specs.Reasons.{reason_name}
use Rattle.cache_lock.specs.declared.status.LockStatus.{LockStatus}
use Rattle.cache_lock.specs.declared.status.LockStatus.TheVariants as status
use Rattle.tier_model.specs.declared.event.LockGiven.{LockGiven}
use Rattle.tier_model.specs.declared.event.LockGiven.TheVariants as lock
use Rattle.tier_model.specs.declared.event.Answer.{Answer}
use Rattle.tier_model.specs.declared.event.Answer.TheVariants as answer
use Rattle.tier_model.specs.declared.event.TierFault.{TierFault}
use Rattle.tier_model.specs.declared.event.TierFault.TheVariants.{NoRequest, IdInUse, WrongPhase, Waiting, AfterEnd, BadHead, WriteRemoved, BeforeEpoch, Incomplete, NumbersSpent, TooHeavy, TooLong, Memory, Folder, NoRecord, NotStored}
use Rattle.tier_model.specs.declared.report.Report.{Report}
use Rattle.tier_model.specs.Calls.{Outcome}
use Rattle.trace_lines.specs.declared.line.Refusal.{Refusal}
use Rattle.trace_lines.specs.declared.line.Refusal.TheVariants.{NotJson, NotObject, Op, Field}
use Rattle.trace_lines.specs.declared.line.FieldName.{FieldName}
use Rattle.trace_lines.specs.declared.line.FieldName.TheVariants.{At, Id, Key, Digest, Variance, Tag, Lock, Head, Bytes, End, Pieces, Until, Created, Updated, Provenance, While, Error, External}

-- a fault's number and name
abbrev pub fault_label : TierFault → ℕ × List ℕ
fault_label NoRequest = (1, codes "NoRequest")
fault_label IdInUse = (2, codes "IdInUse")
fault_label WrongPhase = (3, codes "WrongPhase")
fault_label Waiting = (4, codes "Waiting")
fault_label AfterEnd = (5, codes "AfterEnd")
fault_label BadHead = (6, codes "BadHead")
fault_label WriteRemoved = (7, codes "WriteRemoved")
fault_label BeforeEpoch = (8, codes "BeforeEpoch")
fault_label Incomplete = (9, codes "Incomplete")
fault_label (NumbersSpent done) = (10, codes "NumbersSpent")
fault_label (TooHeavy done) = (11, codes "TooHeavy")
fault_label (TooLong done) = (12, codes "TooLong")
fault_label (Memory done) = (13, codes "Memory")
fault_label Folder = (14, codes "Folder")
fault_label NoRecord = (15, codes "NoRecord")
fault_label NotStored = (17, codes "NotStored")

abbrev pub freshness_text : Bool → List ℕ
freshness_text true = codes "fresh"
freshness_text false = codes "stale"

abbrev pub extent_text : Bool → List ℕ
extent_text true = codes "complete"
extent_text false = codes "partial"

abbrev pub found_text : Bool → Bool → List ℕ
found_text fresh complete = codes "found " ++ (freshness_text fresh ++ (codes " " ++ extent_text complete))

-- what was got of the permit to write
abbrev pub lock_text : LockGiven → List ℕ
lock_text lock.None = codes " lock=none"
lock_text lock.Write = codes " lock=write"
lock_text lock.Read = codes " lock=read"

-- how a wait ended
abbrev pub status_text : LockStatus → List ℕ
status_text status.Waiting = codes "waiting"
status_text status.Done = codes "done"
status_text status.TransientError = codes "transient-error"
status_text status.GiveUp = codes "give-up"
status_text status.Dangling = codes "dangling"
status_text status.WaitTimeout = codes "wait-timeout"
status_text status.AgeTimeout = codes "age-timeout"

-- none: it goes on
abbrev pub waited_text : Option LockStatus → List ℕ
waited_text None = codes "pending"
waited_text (Some status) = codes "waited " ++ status_text status

-- lower-case hex; a hyphen where there are none
abbrev pub bytes_text : List ℕ → List ℕ
bytes_text [] = codes "-"
bytes_text (b ∷ bs) = encode_lower (b ∷ bs)

abbrev pub purged_text : Bool → List ℕ
purged_text true = codes "purged"
purged_text false = codes "nothing"

abbrev pub answer_text : Answer → List ℕ
answer_text answer.Opened = codes "opened"
answer_text (answer.Found fresh complete lock) = found_text fresh complete ++ lock_text lock
answer_text (answer.Absent lock) = codes "absent" ++ lock_text lock
answer_text (answer.Waited status) = waited_text status
answer_text answer.Begun = codes "begun"
answer_text answer.Written = codes "written"
answer_text (answer.Bytes bytes) = codes "bytes " ++ bytes_text bytes
answer_text answer.Pending = codes "pending"
answer_text answer.End = codes "end"
answer_text answer.Dropped = codes "dropped"
answer_text (answer.Purged was_stored) = purged_text was_stored
answer_text (answer.Uncacheable reason) = codes "uncacheable " ++ reason_name reason
answer_text (answer.Finished size evicted) = codes "finished " ++ (decimal size ++ (codes " evicted=" ++ decimal (length evicted)))
answer_text (answer.Revalidated evicted) = codes "revalidated evicted=" ++ decimal (length evicted)

abbrev pub outcome_text : Outcome → List ℕ
outcome_text (Ok answer) = answer_text answer
outcome_text (Err fault) = codes "fault " ++ (decimal (fault_label fault).0 ++ (codes " " ++ (fault_label fault).1))

abbrev pub field_text : FieldName → List ℕ
field_text At = codes "at"
field_text Id = codes "id"
field_text Key = codes "key"
field_text Digest = codes "digest"
field_text Variance = codes "variance"
field_text Tag = codes "tag"
field_text Lock = codes "lock"
field_text Head = codes "head"
field_text Bytes = codes "bytes"
field_text End = codes "end"
field_text Pieces = codes "pieces"
field_text Until = codes "until"
field_text Created = codes "created"
field_text Updated = codes "updated"
field_text Provenance = codes "provenance"
field_text While = codes "while"
field_text Error = codes "error"
field_text External = codes "external"

abbrev pub reason_text : Refusal → List ℕ
reason_text NotJson = codes "NotJson"
reason_text NotObject = codes "NotObject"
reason_text Op = codes "Op"
reason_text (Field field) = codes "Field " ++ field_text field

abbrev pub refusal_text : Refusal → List ℕ
refusal_text refusal = codes "refused " ++ reason_text refusal

-- the look-ups by their answers
abbrev pub look_ups_text : Report → List ℕ
look_ups_text r = codes "found=" ++ (decimal r.found ++ (codes " absent=" ++ decimal r.absent))

-- the bodies with their bytes and their metas
abbrev pub bodies_text : Report → List ℕ
bodies_text r = codes "bodies=" ++ (decimal r.bodies ++ (codes " bytes=" ++ (decimal r.bytes ++ (codes " meta=" ++ decimal r.meta))))

-- the entries, their weights, and how many went
abbrev pub entries_text : Report → List ℕ
entries_text r = codes "tracked=" ++ (decimal r.tracked ++ (codes " weight=" ++ (decimal r.weight ++ (codes " evicted=" ++ decimal r.evicted))))

-- what bodies have outside; nothing where they have none
abbrev pub external_text : ℕ → List ℕ
external_text n = if n == 0 then [] else (codes " external=" ++ decimal n)

abbrev pub report_text : Report → List ℕ
report_text r = codes "report " ++ (look_ups_text r ++ (codes " " ++ (bodies_text r ++ (codes " " ++ (entries_text r ++ external_text r.external)))))
