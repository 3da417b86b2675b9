-- What the tier makes of the head of a response: of the one that a begin brings, and of one that confirms what is stored.
use Rattle.std.specs.Prelude.{◌≡◌, ◌==◌, List, ℕ, Bool, false, true, Option, Some, None, Result, Ok, Err}
use Rattle.cache_words.specs.Time.{MomentValue}
use Rattle.head_lines.specs.declared.header.ResponseHeader.{ResponseHeader}
use Rattle.cache_heads.specs.declared.given.GivenMeta.{GivenMeta}
use Rattle.cache_heads.specs.declared.reason.NoCacheReason.{NoCacheReason}
use Rattle.cache_heads.specs.declared.reason.NoCacheReason.TheVariants.{StorageError}
use Rattle.head_parse.specs.Response.{Reading, IsReading, head_of}
use Rattle.tier_model.specs.declared.event.TierFault.{TierFault}
use Rattle.tier_model.specs.declared.event.TierFault.TheVariants as fault
use Rattle.tier_model.specs.Response.{Judged, kept, not_kept, too_early, not_read, is_answered, judged_with, judged_alone}
use Rattle.tier_requests.specs.Faults.{out_of_memory}
use Rattle.tier_single.specs.declared.put.Verdict.{Verdict}
use Rattle.tier_single.specs.declared.put.Verdict.TheVariants.{Kept, NotKept}

-- ---- what is read

-- the bytes have that header, or none, by one of their readings
abbrev pub HasHead : List ℕ → Option ResponseHeader → Type 0
HasHead head header = (r : Reading) × IsReading head r × (head_of r ≡ header)

-- the head of a response is read, or refused
abbrev pub IsHeadIn : List ℕ → Result ResponseHeader TierFault → Type 0
IsHeadIn head (Ok header) = HasHead head (Some header)
IsHeadIn head (Err fault.BadHead) = HasHead head None
IsHeadIn head (Err f) = f ≡ out_of_memory

-- a header that confirms what is stored; with a given meta one that is answered, since the head is then the whole new one
abbrev pub confirms : Bool → Option ResponseHeader → Bool
confirms given None = false
confirms false (Some sent) = sent.status == 304
confirms true (Some header) = is_answered header.status

-- a head that confirms what is stored is read: one reading of the bytes gives the header that was sent, of such a status; or that gives none,
-- or one of another status
abbrev pub IsConfirming : Bool → List ℕ → Result ResponseHeader TierFault → Type 0
IsConfirming given head (Ok sent) = HasHead head (Some sent) × (confirms given (Some sent) ≡ true)
IsConfirming given head (Err fault.BadHead) = (r : Reading) × IsReading head r × (confirms given (head_of r) ≡ false)
IsConfirming given head (Err f) = f ≡ out_of_memory

-- ---- what it gives

abbrev pub verdict_in : Verdict → Judged
verdict_in (Kept meta) = kept meta
verdict_in (NotKept reason) = not_kept reason

-- what is made of a head that is not kept for that reason: the store's refusal stands for a moment before 1970
abbrev pub not_kept_by : NoCacheReason → Result Verdict TierFault
not_kept_by StorageError = Err fault.BeforeEpoch
not_kept_by reason = Ok (NotKept reason)

-- a header that comes at a moment is judged, by what the caller says of it or else by its lines, or refused
abbrev pub IsVerdictOn : Option GivenMeta → MomentValue → ResponseHeader → Result Verdict TierFault → Type 0
IsVerdictOn given t header (Ok v) = judged_with given t header ≡ verdict_in v
IsVerdictOn given t header (Err fault.BadHead) = judged_with given t header ≡ not_read
IsVerdictOn given t header (Err fault.BeforeEpoch) = judged_with given t header ≡ too_early
IsVerdictOn given t header (Err f) = f ≡ out_of_memory

-- the bytes give that, coming at a moment, by one of their readings
abbrev pub JudgesTo : Option GivenMeta → MomentValue → List ℕ → Judged → Type 0
JudgesTo given t head j = (r : Reading) × IsReading head r × (judged_alone given t (head_of r) ≡ j)

-- the head of a begin is judged, or refused
abbrev pub IsJudged : Option GivenMeta → MomentValue → List ℕ → Result Verdict TierFault → Type 0
IsJudged given t head (Ok v) = JudgesTo given t head (verdict_in v)
IsJudged given t head (Err fault.BadHead) = JudgesTo given t head not_read
IsJudged given t head (Err fault.BeforeEpoch) = JudgesTo given t head too_early
IsJudged given t head (Err f) = f ≡ out_of_memory
