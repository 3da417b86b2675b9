-- One event: the answers and faults that a state allows.
use Rattle.std.specs.Prelude.{◌≡◌, ◌≢◌, ℕ, ◌-◌, ◌^◌, Bool, true, false, ◌&&◌, not, [], if◌then◌else◌, Option, Some, None, is_some, Err, MatchResult, MatchOption, ◌⊎◌}
use Rattle.std.specs.FinMap.{get}
use Rattle.cache_words.specs.Time.{MomentValue}
use Rattle.cache_entries.specs.Rows.{weight_of}
use Rattle.cache_evict.specs.Managed.{rows_of, Fits}
use Rattle.cache_lock.specs.Answers.{to_wait_for, IsSpent}
use Rattle.tier_model.specs.Keys.{stored_key_of}
use Rattle.tier_model.specs.declared.event.LockGiven.TheVariants as lock
use Rattle.tier_model.specs.declared.event.Action.{Action}
use Rattle.tier_model.specs.declared.event.Action.TheVariants.{Open, LookUp, Poll, Begin, Revalidate, Piece, Finish, Read, Drop, Purge, Put}
use Rattle.tier_model.specs.declared.event.Answer.{Answer}
use Rattle.tier_model.specs.declared.event.Answer.TheVariants.{Opened, Waited, Written, Dropped, Purged}
use Rattle.tier_model.specs.declared.event.TierFault.{TierFault}
use Rattle.tier_model.specs.declared.event.TierFault.TheVariants.{NumbersSpent, Memory}
use Rattle.tier_model.specs.Response.{Judged, kept, not_read, IsRead}
use Rattle.tier_model.specs.Calls.{Call, Outcome, nothing_done, judged_of, read_by, finished_by, has_stored, is_begun}
use Rattle.tier_model.specs.Rows.{FinishedBody, weight_for}
use Rattle.tier_model.specs.declared.whole.PutVerdict.{PutVerdict}
use Rattle.tier_model.specs.Shelf.{Shelf, Look, finished, look, is_there, readable, past_place}
use Rattle.tier_model.specs.State.{Reader, streaming, Request, State, shards_of}
use Rattle.tier_model.specs.Checks.{refusal}
use Rattle.tier_model.specs.Answers.{key_for, look_for, asks_now, lock_given, look_answer, polled, read_answer, used, IsKeptOut, IsStored, IsPutAnswer, IsPutFault, IsBeginAnswer}
use Rattle.tier_model.specs.Answers.{IsBeginFault, confirmed_for, is_body_seen, IsRevalidateAnswer, IsRevalidateFault, finishing, IsFinishFault}

-- each shard is within its bound after the use of what a request found
abbrev pub UseFits : State → Request → Look → Type 0
UseFits s q (finished x) = Fits (shards_of s) (used s q.entry x.body)
UseFits s q _ = Unit {0}

-- what is said of an open request
abbrev pub OfRequest : State → ℕ → (Request → Type 0) → Type 0
OfRequest s id P = MatchOption (get s.requests id) ⊥ P

-- the answers to an event that is not refused
abbrev pub IsAnswer : State → MomentValue → Action → Call → Answer → Type 0
IsAnswer s t (Open id key asks) c a = a ≡ Opened
IsAnswer s t (LookUp id) c a =
    OfRequest s id (λ q. (a ≡ look_answer t (lock_given t q (look_for q s.shelf) s.lock) (look_for q s.shelf)) × UseFits s q (look_for q s.shelf))
IsAnswer s t (Poll id) c a = OfRequest s id (λ q. a ≡ Waited (polled s.lock t q q.held))
IsAnswer s t (Begin id head given) c a = IsBeginAnswer (judged_of c) a
IsAnswer s t (Revalidate id head given) c a = OfRequest s id (λ q. IsRevalidateAnswer s q (confirmed_for q c) a)
IsAnswer s t (Piece id bytes last) c a = a ≡ Written
IsAnswer s t (Finish id) c a = OfRequest s id (λ q. MatchOption (finishing q s.shelf) ⊥ (λ b. IsStored s b a))
IsAnswer s t (Read id) c a = OfRequest s id (λ q. a ≡ read_answer q.reader s.shelf)
IsAnswer s t (Drop id) c a = a ≡ Dropped
IsAnswer s t (Purge key) c a = a ≡ Purged (is_there (look (stored_key_of key) s.shelf))
IsAnswer s t (Put key pieces given) c a = IsPutAnswer s (finished_by c) (read_by c) a

-- a read takes memory only of a write as it comes, where there are bytes to read
abbrev pub HasNews : Reader → Shelf → Type 0
HasNews (streaming n place) shelf = (past_place place (readable n shelf)).0 ≢ []
HasNews _ shelf = ⊥

-- a look-up takes memory only where it finds something, before the lock and the order of use are asked, or for a new permit, for which
-- a number is left
abbrev pub IsDue : State → MomentValue → Request → Look → Type 0
IsDue s t q l = (is_there l ≡ true) ⊎ ((lock_given t q l s.lock ≡ lock.Write) × (s.lock.next ≢ 2 ^ 64 - 1))

-- a begin takes memory until its head is known, and then only of one that is kept, for a write, for which a number is left
abbrev pub BeginTakes : State → Option Judged → Type 0
BeginTakes s None = Unit {0}
BeginTakes s (Some (kept meta)) = s.shelf.writes ≢ 2 ^ 64 - 1
BeginTakes s (Some _) = ⊥

-- a revalidation takes memory until its head is known, and then only for the body that was found: for its merged head before that is judged
abbrev pub RevalidateTakes : Request → Shelf → Option Judged → Type 0
RevalidateTakes q shelf None = Unit {0}
RevalidateTakes q shelf (Some not_read) = ⊥
RevalidateTakes q shelf (Some j) = is_body_seen q shelf ≡ true

-- a put takes memory until its response is known, and then only for a body, where a number is left for its write
abbrev pub PutTakes : State → Option FinishedBody → Option PutVerdict → Type 0
PutTakes s b None = Unit {0}
PutTakes s (Some b) (Some w) = s.shelf.writes ≢ 2 ^ 64 - 1
PutTakes s None (Some w) = ⊥

-- where a growth may be refused, with nothing done: no refusal that comes before it in the order of work holds
abbrev pub MayTakeMemory : State → MomentValue → Action → Call → Type 0
MayTakeMemory s t (Open id key asks) c = Unit {0}
MayTakeMemory s t (LookUp id) c = OfRequest s id (λ q. IsDue s t q (look_for q s.shelf))
MayTakeMemory s t (Begin id head given) c = BeginTakes s (judged_of c)
MayTakeMemory s t (Revalidate id head given) c = OfRequest s id (λ q. RevalidateTakes q s.shelf (confirmed_for q c))
MayTakeMemory s t (Piece id bytes last) c = Unit {0}
MayTakeMemory s t (Read id) c = OfRequest s id (λ q. HasNews q.reader s.shelf)
MayTakeMemory s t (Put key pieces given) c = PutTakes s (finished_by c) (read_by c)
MayTakeMemory s t _ c = ⊥

-- why the entry of what a request found isn't used: it isn't tracked, and is kept out
abbrev pub IsUseFault : State → Request → Look → TierFault → Type 0
IsUseFault s q (finished x) f = (weight_of q.entry (rows_of (shards_of s) q.entry s.managed) ≡ None) × IsKeptOut s q.entry (weight_for x.body) nothing_done f
IsUseFault s q _ f = ⊥

-- the lock has no number left for what is asked of it
abbrev pub IsLockFault : State → MomentValue → Request → TierFault → Type 0
IsLockFault s t q f = (f ≡ NumbersSpent nothing_done) × (asks_now t q (look_for q s.shelf) ≡ true) × IsSpent s.lock (to_wait_for (key_for q) s.lock)

-- the faults that come after the checks, but for memory that is refused with nothing done
abbrev pub IsLateFault : State → MomentValue → Action → Call → TierFault → Type 0
IsLateFault s t (LookUp id) c f = OfRequest s id (λ q. IsUseFault s q (look_for q s.shelf) f ⊎ IsLockFault s t q f)
IsLateFault s t (Begin id head given) c f = IsBeginFault s (judged_of c) f
IsLateFault s t (Revalidate id head given) c f = OfRequest s id (λ q. IsRevalidateFault s q (confirmed_for q c) f)
IsLateFault s t (Finish id) c f = OfRequest s id (λ q. IsFinishFault s (finishing q s.shelf) f)
IsLateFault s t (Put key pieces given) c f = IsPutFault s (finished_by c) (read_by c) f
IsLateFault s t _ c f = ⊥

abbrev pub IsFault : State → MomentValue → Action → Call → TierFault → Type 0
IsFault s t action c f = ((f ≡ Memory nothing_done) × MayTakeMemory s t action c) ⊎ IsLateFault s t action c f

-- the first refusal, exactly where one holds, and else an answer of the event's row or a fault after the checks
abbrev pub AllowsBy : Option TierFault → State → MomentValue → Action → Call → Outcome → Type 0
AllowsBy (Some f) s t action c outcome = outcome ≡ Err f
AllowsBy None s t action c outcome = MatchResult outcome (IsAnswer s t action c) (IsFault s t action c)

-- ---- what happened besides

-- whether a write began: of a body to finish or a head that is kept, where a number is left, and always where it is reported
abbrev pub BeginsWrite : State → Bool → Bool → Bool → Type 0
BeginsWrite s may told true = (may ≡ true) × (s.shelf.writes ≢ 2 ^ 64 - 1)
BeginsWrite s may told false = told ≡ false

abbrev pub is_kept : Option Judged → Bool
is_kept (Some (kept meta)) = true
is_kept _ = false

-- what a call may begin a write of: the body of a put; where no check fails, a head that is kept
abbrev pub may_begin : State → Call → Bool
may_begin s c = if is_some (finished_by c) then true else is_kept (judged_of c) && not (is_some (refusal s c.event.action))

abbrev pub tells_of_write : Call → Bool
tells_of_write c = if is_some (finished_by c) then has_stored c.outcome else is_begun c.outcome

-- a look-up was given a lock only where no check failed and the lock was to be asked
abbrev pub AsksLock : State → MomentValue → Action → Bool → Type 0
AsksLock s t action false = Unit {0}
AsksLock s t (LookUp id) true = (refusal s (LookUp id) ≡ None) × OfRequest s id (λ q. asks_now t q (look_for q s.shelf) ≡ true)
AsksLock s t action true = ⊥

-- what a state allows for a call
pub record Allows (s : State) (c : Call) : Type 0 where
  pub read : IsRead c.event.action c.reading
  pub outcome : AllowsBy (refusal s c.event.action) s c.event.moment c.event.action c c.outcome
  pub begins : BeginsWrite s (may_begin s c) (tells_of_write c) c.began
  pub asks : AsksLock s c.event.moment c.event.action c.asked
