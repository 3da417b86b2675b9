-- The rows of single events: what each may answer in a state, and its faults.
use Rattle.std.specs.Prelude.{◌≡◌, ◌==◌, ℕ, ◌-◌, ◌^◌, Bool, true, false, ◌&&◌, not, List, [], ◌∷◌, length, if◌then◌else◌, Option, Some, None, option_map, option_and_then, ◌⊎◌, unwrap_or}
use Rattle.std.specs.FinMap.{get}
use Rattle.cache_words.specs.Time.{MomentValue, DurationValue, span_of, at_most, at_least, difference}
use Rattle.cache_heads.specs.declared.meta.CacheMeta.{CacheMeta}
use Rattle.cache_entries.specs.declared.entry.CacheEntryKey.{CacheEntryKey}
use Rattle.cache_entries.specs.Entry.{key_of}
use Rattle.cache_changes.specs.Changes.{StoredKey, stored_key}
use Rattle.cache_evict.specs.Managed.{Managed, put_first, use_first, weighed_anew, Fits, IsHeavy, IsLong, IsFull, HasNoOtherReason}
use Rattle.cache_lock.specs.Answers.{to_wait_for, wait_outcome}
use Rattle.cache_lock.specs.State.{LockState, status_of}
use Rattle.cache_lock.specs.declared.fills.WaitOutcome.{WaitOutcome}
use Rattle.cache_lock.specs.declared.fills.WaitOutcome.TheVariants as wait
use Rattle.cache_lock.specs.declared.status.LockStatus.{LockStatus}
use Rattle.cache_lock.specs.declared.status.LockStatus.TheVariants as status
use Rattle.tier_model.specs.Keys.{alone}
use Rattle.tier_model.specs.Evictions.{GoInTurn}
use Rattle.tier_model.specs.declared.state.Body.{Body}
use Rattle.tier_model.specs.declared.whole.PutVerdict.{PutVerdict}
use Rattle.tier_model.specs.declared.whole.PutVerdict.TheVariants as whole
use Rattle.tier_model.specs.declared.event.Answer.TheVariants as answer
use Rattle.tier_model.specs.declared.event.TierFault.TheVariants as fault
use Rattle.tier_model.specs.declared.event.LockGiven.{LockGiven}
use Rattle.tier_model.specs.declared.event.LockGiven.TheVariants as lock
use Rattle.tier_model.specs.declared.event.Answer.{Answer}
use Rattle.tier_model.specs.declared.event.Answer.TheVariants.{Found, Absent, Begun, Bytes, Pending, End, Finished, Revalidated}
use Rattle.tier_model.specs.declared.event.Done.{Done}
use Rattle.tier_model.specs.declared.event.TierFault.{TierFault}
use Rattle.tier_model.specs.declared.event.TierFault.TheVariants.{NumbersSpent, TooHeavy, TooLong, Memory}
use Rattle.tier_model.specs.Response.{Judged, kept, not_kept, too_early, not_read}
use Rattle.tier_model.specs.Calls.{Call, nothing_done, confirmed_of}
use Rattle.tier_model.specs.Rows.{FinishedBody, body_of, number_at, weight_for}
use Rattle.tier_model.specs.Shelf.{InFlight, Shelf, flying_at, Look, absent, in_flight, finished, look, readable, past_place, is_at_end, is_whole}
use Rattle.tier_model.specs.Standings.{time_waited}
use Rattle.tier_model.specs.State.{LockHold, waits, Reader, closed, unread, spent, streaming, Seen, Request, State, shards_of}

-- ---- look-ups

abbrev pub key_for : Request → StoredKey
key_for q = stored_key (key_of q.entry)

-- what a request finds
abbrev pub look_for : Request → Shelf → Look
look_for q shelf = look (key_for q) shelf

abbrev pub is_fresh : MomentValue → CacheMeta → Bool
is_fresh t meta = at_most t meta.internal.fresh_until

-- it is found, and fresh
abbrev pub finds_fresh : MomentValue → Look → Bool
finds_fresh t absent = false
finds_fresh t (in_flight f) = is_fresh t f.meta
finds_fresh t (finished x) = is_fresh t x.body.meta

-- the lock is asked: the request asks for it, and finds nothing, or something past its moment
abbrev pub asks_now : MomentValue → Request → Look → Bool
asks_now t q l = q.asks && not (finds_fresh t l)

-- what is given to one that asks: the permit, where there is no core to wait for
abbrev pub given_for : Option ℕ → LockGiven
given_for None = lock.Write
given_for (Some n) = lock.Read

abbrev pub given_if : Bool → Option ℕ → LockGiven
given_if false core = lock.None
given_if true core = given_for core

abbrev pub lock_given : MomentValue → Request → Look → LockState → LockGiven
lock_given t q l locks = given_if (asks_now t q l) (to_wait_for (key_for q) locks)

abbrev pub look_answer : MomentValue → LockGiven → Look → Answer
look_answer t given absent = Absent given
look_answer t given (in_flight f) = Found (is_fresh t f.meta) false given
look_answer t given (finished x) = Found (is_fresh t x.body.meta) true given

-- ---- waits

-- how a wait ends by what the lock reports, else by the longest wait
abbrev pub ended_by : Option WaitOutcome → LockStatus → Bool → Option LockStatus
ended_by (Some wait.Released) ended over = Some ended
ended_by (Some wait.AgeTimeout) ended over = Some status.AgeTimeout
ended_by _ ended over = if over then Some status.WaitTimeout else None

-- this wait took what earlier ones left of the longest wait
abbrev pub is_past : Option DurationValue → Option DurationValue → DurationValue → Bool
is_past None waited now = false
is_past (Some longest) waited now = at_least now (difference longest (unwrap_or waited (span_of 0)))

-- what a poll reports of a wait for core n
abbrev pub polled : LockState → MomentValue → Request → LockHold → Option LockStatus
polled s t q (waits n first) = ended_by (wait_outcome n [] t s) (status_of n s) (is_past q.wait q.waited (time_waited first t))
polled s t q _ = None

-- ---- reads

abbrev pub next_by : List ℕ → Bool → Answer
next_by [] true = End
next_by [] false = Pending
next_by (b ∷ bytes) over = Bytes (b ∷ bytes)

-- what comes next of a write, or that none is there yet, or none comes
abbrev pub next_of : List ℕ × Bool → Answer
next_of ahead = next_by ahead.0 ahead.1

-- what a reader gives next
abbrev pub read_answer : Reader → Shelf → Answer
read_answer closed shelf = End
read_answer (unread bytes) shelf = Bytes bytes
read_answer spent shelf = End
read_answer (streaming n place) shelf = next_of (past_place place (readable n shelf))

-- whether all came of what is read, where it was read to its end and no more comes: a body did; a write as it comes may have been given up before
abbrev pub whole_read : Reader → Shelf → Option Bool
whole_read closed shelf = None
whole_read (unread bytes) shelf = None
whole_read spent shelf = Some true
whole_read (streaming n place) shelf = if is_at_end (past_place place (readable n shelf)) then Some (is_whole n shelf) else None

-- the same of the request of that number, where it is open
abbrev pub whole_told : State → ℕ → Option Bool
whole_told s id = option_and_then (λ q. whole_read q.reader s.shelf) (get s.requests id)

-- ---- finished bodies

-- the body that was stored is gone again
abbrev pub stored_alone : Done
stored_alone = record { stored = true; admitted = false; evicted = [] }

-- the body is stored and its entry admitted, these are evicted, and then the body is taken back
abbrev pub all_done : List CacheEntryKey → Done
all_done evicted = record { stored = true; admitted = true; evicted = evicted }

-- the order of use with the entry of a body put first
abbrev pub admitted : State → FinishedBody → Managed
admitted s b = put_first (shards_of s) (alone b.entry) (weight_for b.body) s.managed

-- the order of use after a use of an entry for which that body was found
abbrev pub used : State → CacheEntryKey → Body → Managed
used s e b = use_first (shards_of s) e (weight_for b) s.managed

-- why an entry of that weight is kept out of the order of use, and what was done until then; memory is reported only of an entry that isn't
-- tracked, where nothing else keeps it out
abbrev pub IsKeptOut : State → CacheEntryKey → ℕ → Done → TierFault → Type 0
IsKeptOut s e w done (Memory told) = (told ≡ done) × HasNoOtherReason (shards_of s) e w s.managed
IsKeptOut s e w done (TooHeavy told) = (told ≡ done) × IsHeavy (shards_of s) e w s.managed
IsKeptOut s e w done (TooLong told) = (told ≡ done) × IsLong (shards_of s) e s.managed
IsKeptOut s e w done (NumbersSpent told) = (told ≡ done) × IsFull (shards_of s) e s.managed
IsKeptOut s e w done _ = ⊥

-- the body is stored, and what went to make room for it is enough
abbrev pub IsStored : State → FinishedBody → Answer → Type 0
IsStored s b (Finished n evicted) = (n ≡ length b.body.bytes) × Fits (shards_of s) (admitted s b) × GoInTurn (shards_of s) false evicted (admitted s b)
IsStored s b _ = ⊥

-- what a put may answer, by what it finishes and what its response gives
abbrev pub IsPutAnswer : State → Option FinishedBody → Option PutVerdict → Answer → Type 0
IsPutAnswer s (Some b) w a = IsStored s b a
IsPutAnswer s None (Some (whole.Uncacheable reason)) (answer.Uncacheable shown) = shown ≡ reason
IsPutAnswer s _ _ _ = ⊥

-- memory ran out in the midst of the evictions, after an admission that fits
abbrev pub IsCutShort : State → FinishedBody → TierFault → Type 0
IsCutShort s b f = (evicted : List CacheEntryKey) × (f ≡ Memory (all_done evicted)) × Fits (shards_of s) (admitted s b) × GoInTurn (shards_of s) true evicted (admitted s b)

-- why a body that was stored is taken back
abbrev pub IsStoreFault : State → FinishedBody → TierFault → Type 0
IsStoreFault s b f = IsKeptOut s (alone b.entry) (weight_for b.body) stored_alone f ⊎ IsCutShort s b f

-- no number is left for a write
abbrev pub HasNoNumber : State → TierFault → Type 0
HasNoNumber s f = (f ≡ NumbersSpent nothing_done) × (s.shelf.writes ≡ 2 ^ 64 - 1)

-- the faults of a put but for memory that is refused before anything is stored
abbrev pub IsPutFault : State → Option FinishedBody → Option PutVerdict → TierFault → Type 0
IsPutFault s (Some b) w f = HasNoNumber s f ⊎ IsStoreFault s b f
IsPutFault s None (Some whole.Incomplete) f = f ≡ fault.Incomplete
IsPutFault s None (Some whole.BadHead) f = f ≡ fault.BadHead
IsPutFault s None (Some whole.BeforeEpoch) f = f ≡ fault.BeforeEpoch
IsPutFault s None _ f = ⊥

-- ---- begins and finishes

-- what a begin may answer, by what its head gives
abbrev pub IsBeginAnswer : Option Judged → Answer → Type 0
IsBeginAnswer (Some (kept meta)) a = a ≡ Begun
IsBeginAnswer (Some (not_kept reason)) a = a ≡ answer.Uncacheable reason
IsBeginAnswer _ a = ⊥

-- the faults of a begin but for memory
abbrev pub IsBeginFault : State → Option Judged → TierFault → Type 0
IsBeginFault s (Some (kept meta)) f = HasNoNumber s f
IsBeginFault s (Some not_read) f = f ≡ fault.BadHead
IsBeginFault s (Some too_early) f = f ≡ fault.BeforeEpoch
IsBeginFault s _ f = ⊥

-- ---- revalidations

-- what the request's last look-up found past its moment, if it did
abbrev pub seen_meta : Request → Option CacheMeta
seen_meta q = option_map (λ x. x.meta) q.seen

-- what the event's head gives for that
abbrev pub confirmed_for : Request → Call → Option Judged
confirmed_for q c = confirmed_of (seen_meta q) c

abbrev pub is_that_write : Option Seen → Option ℕ → Bool
is_that_write (Some x) (Some n) = x.number == n
is_that_write _ _ = false

-- that is the body of its key
abbrev pub is_body_seen : Request → Shelf → Bool
is_body_seen q shelf = is_that_write q.seen (number_at (key_for q) shelf.bodies)

abbrev pub weight_with : Option Body → CacheMeta → ℕ
weight_with None meta = 0
weight_with (Some b) meta = weight_for (record b { meta = meta })

-- what the body of its key weighs with another meta
abbrev pub weight_then : Request → CacheMeta → Shelf → ℕ
weight_then q meta shelf = weight_with (body_of (key_for q) shelf.bodies) meta

-- the order of use with its entry weighed anew, with that meta
abbrev pub reweighed : State → Request → CacheMeta → Managed
reweighed s q meta = weighed_anew (shards_of s) q.entry (weight_then q meta s.shelf) s.managed

-- it is renewed, and what went to make room is enough
abbrev pub IsRenewed : State → Request → CacheMeta → Answer → Type 0
IsRenewed s q meta (Revalidated evicted) = Fits (shards_of s) (reweighed s q meta) × GoInTurn (shards_of s) false evicted (reweighed s q meta)
IsRenewed s q meta _ = ⊥

abbrev pub IsConfirmed : State → Request → Option Judged → Answer → Type 0
IsConfirmed s q (Some (kept meta)) a = IsRenewed s q meta a
IsConfirmed s q (Some (not_kept reason)) a = a ≡ answer.Uncacheable reason
IsConfirmed s q _ a = ⊥

-- what a revalidation may answer, by what its head gives: only of the body that was found
abbrev pub IsRevalidateAnswer : State → Request → Option Judged → Answer → Type 0
IsRevalidateAnswer s q j a = (is_body_seen q s.shelf ≡ true) × IsConfirmed s q j a

-- memory ran out in the midst of the evictions, after the entry was weighed anew
abbrev pub IsRenewedShort : State → Request → CacheMeta → TierFault → Type 0
IsRenewedShort s q meta f =
    (evicted : List CacheEntryKey) × (f ≡ Memory (all_done evicted)) × Fits (shards_of s) (reweighed s q meta) × GoInTurn (shards_of s) true evicted (reweighed s q meta)

-- the faults of a revalidation where what was found is the body of its key: the body isn't renewed, or not for long
abbrev pub IsRenewalFault : State → Request → Judged → TierFault → Type 0
IsRenewalFault s q (kept meta) f = IsKeptOut s q.entry (weight_then q meta s.shelf) nothing_done f ⊎ IsRenewedShort s q meta f
IsRenewalFault s q too_early f = f ≡ fault.BeforeEpoch
IsRenewalFault s q _ f = ⊥

-- the same, or what was found isn't the body of its key, or no longer
abbrev pub IsFaultBy : Bool → State → Request → Judged → TierFault → Type 0
IsFaultBy true s q j f = IsRenewalFault s q j f
IsFaultBy false s q j f = f ≡ fault.NotStored

-- the faults of a revalidation but for memory with nothing done: a head that isn't one of status 304 is refused first, then a body that is gone
abbrev pub IsRevalidateFault : State → Request → Option Judged → TierFault → Type 0
IsRevalidateFault s q (Some not_read) f = f ≡ fault.BadHead
IsRevalidateFault s q (Some j) f = IsFaultBy (is_body_seen q s.shelf) s q j f
IsRevalidateFault s q None f = ⊥

-- ---- writes of requests

-- the body that a write in flight is, under the entry of its request; none where it isn't there, or met a removal
abbrev pub body_under : CacheEntryKey → Option InFlight → Option FinishedBody
body_under e None = None
body_under e (Some f) = if f.removed then None else Some (record { entry = key_of e; body = record { bytes = f.bytes; meta = f.meta } })

abbrev pub flight_of : Option ℕ → Shelf → Option InFlight
flight_of None shelf = None
flight_of (Some n) shelf = flying_at n shelf.flying

-- the body that a finish finishes
abbrev pub finishing : Request → Shelf → Option FinishedBody
finishing q shelf = body_under q.entry (flight_of q.write shelf)

-- why a finish is refused: the write was removed; or else, with nothing done, for the memory that its body and its entry take, which
-- comes before the entry is admitted; or as a put of its body
abbrev pub IsFinishFault : State → Option FinishedBody → TierFault → Type 0
IsFinishFault s None f = f ≡ fault.WriteRemoved
IsFinishFault s (Some b) f = (f ≡ Memory nothing_done) ⊎ IsStoreFault s b f
