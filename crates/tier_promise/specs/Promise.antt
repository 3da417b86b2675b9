-- The whole promise of a tier in one file. Read it from the end: `Keeps` is what the events that a new tier was given, and its outcomes, keep; `Promise`
-- what holds of all calls; `IsRight` of one, by the calls before it; `row_of_call` the row of each event: its one answer, what it changes, what it takes.
-- What it names of other files: of heads `Response`, `with_provenance_of`, `is_fresh` and `seen_past`; of time `elapsed`, `at_least`, `is_past`, `in_all`,
-- `time_waited` and `told_in_time`; of rows of entries `admitted`, `without_row`, `is_over`, `reweighed`, `IsLast`, `in_shards` and `pick_by_draws`; of weights
-- `size_of` and `weight_for`; of reads and refusals `next_by`, `stored_alone`, `all_done` and `nothing_done`; and of calls `Calls`.
-- Where a caller gives the meta of a write or a renewal, that says until when it is fresh, and what the body has outside the tier weighs too.
use Rattle.std.specs.Prelude.{◌≡◌, ◌≢◌, ◌↔◌, ℕ, ◌==◌, ◌≤◌, ◌<◌, ◌+◌, ◌-◌, ◌*◌, ◌^◌, ◌⊎◌, max, nat_lt, Bool, true, false, ◌&&◌, ◌||◌, not, List, [], ◌∷◌, ◌++◌, length, drop, map, find, filter, if◌then◌else◌}
use Rattle.std.specs.Prelude.{Option, Some, None, option_map, option_and_then, unwrap_or, is_some, Ok, Err, IfSome}
use Rattle.std.specs.Option.{option_or}
use Rattle.std.specs.List.{sum_by, AllByRecursion}
use Rattle.rand_core.specs.Stream.{Stream}
use Rattle.cache_words.specs.Time.{MomentValue, DurationValue, at_least, elapsed}
use Rattle.cache_heads.specs.Merged.{with_provenance_of}
use Rattle.cache_heads.specs.declared.meta.CacheMeta.{CacheMeta}
use Rattle.cache_entries.specs.declared.entry.CacheEntryKey.{CacheEntryKey}
use Rattle.cache_entries.specs.declared.rows.Tracked.{Tracked}
use Rattle.cache_entries.specs.Keys.{same_bytes}
use Rattle.cache_entries.specs.Rows.{all_weights, weight_of, without_row, admitted, is_over}
use Rattle.cache_changes.specs.Changes.{StoredKey, stored_key}
use Rattle.cache_changes.specs.Uses.{shard_of, in_shard, reweighed, IsLast}
use Rattle.cache_changes.specs.Bound.{is_entry_of}
use Rattle.cache_evict.specs.Managed.{pick_by_draws}
use Rattle.cache_lock.specs.declared.status.LockStatus.{LockStatus}
use Rattle.cache_lock.specs.declared.status.LockStatus.TheVariants as status
use Rattle.lru_core.specs.Cores.{shard_bound}
use Rattle.lru_core.specs.declared.rows.TheConstants.{MOST_ROWS}
use Rattle.tier_model.specs.declared.event.Event.{Event}
use Rattle.tier_model.specs.declared.event.Action.{Action}
use Rattle.tier_model.specs.declared.event.Action.TheVariants as on
use Rattle.tier_model.specs.declared.event.Answer.{Answer}
use Rattle.tier_model.specs.declared.event.Answer.TheVariants as answer
use Rattle.tier_model.specs.declared.event.Done.{Done}
use Rattle.tier_model.specs.declared.event.LockGiven.{LockGiven}
use Rattle.tier_model.specs.declared.event.LockGiven.TheVariants as lock
use Rattle.tier_model.specs.declared.event.TierFault.{TierFault}
use Rattle.tier_model.specs.declared.event.TierFault.TheVariants as fault
use Rattle.tier_model.specs.declared.state.Body.{Body}
use Rattle.tier_model.specs.declared.whole.PutVerdict.{PutVerdict}
use Rattle.tier_model.specs.declared.whole.PutVerdict.TheVariants as whole
use Rattle.tier_model.specs.Keys.{Entry, entry_of, alone}
use Rattle.tier_model.specs.Response.{Judged, kept, not_kept, too_early, not_read, IsRead}
use Rattle.tier_model.specs.Calls.{Call, History, Outcome, AreCallsOf, extended, nothing_done, done_of, read_by, judged_of, confirmed_of}
use Rattle.tier_model.specs.Rows.{size_of, weight_for}
use Rattle.tier_model.specs.Past.{in_shards}
use Rattle.tier_model.specs.State.{Settings, Phase, cache_key, hit, stale, miss, begun, disabled, revalidated, Reader, closed, unread, spent, streaming, Seen}
use Rattle.tier_model.specs.Standings.{in_all, time_waited}
use Rattle.tier_model.specs.Polls.{told_in_time}
use Rattle.tier_model.specs.Answers.{is_fresh, is_past, next_by, stored_alone, all_done}
use Rattle.tier_model.specs.After.{seen_past}

-- ==== what calls change

-- a write of a body: its number, the entry under which it came or was renewed last, the meta that is stored with it
pub record Write : Type 0 where
  pub number : ℕ
  pub entry : Entry
  pub meta : CacheMeta

-- a permit to write: its number, its stored key, when it was given
pub record Permit : Type 0 where
  pub number : ℕ
  pub key : StoredKey
  pub given : MomentValue

pub data Change : Type 0 where
  -- a write begins, and is in flight
  begins : Write → Change
  -- bytes come to the write of that number; whether they are its last
  appends : ℕ → List ℕ → Bool → Change
  -- the write of that number is in flight no more; whether it is a body then
  lands : ℕ → Bool → Change
  -- an entry is first in the order of use, with that weight
  puts : CacheEntryKey → ℕ → Change
  -- the write of that number has another meta, which came under an entry of its key
  renews : ℕ → Entry → CacheMeta → Change
  -- an entry has another weight, at its place in the order of use, or comes first where it has none
  weighs : CacheEntryKey → ℕ → Change
  -- an entry is out of it, and where it has no id, what is stored under its key is removed
  takes : CacheEntryKey → Change
  -- a permit is given, and waits
  gives : Permit → Change
  -- the permit of that number ended so
  ends : ℕ → LockStatus → Change

-- what was changed, the latest first
abbrev pub Changes : Type 0
Changes = List Change

-- ==== what they leave

abbrev pub has_number : ℕ → Write → Bool
has_number n w = n == w.number

abbrev pub with_meta : ℕ → Entry → CacheMeta → Write → Write
with_meta n e meta w = if has_number n w then record w { entry = e; meta = meta } else w

abbrev pub bytes_of : ℕ → Changes → List ℕ
bytes_of n [] = []
bytes_of n (appends m bytes last ∷ before) = if m == n then bytes_of n before ++ bytes else bytes_of n before
bytes_of n (_ ∷ before) = bytes_of n before

-- the body that a write is
abbrev pub as_body : Write → Changes → Body
as_body w c = record { bytes = bytes_of w.number c; meta = w.meta }

-- no more comes to a write: it had its last bytes, or is in flight no more
abbrev pub is_done : ℕ → Changes → Bool
is_done n [] = false
is_done n (appends m bytes true ∷ before) = (m == n) || is_done n before
is_done n (lands m whole ∷ before) = (m == n) || is_done n before
is_done n (_ ∷ before) = is_done n before

-- the alive writes of k in flight: they met no removal of k since they began; the first begun is the first
abbrev pub flying : StoredKey → Changes → List Write
flying k [] = []
flying k (begins w ∷ before) = if same_bytes (stored_key w.entry) k then flying k before ++ w ∷ [] else flying k before
flying k (lands n whole ∷ before) = filter (λ w. not (has_number n w)) (flying k before)
flying k (renews n e meta ∷ before) = map (with_meta n e meta) (flying k before)
flying k (takes e ∷ before) = if is_entry_of k e then [] else flying k before
flying k (_ ∷ before) = flying k before

-- the alive write of k that finished last
abbrev pub body_of : StoredKey → Changes → Option Write
body_of k [] = None
body_of k (lands n true ∷ before) = option_or (find (has_number n) (flying k before)) (body_of k before)
body_of k (renews n e meta ∷ before) = option_map (with_meta n e meta) (body_of k before)
body_of k (takes e ∷ before) = if is_entry_of k e then None else body_of k before
body_of k (_ ∷ before) = body_of k before

abbrev pub first_of : List Write → Option Write
first_of [] = None
first_of (w ∷ ws) = Some w

-- what a look-up shows
abbrev pub shown : StoredKey → Changes → Option Write
shown k c = option_or (first_of (flying k c)) (body_of k c)

-- the tracked entries, the latest used first, each with its weight
abbrev pub rows : Changes → List Tracked
rows [] = []
rows (puts e w ∷ before) = admitted e w (rows before)
rows (weighs e w ∷ before) = reweighed e w (rows before)
rows (takes e ∷ before) = without_row e (rows before)
rows (_ ∷ before) = rows before

-- how the permit of that number ended, if it did
abbrev pub ended : ℕ → Changes → Option LockStatus
ended n [] = None
ended n (ends m how ∷ before) = if m == n then Some how else ended n before
ended n (_ ∷ before) = ended n before

abbrev pub unless_is : ℕ → Option Permit → Option Permit
unless_is n None = None
unless_is n (Some p) = if n == p.number then None else Some p

-- the permit of k that waits: it was given, and met no end since
abbrev pub waiting : StoredKey → Changes → Option Permit
waiting k [] = None
waiting k (gives p ∷ before) = if same_bytes p.key k then Some p else waiting k before
waiting k (ends n how ∷ before) = unless_is n (waiting k before)
waiting k (_ ∷ before) = waiting k before

-- ==== room: what comes into the order of use, why it doesn't, and what goes for it

-- nothing; a use, of an entry that weighs what it weighs there, or else this; the entry of a body that is stored; that of one that is renewed, which
-- keeps its place, where it has one
pub data Entering : Type 0 where
  nothing : Entering
  a_use : CacheEntryKey → ℕ → Entering
  a_body : CacheEntryKey → ℕ → Entering
  a_renewal : CacheEntryKey → ℕ → Entering

abbrev pub enters : Entering → Changes → List Change
enters nothing c = []
enters (a_use e w) c = puts e (unwrap_or (weight_of e (rows c)) w) ∷ []
enters (a_body e w) c = puts e w ∷ []
enters (a_renewal e w) c = weighs e w ∷ []

-- the rows with it
abbrev pub rows_with : Entering → Changes → List Tracked
rows_with x c = rows (extended c (enters x c))

-- those of an entry's shard
abbrev pub beside : Settings → CacheEntryKey → List Tracked → List Tracked
beside s e rows = in_shard s.shards (shard_of s.shards e) rows

-- they are no more, and no heavier, than can be counted for each shard
abbrev pub FitsBeside : Settings → CacheEntryKey → List Tracked → Type 0
FitsBeside s e rows = (all_weights (beside s e rows) ≤ shard_bound s.shards) × (length (beside s e rows) ≤ shard_bound s.shards)

-- with one of that weight they would be heavier
abbrev pub WouldBeHeavy : Settings → CacheEntryKey → ℕ → List Tracked → Type 0
WouldBeHeavy s e w rows = shard_bound s.shards < all_weights (without_row e (beside s e rows)) + w

-- they, or those of all shards, are as many as may be
abbrev pub WouldBeLong : Settings → CacheEntryKey → List Tracked → Type 0
WouldBeLong s e rows = (shard_bound s.shards ≤ length (beside s e rows)) ⊎ (MOST_ROWS ≤ length rows)

-- they are as many as there are numbers below 2 ^ 64 with the shard's rest
abbrev pub WouldBeFull : Settings → CacheEntryKey → List Tracked → Type 0
WouldBeFull s e rows = 2 ^ 64 ≤ shard_of s.shards e + s.shards * length (beside s e rows)

-- why an entry of that weight doesn't come in, with so much done; one that has a row is only ever too heavy
abbrev pub KeepsOut : Settings → CacheEntryKey → ℕ → Done → TierFault → List Tracked → Type 0
KeepsOut s e w done (fault.TooHeavy told) rows = (told ≡ done) × WouldBeHeavy s e w rows
KeepsOut s e w done (fault.TooLong told) rows = (told ≡ done) × (weight_of e rows ≡ None) × WouldBeLong s e rows
KeepsOut s e w done (fault.NumbersSpent told) rows = (told ≡ done) × (weight_of e rows ≡ None) × WouldBeFull s e rows
KeepsOut s e w done (fault.Memory told) rows = (told ≡ done) × (weight_of e rows ≡ None) × (WouldBeHeavy s e w rows → ⊥) × (WouldBeLong s e rows → ⊥) × (WouldBeFull s e rows → ⊥)
KeepsOut s e w done _ rows = ⊥

-- these go in turn, each the last of its shard while a limit is passed; whether one is passed still after them
abbrev pub GoInTurn : Settings → Bool → List CacheEntryKey → List Tracked → Type 0
GoInTurn s over [] rows = is_over s.limit s.watermark rows ≡ over
GoInTurn s over (e ∷ es) rows = (is_over s.limit s.watermark rows ≡ true) × IsLast e (beside s e rows) × GoInTurn s over es (without_row e rows)

-- how far a call came that stores or renews, which alone the calls before it don't settle: to its end, and these went to make room; until these went,
-- and then memory ran out; or its entry was kept out for that
pub data HowFar : Type 0 where
  whole_way : List CacheEntryKey → HowFar
  cut : List CacheEntryKey → HowFar
  kept_out : TierFault → HowFar

abbrev pub far_by : TierFault → Done → HowFar
far_by f done = if done.admitted then cut done.evicted else kept_out f

-- as its outcome tells
abbrev pub far_of : Outcome → HowFar
far_of (Ok (answer.Finished told evicted)) = whole_way evicted
far_of (Ok (answer.Revalidated evicted)) = whole_way evicted
far_of (Ok _) = whole_way []
far_of (Err f) = far_by f (done_of f)

abbrev pub gone_by : HowFar → List CacheEntryKey
gone_by (whole_way es) = es
gone_by (cut es) = es
gone_by (kept_out f) = []

-- it may come so far. A use makes no room, and a renewal that is kept out has done nothing
abbrev pub ComesSo : Settings → Entering → HowFar → Changes → Type 0
ComesSo s nothing far c = Unit {0}
ComesSo s (a_use e w) far c = FitsBeside s e (rows_with (a_use e w) c)
ComesSo s (a_body e w) (whole_way es) c = FitsBeside s e (rows_with (a_body e w) c) × GoInTurn s false es (rows_with (a_body e w) c)
ComesSo s (a_body e w) (cut es) c = FitsBeside s e (rows_with (a_body e w) c) × GoInTurn s true es (rows_with (a_body e w) c)
ComesSo s (a_body e w) (kept_out f) c = KeepsOut s e w stored_alone f (rows c)
ComesSo s (a_renewal e w) (whole_way es) c = FitsBeside s e (rows_with (a_renewal e w) c) × GoInTurn s false es (rows_with (a_renewal e w) c)
ComesSo s (a_renewal e w) (cut es) c = FitsBeside s e (rows_with (a_renewal e w) c) × GoInTurn s true es (rows_with (a_renewal e w) c)
ComesSo s (a_renewal e w) (kept_out f) c = ⊥

-- a use or a renewal is kept out, with nothing done
abbrev pub StaysOut : Settings → Entering → TierFault → List Tracked → Type 0
StaysOut s (a_use e w) f rows = (weight_of e rows ≡ None) × KeepsOut s e w nothing_done f rows
StaysOut s (a_renewal e w) f rows = KeepsOut s e w nothing_done f rows
StaysOut s _ f rows = ⊥

-- what an answer takes, and may run out of with nothing done: memory; a number, of a write, a permit or a wait; what comes into the order of use
pub record Needs : Type 0 where
  pub memory : Bool
  pub number : Bool
  pub entering : Entering

abbrev pub no_needs : Needs
no_needs = record { memory = false; number = false; entering = nothing }

abbrev pub some_memory : Needs
some_memory = record no_needs { memory = true }

-- something of it ran out, where so many numbers at most were used up
abbrev pub SomeRanOut : Settings → ℕ → Needs → Outcome → Changes → Type 0
SomeRanOut s used needs o c =
    ((o ≡ Err (fault.Memory nothing_done)) × (needs.memory ≡ true))
    ⊎ (((o ≡ Err (fault.NumbersSpent nothing_done)) × (needs.number ≡ true) × (2 ^ 64 - 1 ≤ used))
    ⊎ ((f : TierFault) × (o ≡ Err f) × StaysOut s needs.entering f (rows c)))

-- ==== requests

-- of the lock: nothing, a permit, or a wait for one with the moment of its first poll
pub data Hold : Type 0 where
  no_lock : Hold
  holds : Permit → Hold
  waits : Permit → Option MomentValue → Hold

-- an open request: its entry, and whether it asks for the lock; its phase; what it holds of the lock, how long all its waits that ended took, if
-- some did, and whether its last look-up gave it a wait; what that found past its moment, until it begins a write or that is confirmed; its write;
-- its reader
pub record Request : Type 0 where
  pub entry : Entry
  pub asks : Bool
  pub phase : Phase
  pub hold : Hold
  pub waited : Option DurationValue
  pub gave_read : Bool
  pub seen : Option Seen
  pub write : Option Write
  pub reader : Reader

abbrev pub opened : Entry → Bool → Request
opened e asks = record { entry = e; asks = asks; phase = cache_key; hold = no_lock; waited = None; gave_read = false; seen = None; write = None; reader = closed }

-- a tier after calls: what they changed, and the open requests
pub record Now : Type 0 where
  pub changes : Changes
  pub request : ℕ → Option Request

-- ==== rows: what an event answers, what it changes, in order, what its request is then, and what that takes

pub record EventRow : Type 0 where
  pub outcome : Outcome
  pub changes : List Change
  pub request : Option Request
  pub needs : Needs

abbrev pub refused : Request → TierFault → EventRow
refused q f = record { outcome = Err f; changes = []; request = Some q; needs = no_needs }

abbrev pub answer_alone : Outcome → EventRow
answer_alone outcome = record { outcome = outcome; changes = []; request = None; needs = no_needs }

-- its response or head wasn't read: memory ran out first
abbrev pub unread_row : Option Request → EventRow
unread_row q = record { outcome = Err (fault.Memory nothing_done); changes = []; request = q; needs = some_memory }

abbrev pub open_row : Option Request → Request → EventRow
open_row None new = record { outcome = Ok answer.Opened; changes = []; request = Some new; needs = some_memory }
open_row (Some q) new = refused q fault.IdInUse

-- what is given to one that asks: the permit where none waits, else a wait
abbrev pub hold_given : Option Permit → Permit → Hold
hold_given (Some p) new = waits p None
hold_given None new = holds new

abbrev pub asked : Bool → MomentValue → Request → Changes → Hold
asked false t q c = no_lock
asked true t q c = hold_given (waiting (stored_key q.entry) c) (record { number = length c; key = stored_key q.entry; given = t })

abbrev pub told : Hold → LockGiven
told no_lock = lock.None
told (holds p) = lock.Write
told (waits p first) = lock.Read

abbrev pub is_wait : Hold → Bool
is_wait (waits p first) = true
is_wait _ = false

abbrev pub permits_in : Hold → List Change
permits_in (holds p) = gives p ∷ []
permits_in _ = []

abbrev pub is_given : Hold → Bool
is_given no_lock = false
is_given _ = true

-- a complete hit is a use
abbrev pub use_of : Bool → Request → Write → Changes → Entering
use_of false q w c = nothing
use_of true q w c = a_use (alone q.entry) (weight_for (as_body w c))

abbrev pub reader_of : Bool → Write → Changes → Reader
reader_of complete w c = if complete then unread (bytes_of w.number c) else streaming w.number 0

abbrev pub after_look : Phase → Hold → Option Seen → Reader → Request → Request
after_look phase hold seen reader q = record q { phase = phase; hold = hold; gave_read = is_wait hold; seen = seen; reader = reader }

abbrev pub look_found : MomentValue → Bool → Hold → Write → Request → Changes → EventRow
look_found t complete hold w q c = record {
  outcome = Ok (answer.Found (is_fresh t w.meta) complete (told hold));
  changes = enters (use_of complete q w c) c ++ permits_in hold;
  request = Some (after_look (if is_fresh t w.meta then hit else stale) hold (seen_past t w.number w.meta) (reader_of complete w c) q);
  needs = record { memory = true; number = is_given hold; entering = use_of complete q w c };
}

-- with a wait the phase stays. A permit takes memory
abbrev pub look_absent : Hold → Request → EventRow
look_absent hold q = record {
  outcome = Ok (answer.Absent (told hold));
  changes = permits_in hold;
  request = Some (after_look (if is_wait hold then q.phase else miss) hold None closed q);
  needs = record { memory = is_given hold && not (is_wait hold); number = is_given hold; entering = nothing };
}

abbrev pub look_row : MomentValue → Request → Option Write → Changes → EventRow
look_row t q None c = look_absent (asked q.asks t q c) q
look_row t q (Some w) c = look_found t (not (is_some (first_of (flying (stored_key q.entry) c)))) (asked (q.asks && not (is_fresh t w.meta)) t q c) w q c

-- checked first: phase, then a permit, then a wait
abbrev pub look_by : Phase → Hold → MomentValue → Request → Changes → EventRow
look_by cache_key no_lock t q c = look_row t q (shown (stored_key q.entry) c) c
look_by stale no_lock t q c = look_row t q (shown (stored_key q.entry) c) c
look_by cache_key (waits p first) t q c = refused q fault.Waiting
look_by stale (waits p first) t q c = refused q fault.Waiting
look_by _ _ t q c = refused q fault.WrongPhase

abbrev pub after_poll : Option LockStatus → MomentValue → Permit → Option MomentValue → Request → Request
after_poll None t p first q = record q { hold = waits p (Some (unwrap_or first t)) }
after_poll (Some how) t p first q = record q { hold = no_lock; waited = in_all q.waited (time_waited first t) }

-- a wait ends as its permit did; else by the permit's age, or by the longest wait
abbrev pub poll_row : Option LockStatus → Bool → Bool → MomentValue → Permit → Option MomentValue → Request → EventRow
poll_row end aged over t p first q = record {
  outcome = Ok (answer.Waited (option_or end (told_in_time aged over)));
  changes = if aged && not (is_some end) then ends p.number status.AgeTimeout ∷ [] else [];
  request = Some (after_poll (option_or end (told_in_time aged over)) t p first q);
  needs = no_needs;
}

abbrev pub poll_by : Settings → Hold → MomentValue → Request → Changes → EventRow
poll_by s (waits p first) t q c = poll_row (ended p.number c) (at_least (elapsed p.given t) s.age) (is_past s.wait q.waited (time_waited first t)) t p first q
poll_by s _ t q c = refused q fault.WrongPhase

-- a permit ends so; one past its age keeps that status, unless it is dropped
abbrev pub released : LockStatus → Hold → Changes → List Change
released how (holds p) c = if is_some (ended p.number c) then [] else ends p.number how ∷ []
released how _ c = []

abbrev pub dropped : Hold → List Change
dropped (holds p) = ends p.number status.Dangling ∷ []
dropped _ = []

-- a write begins with the provenance of what was seen
abbrev pub begin_row : Option Judged → Request → Changes → EventRow
begin_row None q c = unread_row (Some q)
begin_row (Some not_read) q c = refused q fault.BadHead
begin_row (Some too_early) q c = refused q fault.BeforeEpoch
begin_row (Some (not_kept reason)) q c = record {
  outcome = Ok (answer.Uncacheable reason);
  changes = released status.GiveUp q.hold c;
  request = Some (record q { phase = disabled; hold = no_lock; seen = None; reader = closed });
  needs = no_needs;
}
begin_row (Some (kept meta)) q c =
    let w : Write = record { number = length c; entry = q.entry; meta = with_provenance_of (option_map (λ x. x.meta) q.seen) meta } in
    record {
      outcome = Ok answer.Begun;
      changes = begins w ∷ released status.Done q.hold c;
      request = Some (record q { phase = begun; hold = no_lock; seen = None; write = Some w; reader = streaming w.number 0 });
      needs = record some_memory { number = true };
    }

abbrev pub begin_by : Phase → Bool → Option Judged → Request → Changes → EventRow
begin_by miss gave_read judged q c = begin_row judged q c
begin_by stale false judged q c = begin_row judged q c
begin_by _ _ judged q c = refused q fault.WrongPhase

abbrev pub piece_by : Option Write → List ℕ → Bool → Request → Changes → EventRow
piece_by None bytes last q c = refused q fault.WrongPhase
piece_by (Some w) bytes last q c =
    if is_done w.number c then refused q fault.AfterEnd
    else record { outcome = Ok answer.Written; changes = appends w.number bytes last ∷ []; request = Some q; needs = some_memory }

abbrev pub read_on : Reader → Changes → Answer
read_on (streaming n place) c = next_by (drop place (bytes_of n c)) (is_done n c)
read_on (unread bytes) c = answer.Bytes bytes
read_on _ c = answer.End

abbrev pub reader_after : Reader → Changes → Reader
reader_after (streaming n place) c = streaming n (max place (length (bytes_of n c)))
reader_after _ c = spent

-- a read takes memory only of a write as it comes, where there is something new
abbrev pub has_news : Reader → Changes → Bool
has_news (streaming n place) c = nat_lt place (length (bytes_of n c))
has_news _ c = false

abbrev pub read_by_reader : Reader → Request → Changes → EventRow
read_by_reader closed q c = refused q fault.WrongPhase
read_by_reader r q c =
    record { outcome = Ok (read_on r c); changes = []; request = Some (record q { reader = reader_after r c }); needs = record no_needs { memory = has_news r c } }

abbrev pub left : Option Write → List Change
left None = []
left (Some w) = lands w.number false ∷ []

abbrev pub drop_row : Request → EventRow
drop_row q = record (answer_alone (Ok answer.Dropped)) { changes = left q.write ++ dropped q.hold }

abbrev pub purge_row : Entry → Changes → EventRow
purge_row e c =
    let found = is_some (shown (stored_key e) c) in
    record (answer_alone (Ok (answer.Purged found))) { changes = if found then takes (alone e) ∷ [] else [] }

-- how far a call came, in changes: those until room is made, then what went. At a refusal what is stored of the key goes with its entry
abbrev pub done_so : Write → List Change → HowFar → List Change
done_so w first (whole_way es) = first ++ map takes es
done_so w first (cut es) = first ++ map takes es ++ takes (alone w.entry) ∷ []
done_so w first (kept_out f) = lands w.number false ∷ takes (alone w.entry) ∷ []

-- and in its answer
abbrev pub told_so : (List CacheEntryKey → Answer) → HowFar → Outcome
told_so whole_answer (whole_way es) = Ok (whole_answer es)
told_so whole_answer (cut es) = Err (fault.Memory (all_done es))
told_so whole_answer (kept_out f) = Err f

-- a body lands, and its entry comes in
abbrev pub lands_whole : Write → ℕ → List Change
lands_whole w weight = lands w.number true ∷ puts (alone w.entry) weight ∷ []

-- a put begins its write and finishes it, or gives the answer that its response gives
abbrev pub put_row : Entry → Option PutVerdict → HowFar → Changes → EventRow
put_row e None far c = unread_row None
put_row e (Some whole.BadHead) far c = answer_alone (Err fault.BadHead)
put_row e (Some whole.BeforeEpoch) far c = answer_alone (Err fault.BeforeEpoch)
put_row e (Some whole.Incomplete) far c = answer_alone (Err fault.Incomplete)
put_row e (Some (whole.Uncacheable reason)) far c = answer_alone (Ok (answer.Uncacheable reason))
put_row e (Some (whole.Stored b)) far c =
    let w : Write = record { number = length c; entry = e; meta = b.meta } in
    record {
      outcome = told_so (λ es. answer.Finished (length b.bytes) es) far;
      changes = begins w ∷ appends w.number b.bytes true ∷ done_so w (lands_whole w (weight_for b)) far;
      request = None;
      needs = record { memory = true; number = true; entering = a_body (alone e) (weight_for b) };
    }

-- a write in flight met no removal since it began
abbrev pub is_alive : Write → Changes → Bool
is_alive w c = is_some (find (has_number w.number) (flying (stored_key w.entry) c))

abbrev pub finish_row : Write → Body → HowFar → Request → EventRow
finish_row w b far q = record {
  outcome = told_so (λ es. answer.Finished (length b.bytes) es) far;
  changes = done_so w (lands_whole w (weight_for b)) far;
  request = Some (record q { write = None });
  needs = record some_memory { entering = a_body (alone w.entry) (weight_for b) };
}

abbrev pub finish_by : Option Write → HowFar → Request → Changes → EventRow
finish_by None far q c = refused q fault.WrongPhase
finish_by (Some w) far q c =
    if is_alive w c then finish_row w (as_body w c) far q
    else record (refused (record q { write = None }) fault.WriteRemoved) { changes = lands w.number false ∷ [] }

-- what was seen is the body of its key still
abbrev pub still : Option Seen → Option Write → Option Write
still (Some x) (Some w) = if x.number == w.number then Some w else None
still _ _ = None

abbrev pub confirmed : Request → Request
confirmed q = record q { phase = revalidated; hold = no_lock; seen = None }

-- a body has another meta, and its entry is weighed anew
abbrev pub renew_row : Write → Body → HowFar → Request → Changes → EventRow
renew_row w b far q c = record {
  outcome = told_so (λ es. answer.Revalidated es) far;
  changes = done_so (record w { entry = q.entry }) (renews w.number q.entry b.meta ∷ weighs (alone q.entry) (weight_for b) ∷ []) far ++ released status.Done q.hold c;
  request = Some (confirmed q);
  needs = record some_memory { entering = a_renewal (alone q.entry) (weight_for b) };
}

-- what was seen is confirmed: the body has the new meta, or that may not be kept
abbrev pub confirm_row : Judged → HowFar → Option Write → Request → Changes → EventRow
confirm_row not_read far w q c = refused q fault.BadHead
confirm_row j far None q c = refused q fault.NotStored
confirm_row too_early far (Some w) q c = record (refused q fault.BeforeEpoch) { needs = some_memory }
confirm_row (not_kept reason) far (Some w) q c =
    record { outcome = Ok (answer.Uncacheable reason); changes = released status.GiveUp q.hold c; request = Some (confirmed q); needs = some_memory }
confirm_row (kept meta) far (Some w) q c = renew_row w (record (as_body w c) { meta = meta }) far q c

abbrev pub revalidate_row : Option Judged → HowFar → Request → Changes → EventRow
revalidate_row None far q c = unread_row (Some q)
revalidate_row (Some j) far q c = confirm_row j far (still q.seen (body_of (stored_key q.entry) c)) q c

abbrev pub revalidate_by : Phase → Bool → Option Judged → HowFar → Request → Changes → EventRow
revalidate_by stale false j far q c = revalidate_row j far q c
revalidate_by _ _ j far q c = refused q fault.WrongPhase

-- ==== calls

-- a row, and the tier after it
pub record Came : Type 0 where
  pub row : EventRow
  pub now : Now

abbrev pub came : ℕ → EventRow → Now → Came
came id row now = record { row = row; now = record { changes = extended now.changes row.changes; request = λ i. if i == id then row.request else now.request i } }

abbrev pub row_of : Option Request → (Request → EventRow) → EventRow
row_of None f = answer_alone (Err fault.NoRequest)
row_of (Some q) f = f q

abbrev pub of_open : ℕ → (Request → Changes → EventRow) → Now → Came
of_open id f now = came id (row_of (now.request id) (λ q. f q now.changes)) now

-- of no request
abbrev pub of_key : EventRow → Now → Came
of_key row now = record { row = row; now = record now { changes = extended now.changes row.changes } }

abbrev pub confirmed_by : Request → Call → Option Judged
confirmed_by q call = confirmed_of (option_map (λ x. x.meta) q.seen) call

abbrev pub after : Settings → Call → MomentValue → Action → Now → Came
after s call t (on.Open id key asks) now = came id (open_row (now.request id) (opened (entry_of key) asks)) now
after s call t (on.LookUp id) now = of_open id (λ q. look_by q.phase q.hold t q) now
after s call t (on.Poll id) now = of_open id (λ q. poll_by s q.hold t q) now
after s call t (on.Begin id head given) now = of_open id (λ q. begin_by q.phase q.gave_read (judged_of call) q) now
after s call t (on.Revalidate id head given) now = of_open id (λ q. revalidate_by q.phase q.gave_read (confirmed_by q call) (far_of call.outcome) q) now
after s call t (on.Piece id bytes last) now = of_open id (λ q. piece_by q.write bytes last q) now
after s call t (on.Finish id) now = of_open id (λ q. finish_by q.write (far_of call.outcome) q) now
after s call t (on.Read id) now = of_open id (λ q. read_by_reader q.reader q) now
after s call t (on.Drop id) now = of_open id (λ q c. drop_row q) now
after s call t (on.Purge key) now = of_key (purge_row (entry_of key) now.changes) now
after s call t (on.Put key pieces given) now = of_key (put_row (entry_of key) (read_by call) (far_of call.outcome) now.changes) now

-- what comes of a call
abbrev pub came_of : Settings → Call → Now → Came
came_of s call now = after s call call.event.moment call.event.action now

abbrev pub row_of_call : Settings → Call → Now → EventRow
row_of_call s call now = (came_of s call now).row

-- memory, numbers or room ran out, and nothing was done
abbrev pub ran_out : Outcome → Bool
ran_out (Err (fault.NumbersSpent done)) = not done.stored
ran_out (Err (fault.TooHeavy done)) = not done.stored
ran_out (Err (fault.TooLong done)) = not done.stored
ran_out (Err (fault.Memory done)) = not done.stored
ran_out _ = false

-- a call that ran out changes nothing
abbrev pub now_after : Settings → Call → Now → Now
now_after s call now = if ran_out call.outcome then now else (came_of s call now).now

-- the tier after calls, the latest first
abbrev pub now_of : Settings → List Tracked → History → Now
now_of s loaded [] = record { changes = map (λ r. puts r.entry r.weight) loaded; request = λ id. None }
now_of s loaded (call ∷ h) = now_after s call (now_of s loaded h)

-- the head of what a look-up of the request finds then: that of the write whose bytes it reads after it
abbrev pub head_found : ℕ → Now → Option CacheMeta
head_found id now = option_map (λ w. w.meta) (option_and_then (λ q. shown (stored_key q.entry) now.changes) (now.request id))

-- ==== the promise

-- one type or the other
abbrev pub Whether : Bool → Type 0 → Type 0 → Type 0
Whether true a b = a
Whether false a b = b

-- a call is answered by its event's row, as far as it came; or something that its answer takes ran out. So many numbers at most were used up
pub record IsRight (s : Settings) (used : ℕ) (call : Call) (before : Now) : Type 0 where
  pub read : IsRead call.event.action call.reading
  pub outcome : Whether (ran_out call.outcome)
      (SomeRanOut s used (row_of_call s call before).needs call.outcome before.changes)
      ((call.outcome ≡ (row_of_call s call before).outcome) × ComesSo s (row_of_call s call before).needs.entering (far_of call.outcome) before.changes)

-- each is, where so many numbers were used up before the first
abbrev pub AreRight : Settings → ℕ → List Tracked → History → Type 0
AreRight s used loaded [] = Unit {0}
AreRight s used loaded (call ∷ h) = IsRight s (used + length h) call (now_of s loaded h) × AreRight s used loaded h

abbrev pub ends_life : StoredKey → ℕ → Change → Bool
ends_life k n (takes e) = is_entry_of k e
ends_life k n (lands m whole) = (m == n) && not whole
ends_life k n _ = false

-- w began, and met no removal of its key since, nor was it given up
pub record IsAlive (w : Write) (c : Changes) : Type 0 where
  pub since : Changes
  pub before : Changes
  pub split : c ≡ since ++ begins w ∷ before
  pub kept : AllByRecursion (λ x. ends_life (stored_key w.entry) w.number x ≡ false) since

abbrev pub AreApart : List StoredKey → Type 0
AreApart [] = Unit {0}
AreApart (k ∷ ks) = AllByRecursion (λ j. same_bytes j k ≡ false) ks × AreApart ks

-- bodies, one a key, keep the limit with what they take, and the watermark with their number
abbrev pub AreWithin : Settings → Changes → Type 0
AreWithin s c = (keys : List StoredKey) → AreApart keys → (bodies : List Write) → map (λ k. body_of k c) keys ≡ map Some bodies
    → (sum_by (λ w. size_of (as_body w c)) bodies ≤ s.limit) × IfSome s.watermark (λ mark. length bodies ≤ mark)

-- of calls, the latest first, of a tier that began with this order of use
pub record Promise (s : Settings) (used : ℕ) (loaded : List Tracked) (h : History) : Type 0 where
  pub answers : AreRight s used loaded h
  pub found : (k : StoredKey) → (shown k (now_of s loaded h).changes ≢ None) ↔ ((w : Write) × (same_bytes (stored_key w.entry) k ≡ true) × IsAlive w (now_of s loaded h).changes)
  pub within : AreWithin s (now_of s loaded h).changes
  pub tracked : (k : StoredKey) (w : Write) → body_of k (now_of s loaded h).changes ≡ Some w
      → (weight : ℕ) × (weight_of (alone w.entry) (rows (now_of s loaded h).changes) ≡ Some weight) × (size_of (as_body w (now_of s loaded h).changes) ≤ weight)

-- the words up to rest picked the shards from which these went, two words each: of the two shards that they name the longer, and from it on the first
-- that isn't empty
abbrev pub ArePicked : Settings → List CacheEntryKey → List Tracked → Stream → Stream → Type 0
ArePicked s [] rows words rest = rest ≡ words
ArePicked s (e ∷ es) rows words rest =
    (shard_of s.shards e ≡ (pick_by_draws s.shards (in_shards s.shards rows) words).0)
    × ArePicked s es (without_row e rows) (pick_by_draws s.shards (in_shards s.shards rows) words).1 rest

-- the same of all calls, in order
abbrev pub WereDrawn : Settings → Now → List Call → Stream → Stream → Type 0
WereDrawn s now [] words rest = rest ≡ words
WereDrawn s now (call ∷ calls) words rest =
    (mid : Stream)
    × ArePicked s (gone_by (far_of call.outcome)) (rows_with (row_of_call s call now).needs.entering now.changes) words mid
    × WereDrawn s (now_after s call now) calls mid rest

-- a new tier took these events in order, each with its outcome: some calls that are these keep the promise, and they drew the words up to rest
abbrev pub Keeps : Settings → List Event → List Outcome → Stream → Stream → Type 0
Keeps s events outcomes words rest =
    (calls : List Call) × AreCallsOf events outcomes calls × Promise s 0 [] (extended [] calls) × WereDrawn s (now_of s [] []) calls words rest
