-- The state after one event.
use Rattle.std.specs.Prelude.{ℕ, ◌+◌, Bool, true, false, List, [], ◌∷◌, ◌++◌, length, if◌then◌else◌, Option, Some, None, unwrap_or, Ok, Err}
use Rattle.std.specs.FinMap.{FinMap, get, insert, remove}
use Rattle.std.specs.Ordering.{nat_cmp}
use Rattle.cache_words.specs.Time.{MomentValue, DurationValue}
use Rattle.cache_words.specs.Key.{CacheKeyValue}
use Rattle.cache_heads.specs.declared.meta.CacheMeta.{CacheMeta}
use Rattle.cache_heads.specs.Merged.{with_provenance_of}
use Rattle.cache_entries.specs.declared.entry.CacheEntryKey.{CacheEntryKey}
use Rattle.cache_entries.specs.Entry.{key_of}
use Rattle.cache_changes.specs.Changes.{stored_key}
use Rattle.cache_evict.specs.Managed.{Managed, saturated, taken_out}
use Rattle.cache_lock.specs.Changes.{Change, spends}
use Rattle.cache_lock.specs.Answers.{to_wait_for, locked_by, lock_change, release_changes, leave_changes, wait_outcome, poll_changes}
use Rattle.cache_lock.specs.State.{LockState, after_all}
use Rattle.cache_lock.specs.declared.tokens.Locked.TheVariants as locked
use Rattle.cache_lock.specs.declared.status.LockStatus.{LockStatus}
use Rattle.cache_lock.specs.declared.status.LockStatus.TheVariants as status
use Rattle.tier_model.specs.Keys.{Entry, entry_of, alone, stored_key_of}
use Rattle.tier_model.specs.Evictions.{all_gone}
use Rattle.tier_model.specs.declared.event.LockGiven.{LockGiven}
use Rattle.tier_model.specs.declared.event.LockGiven.TheVariants as lock
use Rattle.tier_model.specs.declared.event.Action.{Action}
use Rattle.tier_model.specs.declared.event.Action.TheVariants.{Open, LookUp, Poll, Begin, Revalidate, Piece, Finish, Read, Drop, Purge, Put}
use Rattle.tier_model.specs.declared.event.Answer.{Answer}
use Rattle.tier_model.specs.declared.event.Answer.TheVariants.{Opened, Found, Absent, Waited, Begun, Revalidated, Finished, Bytes}
use Rattle.tier_model.specs.declared.event.Answer.TheVariants as answer
use Rattle.tier_model.specs.declared.event.Done.{Done}
use Rattle.tier_model.specs.declared.event.TierFault.{TierFault}
use Rattle.tier_model.specs.Response.{Judged, kept}
use Rattle.tier_model.specs.Calls.{Call, Outcome, done_of, has_stored, judged_of, finished_by, writes_after, bytes_answered}
use Rattle.tier_model.specs.Histories.{is_landing}
use Rattle.tier_model.specs.Rows.{FinishedBody}
use Rattle.tier_model.specs.Shelf as shelf
use Rattle.tier_model.specs.Shelf.{Readers, Shelf, Look, absent, in_flight, finished, look, is_there, joined, parted, appended, ended, landed, stored, renewed, removed, cleared}
use Rattle.tier_model.specs.Standings.{phase_absent, phase_found}
use Rattle.tier_model.specs.Standings.{in_all, time_waited}
use Rattle.tier_model.specs.Locks.{is_wait}
use Rattle.tier_model.specs.State.{Phase, cache_key, begun, disabled, revalidated, LockHold, nothing, permit, waits, Reader, closed, unread, spent, streaming, Seen, Request, State, shards_of}
use Rattle.tier_model.specs.Answers.{key_for, look_for, is_fresh, finds_fresh, asks_now, lock_given, admitted, used, seen_meta, confirmed_for, reweighed, finishing}

abbrev pub by_request : {X : Type 0} → X → Option Request → (Request → X) → X
by_request none None f = none
by_request none (Some q) f = f q

-- the state after an event of an open request
abbrev pub on_request : State → ℕ → (Request → State) → State
on_request s id f = by_request s (get s.requests id) f

-- the request of that number is q
abbrev pub with_request : ℕ → Request → State → State
with_request id q s = record s { requests = insert s.requests id q }

-- a request that was just opened
abbrev pub opened_request : Option DurationValue → Entry → Bool → Request
opened_request wait entry asks =
    record { entry = alone entry; asks = asks; wait = wait; phase = cache_key; held = nothing; waited = None; gave_read = false; seen = None; write = None; reader = closed }

-- a count that stops at 2^64 - 1
abbrev pub counted : ℕ → ℕ → ℕ
counted n more = saturated (n + more)

abbrev pub counted_if : Bool → ℕ → ℕ
counted_if true n = counted n 1
counted_if false n = n

-- ---- readers

abbrev pub with_reader : Reader → FinMap nat_cmp Readers → FinMap nat_cmp Readers
with_reader (streaming n place) readers = joined n readers
with_reader _ readers = readers

abbrev pub without_reader : Reader → FinMap nat_cmp Readers → FinMap nat_cmp Readers
without_reader (streaming n place) readers = parted n readers
without_reader _ readers = readers

-- a reader takes the place of another
abbrev pub turned : Reader → Reader → Shelf → Shelf
turned old new shelf = record shelf { readers = without_reader old (with_reader new shelf.readers) }

-- a reader of what is found
abbrev pub reader_of : Look → Reader
reader_of absent = closed
reader_of (in_flight f) = streaming f.number 0
reader_of (finished x) = unread x.body.bytes

-- a reader after a read: all that was there is read
abbrev pub read_on : Answer → Reader → Reader
read_on a (streaming n place) = streaming n (place + length (bytes_answered a))
read_on a closed = closed
read_on a _ = spent

-- ---- locks

-- what the event changes in the lock, the latest first
abbrev pub given_changes : MomentValue → Request → Look → LockState → List Change
given_changes t q l locks = if asks_now t q l then lock_change (key_for q) (is_there l) t locks (to_wait_for (key_for q) locks) ∷ [] else []

-- a lock that a refused look-up was given is handed back
abbrev pub back_changes : MomentValue → Request → Look → LockState → List Change
back_changes t q l locks =
    leave_changes (locked_by locks (to_wait_for (key_for q) locks)) ++ lock_change (key_for q) (is_there l) t locks (to_wait_for (key_for q) locks) ∷ []

abbrev pub release_of : LockStatus → Request → LockHold → LockState → List Change
release_of reason q (permit n) locks = release_changes (key_for q) n reason locks
release_of reason q _ locks = []

abbrev pub leave_of : LockHold → List Change
leave_of nothing = []
leave_of (permit n) = leave_changes (locked.Write (record { number = n }))
leave_of (waits n first) = leave_changes (locked.Read (record { number = n }))

-- a wait that ended is handed back
abbrev pub poll_of : MomentValue → LockHold → Option LockStatus → LockState → List Change
poll_of t (waits n first) (Some outcome) locks = spends n ∷ poll_changes n (wait_outcome n [] t locks)
poll_of t _ _ locks = []

abbrev pub of_open : State → ℕ → (Request → List Change) → List Change
of_open s id f = by_request [] (get s.requests id) f

abbrev pub lock_changes_in : State → MomentValue → Action → Outcome → Bool → List Change
lock_changes_in s t (LookUp id) (Ok a) asked = of_open s id (λ q. given_changes t q (look_for q s.shelf) s.lock)
lock_changes_in s t (LookUp id) (Err f) asked = if asked then of_open s id (λ q. back_changes t q (look_for q s.shelf) s.lock) else []
lock_changes_in s t (Poll id) (Ok (Waited outcome)) asked = of_open s id (λ q. poll_of t q.held outcome s.lock)
lock_changes_in s t (Begin id head given) (Ok Begun) asked = of_open s id (λ q. release_of status.Done q q.held s.lock)
lock_changes_in s t (Begin id head given) (Ok (answer.Uncacheable reason)) asked = of_open s id (λ q. release_of status.GiveUp q q.held s.lock)
lock_changes_in s t (Revalidate id head given) (Ok (Revalidated evicted)) asked = of_open s id (λ q. release_of status.Done q q.held s.lock)
lock_changes_in s t (Revalidate id head given) (Ok (answer.Uncacheable reason)) asked = of_open s id (λ q. release_of status.GiveUp q q.held s.lock)
lock_changes_in s t (Revalidate id head given) (Err f) asked = if (done_of f).stored then of_open s id (λ q. release_of status.Done q q.held s.lock) else []
lock_changes_in s t (Drop id) (Ok a) asked = of_open s id (λ q. leave_of q.held)
lock_changes_in s t _ _ asked = []

abbrev pub lock_changes : State → Call → List Change
lock_changes s c = lock_changes_in s c.event.moment c.event.action c.outcome c.asked

-- ---- requests

-- what one holds that was given this
abbrev pub held_of : LockGiven → Option ℕ → LockState → LockHold → LockHold
held_of lock.Write core locks old = permit locks.next
held_of lock.Read (Some n) locks old = waits n None
held_of _ core locks old = old

abbrev pub phase_of : MomentValue → LockGiven → Look → Phase → Phase
phase_of t given absent old = phase_absent given old
phase_of t given l old = phase_found (finds_fresh t l)

-- what a look-up at t found that is past its moment
abbrev pub seen_past : MomentValue → ℕ → CacheMeta → Option Seen
seen_past t n meta = if is_fresh t meta then None else Some (record { number = n; meta = meta })

abbrev pub seen_in : MomentValue → Look → Option Seen
seen_in t absent = None
seen_in t (in_flight f) = seen_past t f.number f.meta
seen_in t (finished x) = seen_past t x.number x.body.meta

-- a request after its look-up
abbrev pub looked : MomentValue → Request → Look → LockState → Request
looked t q l locks = record q {
  phase = phase_of t (lock_given t q l locks) l q.phase;
  held = held_of (lock_given t q l locks) (to_wait_for (key_for q) locks) locks q.held;
  gave_read = is_wait (lock_given t q l locks);
  seen = seen_in t l;
  reader = reader_of l;
}

abbrev pub managed_after : State → Request → Look → Managed
managed_after s q (finished x) = used s q.entry x.body
managed_after s q _ = s.managed

abbrev pub after_look : State → MomentValue → ℕ → Request → Look → State
after_look s t id q l = record s {
  managed = managed_after s q l;
  shelf = turned q.reader (reader_of l) s.shelf;
  requests = insert s.requests id (looked t q l s.lock);
  found = counted_if (is_there l) s.found;
  absent = if is_there l then s.absent else counted s.absent 1;
}

abbrev pub after_wait : MomentValue → Option LockStatus → LockHold → Request → Request
after_wait t None (waits n first) q = record q { held = waits n (Some (unwrap_or first t)) }
after_wait t (Some outcome) (waits n first) q = record q { held = nothing; waited = in_all q.waited (time_waited first t) }
after_wait t outcome _ q = q

-- a request that began the write of that number
abbrev pub writing : ℕ → Request → Request
writing n q = record q { phase = begun; held = nothing; seen = None; write = Some n; reader = streaming n 0 }

-- the meta of a write that it begins: with the provenance of what it has seen
abbrev pub meta_for : Request → CacheMeta → CacheMeta
meta_for q meta = with_provenance_of (seen_meta q) meta

-- the state after a begin with a head that is kept, and with one that isn't
abbrev pub after_begin : State → ℕ → Request → Option Judged → State
after_begin s id q (Some (kept meta)) = record s {
  shelf = turned q.reader (streaming s.shelf.writes 0) (shelf.begun (key_for q) (meta_for q meta) s.shelf);
  requests = insert s.requests id (writing s.shelf.writes q);
}
after_begin s id q _ = record s {
  shelf = turned q.reader closed s.shelf;
  requests = insert s.requests id (record q { phase = disabled; held = nothing; seen = None; reader = closed });
}

abbrev pub on_write : Option ℕ → (ℕ → Shelf → Shelf) → Shelf → Shelf
on_write None f shelf = shelf
on_write (Some n) f shelf = f n shelf

-- bytes came to a write, and maybe its last
abbrev pub pieced : List ℕ → Bool → ℕ → Shelf → Shelf
pieced bytes last n shelf = if last then ended n (appended n bytes shelf) else appended n bytes shelf

-- a request's write is in flight no more, finished or not
abbrev pub after_flight : Bool → State → ℕ → Request → State
after_flight is_finished s id q = record s { shelf = on_write q.write (landed is_finished) s.shelf; requests = insert s.requests id (record q { write = None }) }

-- ---- finished bodies

-- these are evicted, of n shards, and what is stored of them goes along
abbrev pub emptied : ℕ → List CacheEntryKey → State → State
emptied n es s = record s { shelf = cleared es s.shelf; managed = all_gone n es s.managed }

-- what an entry's key has is removed, and the entry departs
abbrev pub taken : ℕ → Entry → State → State
taken n e s = record s { shelf = removed (stored_key e) s.shelf; managed = taken_out n (alone e) s.managed }

-- the state after a body is stored as the write of that number, with these evictions
abbrev pub after_put : State → Option ℕ → Option FinishedBody → Answer → State
after_put s n (Some b) (Finished told evicted) = emptied (shards_of s) evicted (record s { shelf = on_write n (λ m. stored m b) s.shelf; managed = admitted s b })
after_put s n _ _ = s

-- the order of use at a refusal: with the body's entry, if that was admitted
abbrev pub until : Bool → State → FinishedBody → Managed
until false s b = s.managed
until true s b = admitted s b

-- after a refusal that had stored a body: that body is gone with its entry, and the evictions are done
abbrev pub taken_back : Bool → State → FinishedBody → Done → State
taken_back false s b done = s
taken_back true s b done = taken (shards_of s) b.entry (emptied (shards_of s) done.evicted (record s { managed = until done.admitted s b }))

abbrev pub undone : State → Option FinishedBody → Done → State
undone s (Some b) done = taken_back done.stored s b done
undone s None done = s

-- the state after a finish that ended the flight
abbrev pub after_finish : State → Option ℕ → Option FinishedBody → Outcome → State
after_finish s n b (Ok a) = after_put s n b a
after_finish s n b (Err f) = undone s b (done_of f)

-- the state after a purge that found something, or nothing
abbrev pub after_purge : State → CacheKeyValue → Bool → State
after_purge s key false = s
after_purge s key true = taken (shards_of s) (entry_of key) s

-- ---- revalidations

-- a request whose find was confirmed
abbrev pub confirmed : Request → Request
confirmed q = record q { phase = revalidated; held = nothing; seen = None }

-- the body of its key has another meta, and its entry is weighed anew
abbrev pub renewed_for : State → ℕ → Request → CacheMeta → State
renewed_for s id q meta = record s { shelf = renewed (key_for q) meta s.shelf; managed = reweighed s q meta; requests = insert s.requests id (confirmed q) }

-- the state after a revalidation: these are evicted, or it may not be kept
abbrev pub after_confirmed : State → ℕ → Request → Option Judged → Answer → State
after_confirmed s id q (Some (kept meta)) (Revalidated evicted) = emptied (shards_of s) evicted (renewed_for s id q meta)
after_confirmed s id q _ a = with_request id (confirmed q) s

-- after a refusal that had renewed the body: that is gone with its entry, and the evictions are done
abbrev pub undone_renewal : State → ℕ → Request → Option Judged → Done → State
undone_renewal s id q (Some (kept meta)) done =
    if done.stored then taken (shards_of s) (key_of q.entry) (emptied (shards_of s) done.evicted (renewed_for s id q meta)) else s
undone_renewal s id q _ done = s

-- the state after a finish: as before, where it was refused with nothing done
abbrev pub finished_state : State → ℕ → Request → Outcome → State
finished_state s id q outcome = if is_landing outcome then after_finish (after_flight (has_stored outcome) s id q) q.write (finishing q s.shelf) outcome else s

abbrev pub without_request : State → ℕ → Request → State
without_request s id q = record s { shelf = turned q.reader closed (on_write q.write (landed false) s.shelf); requests = remove s.requests id }

-- the state after an answer, but for the lock
abbrev pub answered : State → MomentValue → Action → Call → Answer → State
answered s t (Open id key asks) c a = with_request id (opened_request s.wait (entry_of key) asks) s
answered s t (LookUp id) c a = on_request s id (λ q. after_look s t id q (look_for q s.shelf))
answered s t (Poll id) c (Waited outcome) = on_request s id (λ q. with_request id (after_wait t outcome q.held q) s)
answered s t (Begin id head given) c a = on_request s id (λ q. after_begin s id q (judged_of c))
answered s t (Revalidate id head given) c a = on_request s id (λ q. after_confirmed s id q (confirmed_for q c) a)
answered s t (Piece id bytes last) c a = on_request s id (λ q. record s { shelf = on_write q.write (pieced bytes last) s.shelf })
answered s t (Finish id) c a = on_request s id (λ q. finished_state s id q (Ok a))
answered s t (Read id) c a = on_request s id (λ q. with_request id (record q { reader = read_on a q.reader }) s)
answered s t (Drop id) c a = on_request s id (λ q. without_request s id q)
answered s t (Purge key) c a = after_purge s key (is_there (look (stored_key_of key) s.shelf))
answered s t (Put key pieces given) c a = after_put s (Some s.shelf.writes) (finished_by c) a
answered s t _ c a = s

-- the state after a refusal, but for the lock
abbrev pub refused : State → Action → Call → TierFault → State
refused s (Revalidate id head given) c f = on_request s id (λ q. undone_renewal s id q (confirmed_for q c) (done_of f))
refused s (Finish id) c f = on_request s id (λ q. finished_state s id q (Err f))
refused s (Put key pieces given) c f = undone s (finished_by c) (done_of f)
refused s _ c f = s

abbrev pub after_outcome : State → MomentValue → Action → Call → Outcome → State
after_outcome s t action c (Ok a) = answered s t action c a
after_outcome s t action c (Err f) = refused s action c f

-- with so many writes begun, and that lock
abbrev pub with_counts : ℕ → LockState → State → State
with_counts n locks s = record s { shelf = record s.shelf { writes = n }; lock = locks }

-- the state after a call
abbrev pub after : State → Call → State
after s c = with_counts (writes_after s.shelf.writes c.began) (after_all (lock_changes s c) s.lock) (after_outcome s c.event.moment c.event.action c c.outcome)
