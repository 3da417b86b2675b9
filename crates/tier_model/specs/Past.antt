-- A state with the history that led to it.
use Rattle.std.specs.Prelude.{◌≡◌, ◌↔◌, ◌<◌, ℕ, Bool, true, List, [], ◌∷◌, ◌++◌, length, map, ◌==◌, if◌then◌else◌, Option, Some, None, option_map, MatchOption}
use Rattle.std.specs.List.{range_with_len, sum_by}
use Rattle.std.specs.FinMap.{FinMap, entries, get, values}
use Rattle.std.specs.Ordering.{nat_cmp}
use Rattle.cache_entries.specs.declared.rows.Tracked.{Tracked}
use Rattle.cache_entries.specs.Entry.{key_of}
use Rattle.cache_entries.specs.Rows.{AreDistinct}
use Rattle.cache_changes.specs.Changes.{StoredKey, Write, Changes}
use Rattle.cache_changes.specs.Store.{Stored, Flying, store_of}
use Rattle.cache_changes.specs.Writes.{bytes_of, IsInFlight}
use Rattle.cache_changes.specs.Uses.{IsOrderOfUse, in_shard, AreShardsOf}
use Rattle.cache_evict.specs.Managed.{Managed, fresh, saturated}
use Rattle.tier_model.specs.Keys.{alone}
use Rattle.tier_model.specs.Rows.{Numbered}
use Rattle.tier_model.specs.Calls.{Call, History, opened_for, asks_lock, bytes_read, extended}
use Rattle.tier_model.specs.Histories.{Kept, Opening, told_of, writes_begun, write_held, seen_by, changes_of, HasHit}
use Rattle.tier_model.specs.Reads.{HasStream, IsOver, IsWhole}
use Rattle.tier_model.specs.Standings.{Hold, no_lock, a_permit, a_wait, Wait, wait_of}
use Rattle.tier_model.specs.Standings.{Reads, no_reader, all_of_body, read_body, as_it_comes, RequestStanding, own_of}
use Rattle.tier_model.specs.Reports.{AreAllBodies, found_answers, absent_answers, evictions}
use Rattle.tier_model.specs.Shelf.{InFlight, Readers, Shelf, empty_shelf, readable, is_whole}
use Rattle.tier_model.specs.State.{LockHold, nothing, permit, waits, Reader, closed, unread, spent, streaming, Seen, Request, State, empty_state}
use Rattle.tier_model.specs.Step.{Allows}
use Rattle.tier_model.specs.After.{lock_changes, after}
use Rattle.cache_lock.specs.Changes.{Changes as LockChanges}
use Rattle.cache_lock.specs.State.{LockState, empty_lock, after_all}
use Rattle.cache_lock.specs.Waits.{names_of}

-- rows put into n shards
abbrev pub in_shards : ℕ → List Tracked → List (List Tracked)
in_shards n rows = map (λ s. in_shard n s rows) (range_with_len 0 n)

-- the order of use that a tier begins with
abbrev pub loaded_of : Opening → Managed
loaded_of start = record (fresh start.settings.shards start.settings.limit start.settings.watermark) { shards = in_shards start.settings.shards start.loaded }

-- the lock that a tier begins with
abbrev pub lock_from : Opening → LockState
lock_from start = record (empty_lock start.settings.age) { next = start.first_core }

-- the state of a tier after a history
abbrev pub state_of : Opening → History → State
state_of start [] = record (empty_state start.settings) { managed = loaded_of start; shelf = empty_shelf start.first; lock = lock_from start }
state_of start (c ∷ h) = after (state_of start h) c

-- what a history changed in the lock, the latest change first
abbrev pub lock_changes_of : Opening → History → LockChanges
lock_changes_of start [] = []
lock_changes_of start (c ∷ h) = lock_changes (state_of start h) c ++ lock_changes_of start h

-- each outcome is one that the state before it allows; there is a shard, and no entry was loaded twice
abbrev pub IsLawful : Opening → History → Type 0
IsLawful start [] = (0 < start.settings.shards) × AreDistinct start.loaded
IsLawful start (c ∷ h) = Allows (state_of start h) c × IsLawful start h

-- ---- what a state says of its history

-- the body that changes say of a write, with its key and its number
abbrev pub told_at : Changes Kept → Write Kept → StoredKey × Numbered
told_at changes w = (w.key, record { number = w.number; body = told_of changes w })

-- the state's bodies are all that the history has, one a key, each under its key with its number, its bytes and its meta
abbrev pub HoldsBodies : State → Opening → History → Type 0
HoldsBodies s start h =
    (writes : List (Write Kept)) × AreAllBodies writes (changes_of start h)
    × (entries s.shelf.bodies ≡ map (told_at (changes_of start h)) writes)

-- a write in flight as a state has it: with the meta alone beside its bytes
abbrev pub plain : Flying Kept → InFlight
plain f = record { number = f.stored.write.number; key = f.stored.write.key; meta = f.stored.meta.meta; bytes = f.stored.bytes; ended = f.ended; removed = f.removed }

-- the shards hold the entries that a history leaves tracked, in the order of use, with what each weighs
abbrev pub HoldsOrder : Managed → Opening → History → Type 0
HoldsOrder m start h =
    (0 < start.settings.shards) × ((rows : List Tracked) × IsOrderOfUse rows (changes_of start h) × AreShardsOf start.settings.shards m.shards rows)

-- the writes that requests have are just those in flight, and no two of them have one number
pub record HoldsWrites (start : Opening) (h : History) : Type 0 where
  pub fly : (id : ℕ) (w : Write Kept) → write_held start id h ≡ Some w → IsInFlight w (changes_of start h)
  pub owned : (w : Write Kept) → IsInFlight w (changes_of start h) → (id : ℕ) × (write_held start id h ≡ Some w)
  pub apart : (i j : ℕ) (v w : Write Kept) → write_held start i h ≡ Some v → write_held start j h ≡ Some w → v.number ≡ w.number → i ≡ j

-- what there is to read of a write is all that came of it, and whether no more comes; and it is whole where all of it came
abbrev pub IsReadable : Shelf → ℕ → Changes Kept → Type 0
IsReadable shelf n changes =
    (over : Bool) × (readable n shelf ≡ Some (bytes_of n changes, over)) × ((over ≡ true) ↔ IsOver n changes) × ((is_whole n shelf ≡ true) ↔ IsWhole n changes)

-- a request has to read what its calls say: of a whole body nothing was read, or all; of a write as it comes all up to its place
abbrev pub HasToRead : Opening → ℕ → Reader → History → Type 0
HasToRead start id closed h = Unit {0}
HasToRead start id (unread bytes) h =
    (w : Write Kept) × (since : History) × (hit : HasHit start id w since h) × (bytes_read id since ≡ []) × (bytes ≡ bytes_of w.number (changes_of start hit.before))
HasToRead start id spent h =
    (w : Write Kept) × (since : History) × (hit : HasHit start id w since h) × (bytes_read id since ≡ bytes_of w.number (changes_of start hit.before))
HasToRead start id (streaming n place) h =
    (w : Write Kept) × (since : History) × HasStream start id w since h × (w.number ≡ n) × (place ≡ length (bytes_read id since))
    × ((more : List ℕ) × (bytes_of n (changes_of start h) ≡ bytes_read id since ++ more))

-- how many requests read the write of that number as it comes
abbrev pub streams_by : ℕ → Reader → ℕ
streams_by n (streaming m place) = if m == n then 1 else 0
streams_by n _ = 0

abbrev pub streams : ℕ → Request → ℕ
streams n q = streams_by n q.reader

abbrev pub streamers : ℕ → FinMap nat_cmp Request → ℕ
streamers n requests = sum_by (streams n) (values requests)

-- the readers of a write are as many as those requests, and where it has none nothing is kept of it
abbrev pub count_of : Option Readers → ℕ
count_of None = 0
count_of (Some r) = r.count

-- how many requests hold the core of that number, by a permit or by a wait
abbrev pub holds_by : ℕ → LockHold → ℕ
holds_by n nothing = 0
holds_by n (permit m) = if n == m then 1 else 0
holds_by n (waits m first) = if n == m then 1 else 0

abbrev pub holds : ℕ → Request → ℕ
holds n q = holds_by n q.held

abbrev pub holders : ℕ → FinMap nat_cmp Request → ℕ
holders n requests = sum_by (holds n) (values requests)

-- what a request's own calls are to say of it
abbrev pub hold_in : LockHold → Hold
hold_in nothing = no_lock
hold_in (permit n) = a_permit
hold_in (waits n first) = a_wait first

abbrev pub reads_in : Reader → Reads
reads_in closed = no_reader
reads_in (unread bytes) = all_of_body
reads_in spent = read_body
reads_in (streaming n place) = as_it_comes

abbrev pub own_in : Request → RequestStanding
own_in q = record { phase = q.phase; gave_read = q.gave_read; reads = reads_in q.reader }

abbrev pub wait_in : Request → Wait
wait_in q = record { hold = hold_in q.held; waited = q.waited }

-- what a request has seen, as a state has it: with the number alone beside its meta
abbrev pub plain_seen : Stored Kept → Seen
plain_seen x = record { number = x.write.number; meta = x.meta.meta }

-- q is what the calls of the open request say
pub record IsRequestOf (start : Opening) (id : ℕ) (q : Request) (h : History) : Type 0 where
  pub key : opened_for id h ≡ Some (key_of q.entry)
  pub entry : q.entry ≡ alone (key_of q.entry)
  pub asks : q.asks ≡ asks_lock id h
  pub own : own_in q ≡ own_of id h
  pub wait : wait_in q ≡ wait_of id h
  pub seen : q.seen ≡ option_map plain_seen (seen_by start id h)
  pub write : q.write ≡ option_map (λ w. w.number) (write_held start id h)
  pub reader : HasToRead start id q.reader h

-- the requests are those that are open, each as its calls say
abbrev pub AreRequests : Opening → State → History → Type 0
AreRequests start s h = (id : ℕ) → MatchOption (get s.requests id) (opened_for id h ≡ None) (λ q. IsRequestOf start id q h)

-- the state is what the history says: its bodies and writes in flight, the order of use, the open requests with their writes and what they have to
-- read, the readers of each write that has some, what its lock was changed, with each core named as often as requests hold it, the counts, and
-- how many writes began
pub record MatchesHistory (s : State) (start : Opening) (h : History) : Type 0 where
  pub bodies : HoldsBodies s start h
  pub flights : s.shelf.flying ≡ map plain (store_of (changes_of start h)).flying
  pub order : HoldsOrder s.managed start h
  pub held : HoldsWrites start h
  pub requests : AreRequests start s h
  pub counted : (n : ℕ) → count_of (get s.shelf.readers n) ≡ streamers n s.requests
  pub kept : (n : ℕ) (r : Readers) → get s.shelf.readers n ≡ Some r → 0 < r.count
  pub reading : (id n place : ℕ) (q : Request) → get s.requests id ≡ Some q → q.reader ≡ streaming n place → IsReadable s.shelf n (changes_of start h)
  pub lock : s.lock ≡ after_all (lock_changes_of start h) (lock_from start)
  pub named : (n : ℕ) → names_of n (lock_changes_of start h) ≡ holders n s.requests
  pub found : s.found ≡ saturated (found_answers h)
  pub absent : s.absent ≡ saturated (absent_answers h)
  pub evicted : s.managed.evicted_items ≡ saturated (evictions h)
  pub writes : s.shelf.writes ≡ writes_begun start h

-- the state may come after that history, and is what it says
pub record HasPast (start : Opening) (s : State) (h : History) : Type 0 where
  pub lawful : IsLawful start h
  pub state : s ≡ state_of start h
  pub matches : MatchesHistory s start h

-- the calls were taken in order, each one that the state before it allows, and led from the old state to the new one
abbrev pub AreTaken : State → List Call → State → Type 0
AreTaken old [] new = new ≡ old
AreTaken old (c ∷ calls) new = Allows old c × AreTaken (after old c) calls new

-- every past that the tier may have had is one of the new state, with these calls after it
abbrev pub CarriesPast : State → List Call → State → Type 0
CarriesPast old calls new = (start : Opening) (past : History) → HasPast start old past → HasPast start new (extended past calls)

-- some history led to the state
abbrev pub HasAPast : State → Type 0
HasAPast s = (start : Opening) × (h : History) × HasPast start s h
