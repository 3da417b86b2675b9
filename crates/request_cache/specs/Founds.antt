-- What becomes of a response that was found.
use Rattle.std.specs.Prelude.{◌≡◌, ℕ, Bool, true, false, not, ◌&&◌, [], Option, Some, None, Result, Ok, Err, if◌then◌else◌}
use Rattle.cache_words.specs.Time.{MomentValue}
use Rattle.cache_heads.specs.declared.meta.CacheMeta.{CacheMeta}
use Rattle.cache_entries.specs.declared.entry.CacheEntryKey.{CacheEntryKey}
use Rattle.cache_evict.specs.Faults.{IsPutRefused, evicted_of}
use Rattle.cache_evict.specs.declared.fault.EvictFault.{EvictFault}
use Rattle.cache_evict.specs.Managed.{Managed, use_first, rows_of}
use Rattle.cache_entries.specs.Rows.{weight_of}
use Rattle.cache_lock.specs.declared.tokens.Locked.{Locked}
use Rattle.cache_lock.specs.State.{LockState}
use Rattle.cache_lock.specs.Answers.{to_wait_for, IsRefused, IsAsBefore}
use Rattle.cache_store.specs.StoreState.{StoreState}
use Rattle.cache_store.specs.Readers.{Reader, PartsReader}
use Rattle.request_phases.specs.declared.hit.HitStatus.{HitStatus}
use Rattle.request_phases.specs.HitStatuses.{is_fresh, is_treated_as_miss, found_phase}
use Rattle.request_phases.specs.Phases.{is_stale_phase}
use Rattle.request_phases.specs.Locks.{is_on, given_by, asked, left_by, now_holding, lock_held}
use Rattle.request_store.specs.declared.faults.FoundFault.{FoundFault}
use Rattle.request_store.specs.declared.faults.FoundFault.TheVariants.{Lock, Evict}
use Rattle.request_cache.specs.Request.{Request, stored_at}
use Rattle.request_store.specs.Spends.{Spends}
use Rattle.request_cache.specs.Points.{Point}
pub use Rattle.request_store.specs.Entries.{entry_at}

-- what the lock gives, and leaves, for a response that was found: it is asked for one that isn't fresh
abbrev pub found_given : {H M : Type 0} → HitStatus → Request H M → LockState → Option Locked
found_given status r s = if is_fresh status then None else given_by r.lock (stored_at r.key) s

abbrev pub found_asked : {H M : Type 0} → HitStatus → MomentValue → Request H M → LockState → LockState
found_asked status moment r s = if is_fresh status then s else asked r.lock (stored_at r.key) (is_stale_phase (found_phase status r.phase)) moment s

-- a miss form gives up what was found and what was there; the others keep what was found
abbrev pub kept : {A : Type 0} → HitStatus → A → Option A
kept status x = if is_treated_as_miss status then None else Some x

abbrev pub passed : {A : Type 0} → HitStatus → A → Option A
passed status x = if is_treated_as_miss status then Some x else None

-- the request with what was found
abbrev pub with_found : {H M : Type 0} → CacheMeta → H → HitStatus → Request H M → Request H M
with_found meta hit status r = record r { phase = found_phase status r.phase; meta = kept status meta; reader = kept status hit }

-- what was found is given up in a miss form, and then the earlier reader is spent
abbrev pub FoundSpends : {H : Type 0} → (H → Reader) → H → HitStatus → Option H → StoreState → StoreState → Type 0
FoundSpends reader hit status earlier old new = (mid : StoreState) × Spends reader (passed status hit) old mid × Spends reader earlier mid new

-- the request takes what was found, and holds what the lock gave
pub record IsTaken {H M : Type 0} (reader : H → Reader) (moment : MomentValue) (meta : CacheMeta) (hit : H) (status : HitStatus) (old new : Point H M) : Type 0 where
  pub request : new.request ≡ record (with_found meta hit status old.request) { lock = now_holding (found_given status old.request old.lock) old.request.lock }
  pub lock : new.lock ≡ lock_held (found_given status old.request old.lock) old.request.lock (found_asked status moment old.request old.lock)
  pub store : FoundSpends reader hit status old.request.reader old.held new.held

-- the lock after another refusal: what it gave is given back
abbrev pub given_back : {H M : Type 0} → HitStatus → MomentValue → Request H M → LockState → LockState
given_back status moment r s = left_by (found_given status r s) (found_asked status moment r s)

-- a lock that is asked may refuse, and then is as before; where something else refuses, what it gave is given back
abbrev pub IsRefusedFor : {H M : Type 0} → FoundFault → HitStatus → MomentValue → Point H M → LockState → Type 0
IsRefusedFor (Lock f) status moment old s =
    (is_fresh status ≡ false) × (is_on old.request.lock ≡ true) × IsRefused old.lock (to_wait_for (stored_at old.request.key) old.lock) f × (s ≡ old.lock)
IsRefusedFor _ status moment old s = (s ≡ given_back status moment old.request old.lock) × IsAsBefore s old.lock

-- a refusal spends what was found alone
pub record IsGivenUp {H M : Type 0} (reader : H → Reader) (moment : MomentValue) (hit : H) (status : HitStatus) (fault : FoundFault) (old new : Point H M) : Type 0 where
  pub request : new.request ≡ old.request
  pub store : PartsReader (reader hit) old.held new.held
  pub lock : IsRefusedFor fault status moment old new.lock

-- whether a use of the entry is counted
abbrev pub is_counted : {H M : Type 0} → (H → Bool) → H → HitStatus → Request H M → Bool
is_counted counts hit status r = not (is_treated_as_miss status) && (r.evicts && counts hit)

-- the order of use after a response was found, in n shards: a use of the entry e is counted, or isn't; a refusal changes nothing, and
-- the manager's reason is told, which is Memory only where nothing else is in the way
abbrev pub UseAnswer : ℕ → Bool → CacheEntryKey → ℕ → Managed → Result (Unit {0}) FoundFault → Managed → Type 0
UseAnswer n counted e w old (Ok done) new = new ≡ (if counted then use_first n e w old else old)
UseAnswer n counted e w old (Err (Evict f)) new = IsPutRefused n e w old f × (evicted_of f ≡ []) × (counted ≡ true) × (new ≡ old)
UseAnswer n counted e w old (Err (Lock f)) new = new ≡ old

-- the same of the count alone
abbrev pub CountAnswer : ℕ → Bool → CacheEntryKey → ℕ → Managed → Result (Unit {0}) EvictFault → Managed → Type 0
CountAnswer n counted e w old (Ok done) new = new ≡ (if counted then use_first n e w old else old)
CountAnswer n counted e w old (Err f) new = IsPutRefused n e w old f × (evicted_of f ≡ []) × (counted ≡ true) × (new ≡ old)

-- a use is refused only of an entry that isn't tracked
abbrev pub IsUntracked : ℕ → CacheEntryKey → FoundFault → Managed → Type 0
IsUntracked n e (Evict f) m = weight_of e (rows_of n e m) ≡ None
IsUntracked n e _ m = Unit {0}
