-- A request to a cache as a plain record, and what is so of each request of a tier.
use Rattle.std.specs.Prelude.{◌≡◌, ℕ, Bool, true, false, List, if◌then◌else◌, Option, Some, None, is_some, option_map, unwrap_or, [], Box}
use Rattle.std.specs.declared.alloc.Global.{Global}
use Rattle.cache_words.specs.Time.{MomentValue, DurationValue}
use Rattle.cache_words.specs.Key.{CacheKeyValue}
use Rattle.cache_heads.specs.declared.meta.CacheMeta.{CacheMeta}
use Rattle.cache_lock.specs.declared.tokens.Locked.{Locked}
use Rattle.cache_lock.specs.declared.tokens.Locked.TheVariants.{Write, Read}
use Rattle.request_phases.specs.declared.phase.CachePhase.{CachePhase}
use Rattle.request_phases.specs.declared.phase.CachePhase.TheVariants as phases
use Rattle.request_phases.specs.declared.request_lock.RequestLock.{RequestLock}
use Rattle.request_phases.specs.Phases.{is_disabled, is_never_enabled, is_stale_phase}
use Rattle.request_phases.specs.Locks.{is_on, is_read, timeout_of, lock_set, held as lock_held}
use Rattle.store_memory.specs.declared.handlers.MemHitHandler.{MemHitHandler}
use Rattle.store_memory.specs.declared.handlers.MemHitHandler.TheVariants.{Complete, Partial}
use Rattle.request_cache.specs.Request.{Request as CacheRequest, HoldsNothing, unused}
use Rattle.request_cache.specs.Founds.{entry_at}
use Rattle.tier_model.specs.declared.event.LockGiven.{LockGiven}
use Rattle.tier_model.specs.declared.event.LockGiven.TheVariants as given
use Rattle.tier_model.specs.Checks.{can_begin}
use Rattle.tier_model.specs.State.{Phase, cache_key, hit, stale, miss, begun, disabled, revalidated, LockHold, nothing, permit, waits, Reader, closed, unread, spent, streaming, Seen, Request}

-- a request to the store in memory: its readers are handlers, and its writer is the number of its write
abbrev pub Driven : Type 0
Driven = CacheRequest MemHitHandler ℕ

-- just opened, under a key
abbrev pub opened_with : CacheKeyValue → Bool → Option DurationValue → Driven
opened_with key asks wait = record unused {
  phase = phases.CacheKey;
  key = Some key;
  evicts = true;
  lock = lock_set asks (Some (record { wait_timeout = wait; max_lock_retries = None }));
}

-- by whether there is a meta: a miss with one has begun its write
abbrev pub phase_in : CachePhase → Bool → Phase
phase_in phases.CacheKey meta = cache_key
phase_in phases.Hit meta = hit
phase_in phases.Stale meta = stale
phase_in phases.Miss true = begun
phase_in phases.Miss false = miss
phase_in phases.Expired meta = begun
phase_in phases.Revalidated meta = revalidated
phase_in (phases.RevalidatedNoCache reason) meta = revalidated
phase_in _ meta = disabled

-- what is held of the lock, with the moment of a wait's first poll
abbrev pub held_in : Option Locked → Option MomentValue → LockHold
held_in None polled = nothing
held_in (Some (Write p)) polled = permit p.number
held_in (Some (Read r)) polled = waits r.number polled

-- what is reported of what is held of the lock
abbrev pub given_of : LockHold → LockGiven
given_of nothing = given.None
given_of (permit n) = given.Write
given_of (waits n first) = given.Read

-- what there is to read: all of a body, which waits beside its reader, or what the reader of a write has. A body that was read has no
-- reader any more, and bytes stand for it
abbrev pub reader_in : Option (List ℕ) → Option MemHitHandler → Reader
reader_in bytes None = if is_some bytes then spent else closed
reader_in bytes (Some (Complete h)) = unwrap_or (option_map unread bytes) spent
reader_in bytes (Some (Partial h)) = streaming h.number h.place

-- the meta with a head of no fields: the request to a cache keeps no more of what was found, since its rules ask for moments and numbers
abbrev pub without_head : CacheMeta → CacheMeta
without_head meta = record meta { header = record { status = 200; headers = [] } }

-- the meta that is held beside it
abbrev pub share_of : Option (Box CacheMeta Global) → Option CacheMeta
share_of = option_map (λ b. b.value)

-- what it has seen: of a stale request the meta that is held of what it found, and the number of that write beside it
abbrev pub as_seen : ℕ → CacheMeta → Seen
as_seen number meta = record { number = number; meta = meta }

abbrev pub seen_in : CachePhase → ℕ → Option CacheMeta → Option Seen
seen_in phases.Stale number meta = option_map (as_seen number) meta
seen_in _ number meta = None

abbrev pub plain_of : Driven → Bool → Option DurationValue → Bool → ℕ → Option CacheMeta → Option (List ℕ) → Request
plain_of r asks wait gave_read seen share bytes = record {
  entry = entry_at r.key None;
  asks = asks;
  wait = wait;
  phase = phase_in r.phase (is_some r.meta);
  held = held_in (lock_held r.lock) r.lock.polled;
  waited = r.digest.lock_duration;
  gave_read = gave_read;
  seen = seen_in r.phase seen share;
  write = r.writer;
  reader = reader_in bytes r.reader;
}

-- ---- what is so of each

-- the lock is on where the request asks for it, under the longest wait
pub record IsSet (asks : Bool) (wait : Option DurationValue) (l : RequestLock) : Type 0 where
  pub on : is_on l ≡ asks
  pub timeout : is_on l ≡ true → timeout_of l ≡ wait

-- it reads a write as that comes
abbrev pub reads_a_write : Option MemHitHandler → Bool
reads_a_write (Some (Partial h)) = true
reads_a_write _ = false

-- a request has a key and uses the manager and the lock until it is disabled, when it holds nothing. It has a write only where one
-- began, and then nothing of the lock. One that waits may not begin a write: its last look-up gave it the wait. No policy is asked, and
-- nothing is hidden from it. A stale one that got no wait has the meta of what it found, of which it holds the head beside it; no other
-- holds one. One that reads a write, as its own once it began, has let go of the body that it found before
pub record IsDriven (r : Driven) (asks : Bool) (wait : Option DurationValue) (gave_read : Bool) (share : Option CacheMeta) (bytes : Option (List ℕ)) : Type 0 where
  pub used : is_never_enabled r.phase ≡ false
  pub key : is_some r.key ≡ true
  pub admits : r.admits ≡ false
  pub shown : r.valid_after ≡ None
  pub evicts : is_disabled r.phase ≡ false → r.evicts ≡ true
  pub lock : is_disabled r.phase ≡ false → IsSet asks wait r.lock
  pub idle : is_disabled r.phase ≡ true → HoldsNothing r.reader r.writer r.lock
  pub writes : is_some r.writer ≡ true → phase_in r.phase (is_some r.meta) ≡ begun
  pub released : is_some r.writer ≡ true → lock_held r.lock ≡ None
  pub waits : is_read (lock_held r.lock) ≡ true → can_begin (phase_in r.phase (is_some r.meta)) gave_read ≡ false
  pub sees : is_stale_phase r.phase ≡ true → gave_read ≡ false → is_some r.meta ≡ true
  pub bare : is_stale_phase r.phase ≡ true → r.meta ≡ option_map without_head share
  pub unheld : is_stale_phase r.phase ≡ false → share ≡ None
  pub gone : reads_a_write r.reader ≡ true → bytes ≡ None
