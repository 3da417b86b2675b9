-- The plain state of a tier: what it holds.
use Rattle.std.specs.Prelude.{ℕ, Bool, List, length, Option}
use Rattle.std.specs.FinMap.{FinMap, empty}
use Rattle.std.specs.Ordering.{nat_cmp}
use Rattle.cache_words.specs.Time.{MomentValue, DurationValue}
use Rattle.cache_heads.specs.declared.meta.CacheMeta.{CacheMeta}
use Rattle.cache_entries.specs.declared.entry.CacheEntryKey.{CacheEntryKey}
use Rattle.cache_evict.specs.Managed.{Managed, fresh}
use Rattle.cache_lock.specs.State.{LockState, empty_lock}
use Rattle.tier_model.specs.Shelf.{Shelf, empty_shelf}

-- what a tier was made with: how many shards the order of use has, the weight limit, the watermark on the number of entries,
-- the age of a permit, the longest wait
pub record Settings : Type 0 where
  pub shards : ℕ
  pub limit : ℕ
  pub watermark : Option ℕ
  pub age : DurationValue
  pub wait : Option DurationValue

-- what a request may do next
pub data Phase : Type 0 where
  -- opened, and nothing was found yet
  cache_key : Phase
  -- its last look-up found something fresh
  hit : Phase
  -- its last look-up found something past its moment
  stale : Phase
  -- it found nothing, and may begin a write
  miss : Phase
  -- it began a write
  begun : Phase
  -- its head may not be kept
  disabled : Phase
  -- what it found past its moment was confirmed, whether that may be kept or not
  revalidated : Phase

-- what a request holds of the lock: nothing, a permit, or a wait with the moment of its first poll. Each is of the core of that number
pub data LockHold : Type 0 where
  nothing : LockHold
  permit : ℕ → LockHold
  waits : ℕ → Option MomentValue → LockHold

-- what a request has to read
pub data Reader : Type 0 where
  -- nothing was found
  closed : Reader
  -- a whole body, and none of it is read
  unread : List ℕ → Reader
  -- a whole body, and all of it is read
  spent : Reader
  -- the write of that number, from a place on
  streaming : ℕ → ℕ → Reader

-- what a look-up found that is past its moment: the number of its write, and its meta then
pub record Seen : Type 0 where
  pub number : ℕ
  pub meta : CacheMeta

-- an open request: the entry for which it was opened, whether it asks for the lock, and the longest that it waits in all; its phase; what it
-- holds of the lock, how long all its waits that ended took, if some did, and whether its last look-up gave it a wait; what that found past its moment,
-- until a begin or a revalidation of it is answered; the number of its write; its reader
pub record Request : Type 0 where
  pub entry : CacheEntryKey
  pub asks : Bool
  pub wait : Option DurationValue
  pub phase : Phase
  pub held : LockHold
  pub waited : Option DurationValue
  pub gave_read : Bool
  pub seen : Option Seen
  pub write : Option ℕ
  pub reader : Reader

pub record State : Type 0 where
  -- the order of use with its limits, and what was evicted
  pub managed : Managed
  pub wait : Option DurationValue
  pub shelf : Shelf
  pub lock : LockState
  pub requests : FinMap nat_cmp Request
  -- look-ups answered found, look-ups answered absent; each stops at 2^64 - 1
  pub found : ℕ
  pub absent : ℕ

-- how many shards the order of use has
abbrev pub shards_of : State → ℕ
shards_of s = length s.managed.shards

-- nothing is held
abbrev pub empty_state : Settings → State
empty_state settings = record {
  managed = fresh settings.shards settings.limit settings.watermark;
  wait = settings.wait;
  shelf = empty_shelf 0;
  lock = empty_lock settings.age;
  requests = empty;
  found = 0;
  absent = 0;
}
