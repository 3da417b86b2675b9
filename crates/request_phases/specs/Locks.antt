-- What a request holds of a lock, and what asking for it and leaving it change.
use Rattle.std.specs.Prelude.{ℕ, Bool, true, false, List, Option, Some, None, is_some, option_map, if◌then◌else◌}
use Rattle.cache_words.specs.Time.{DurationValue, MomentValue}
use Rattle.cache_lock.specs.declared.tokens.Locked.{Locked}
use Rattle.cache_lock.specs.declared.tokens.Locked.TheVariants.{Write, Read}
use Rattle.cache_lock.specs.Tokens.{is_permit}
use Rattle.cache_lock.specs.Changes.{publishes}
use Rattle.cache_lock.specs.State.{LockState, after, after_all}
use Rattle.cache_lock.specs.Answers.{to_wait_for, locked_by, lock_change, leave_changes}
use Rattle.request_phases.specs.declared.lock_ctx.LockCtx.{LockCtx}
use Rattle.request_phases.specs.declared.lock_ctx.CacheOptionOverrides.{CacheOptionOverrides}
use Rattle.request_phases.specs.declared.request_lock.RequestLock.{RequestLock}

-- ---- the lock on and off

-- nothing is held, under these options
abbrev pub unlocked : Option CacheOptionOverrides → LockCtx
unlocked None = record { lock = None; wait_timeout = None; max_retries = None }
unlocked (Some o) = record { lock = None; wait_timeout = o.wait_timeout; max_retries = o.max_lock_retries }

abbrev pub lock_off : RequestLock
lock_off = record { ctx = None; polled = None }

abbrev pub lock_on : Option CacheOptionOverrides → RequestLock
lock_on o = record { ctx = Some (unlocked o); polled = None }

abbrev pub lock_set : Bool → Option CacheOptionOverrides → RequestLock
lock_set on o = if on then lock_on o else lock_off

abbrev pub is_on : RequestLock → Bool
is_on r = is_some r.ctx

-- ---- what is held

abbrev pub held_in : Option LockCtx → Option Locked
held_in None = None
held_in (Some c) = c.lock

abbrev pub held : RequestLock → Option Locked
held r = held_in r.ctx

abbrev pub is_write : Option Locked → Bool
is_write None = false
is_write (Some l) = is_permit l

abbrev pub is_read : Option Locked → Bool
is_read (Some (Read read)) = true
is_read _ = false

-- the permit
abbrev pub holds_permit : RequestLock → Bool
holds_permit r = is_write (held r)

-- a read lock
abbrev pub waits : RequestLock → Bool
waits r = is_read (held r)

abbrev pub timeout_in : Option LockCtx → Option DurationValue
timeout_in None = None
timeout_in (Some c) = c.wait_timeout

-- the longest time that the request waits in all; none where the lock is off
abbrev pub timeout_of : RequestLock → Option DurationValue
timeout_of r = timeout_in r.ctx

abbrev pub retries_in : Option LockCtx → Option ℕ
retries_in None = None
retries_in (Some c) = c.max_retries

-- how often the request asks again after a wait; none where the lock is off
abbrev pub retries_of : RequestLock → Option ℕ
retries_of r = retries_in r.ctx

-- with that held where the lock is on, and not polled yet
abbrev pub holding : Option Locked → RequestLock → RequestLock
holding l r = record { ctx = option_map (λ (c : LockCtx). record c { lock = l }) r.ctx; polled = None }

-- with nothing held, and no first poll
abbrev pub let_go : RequestLock → RequestLock
let_go r = holding None r

-- ---- asking for a lock, and leaving one

-- what a request is given that asks for a key: where its lock is off, nothing
abbrev pub given_by : RequestLock → List ℕ → LockState → Option Locked
given_by r key s = if is_on r then Some (locked_by s (to_wait_for key s)) else None

-- the lock once the request has asked
abbrev pub asked : RequestLock → List ℕ → Bool → MomentValue → LockState → LockState
asked r key stale moment s = if is_on r then after (lock_change key stale moment s (to_wait_for key s)) s else s

-- the lock once a permit or read lock is left: the permit is dropped
abbrev pub left_by : Option Locked → LockState → LockState
left_by None s = s
left_by (Some l) s = after_all (leave_changes l) s

-- the lock once the request has left what it holds
abbrev pub lock_left : RequestLock → LockState → LockState
lock_left r s = left_by (held r) s

-- the request once it holds what it was given, in the place of what it held
abbrev pub now_holding : Option Locked → RequestLock → RequestLock
now_holding None r = r
now_holding (Some l) r = holding (Some l) r

-- what is left then: what was held, or, where the lock is off, what was given
abbrev pub spare_in : Locked → Option LockCtx → Option Locked
spare_in l None = Some l
spare_in l (Some c) = c.lock

abbrev pub spare : Option Locked → RequestLock → Option Locked
spare None r = None
spare (Some l) r = spare_in l r.ctx

-- the lock then
abbrev pub lock_held : Option Locked → RequestLock → LockState → LockState
lock_held given r s = left_by (spare given r) s

-- the lock once the writer's tokens are published; without a permit as before
abbrev pub tokens_published : Option Locked → List ℕ → LockState → LockState
tokens_published (Some (Write permit)) tokens s = after (publishes permit.number tokens) s
tokens_published _ tokens s = s
