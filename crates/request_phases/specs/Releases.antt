-- How a permit ends by the reason for which a response isn't kept.
use Rattle.std.specs.Prelude.{ℕ, Bool, true, false, List, Option, Some, None, option_map, if◌then◌else◌}
use Rattle.cache_words.specs.Key.{CacheKeyValue, key_of, combined}
use Rattle.cache_heads.specs.declared.reason.NoCacheReason.{NoCacheReason}
use Rattle.cache_heads.specs.declared.reason.NoCacheReason.TheVariants.{NeverEnabled, OriginNotCache, ResponseTooLarge, PredictedResponseTooLarge, StorageError, InternalError, Deferred}
use Rattle.cache_heads.specs.declared.reason.NoCacheReason.TheVariants.{DeclinedToUpstream, UpstreamError, CacheLockGiveUp, CacheLockTimeout, CacheLockRetryLimit, Custom}
use Rattle.cache_lock.specs.declared.status.LockStatus.{LockStatus}
use Rattle.cache_lock.specs.declared.status.LockStatus.TheVariants.{TransientError, GiveUp}
use Rattle.cache_lock.specs.declared.tokens.Locked.{Locked}
use Rattle.cache_lock.specs.declared.tokens.Locked.TheVariants.{Write, Read}
use Rattle.cache_lock.specs.State.{LockState, after_all}
use Rattle.cache_lock.specs.Answers.{release_changes, leave_changes}
use Rattle.request_phases.specs.declared.request_lock.RequestLock.{RequestLock}
use Rattle.request_phases.specs.Locks.{held, holds_permit, lock_left}

-- the status that a permit is released with, by what the lock reports of custom reasons. Another request may try where this one
-- failed, and nobody needs a lock where the response can't be kept. The last four are no reasons of one that holds a permit
abbrev pub status_for : (List ℕ → LockStatus) → NoCacheReason → Option LockStatus
status_for custom InternalError = Some TransientError
status_for custom StorageError = Some TransientError
status_for custom Deferred = Some TransientError
status_for custom UpstreamError = Some TransientError
status_for custom DeclinedToUpstream = Some TransientError
status_for custom OriginNotCache = Some GiveUp
status_for custom ResponseTooLarge = Some GiveUp
status_for custom PredictedResponseTooLarge = Some GiveUp
status_for custom (Custom text) = Some (custom text.now)
status_for custom NeverEnabled = None
status_for custom CacheLockGiveUp = None
status_for custom CacheLockTimeout = None
status_for custom CacheLockRetryLimit = None

-- a permit may end for that reason: `status_for` gives a status
abbrev pub is_permit_reason : NoCacheReason → Bool
is_permit_reason NeverEnabled = false
is_permit_reason CacheLockGiveUp = false
is_permit_reason CacheLockTimeout = false
is_permit_reason CacheLockRetryLimit = false
is_permit_reason _ = true

-- no permit is held, or it may end for that reason
abbrev pub is_releasable : RequestLock → NoCacheReason → Bool
is_releasable r reason = if holds_permit r then is_permit_reason reason else true

-- the lock once what is held was released: a permit with that status, and a read lock is left
abbrev pub released_in : Option Locked → List ℕ → LockStatus → LockState → LockState
released_in None key status s = s
released_in (Some (Write permit)) key status s = after_all (release_changes key permit.number status s) s
released_in (Some (Read read)) key status s = after_all (leave_changes (Read read)) s

abbrev pub lock_released : List ℕ → LockStatus → RequestLock → LockState → LockState
lock_released key status r s = released_in (held r) key status s

-- the same where there may be no key, or the reason may give no status: then what is held is left
abbrev pub lock_released_for : Option (List ℕ) → Option LockStatus → RequestLock → LockState → LockState
lock_released_for (Some key) (Some status) r s = lock_released key status r s
lock_released_for _ _ r s = lock_left r s

-- the hash of a key that may be there
abbrev pub key_in : Option CacheKeyValue → Option (List ℕ)
key_in key = option_map (λ k. combined (key_of k)) key
