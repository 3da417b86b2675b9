-- What a response varies by, in the key and the meta of a request.
use Rattle.std.specs.Prelude.{Bool, true, false, not, ◌&&◌, List, ℕ, Option, Some, None, option_map, is_some, if◌then◌else◌}
use Rattle.std.specs.Option.{option_or}
use Rattle.cache_words.specs.Key.{CacheKeyValue}
use Rattle.cache_lock.specs.declared.status.LockStatus.TheVariants.{Done}
use Rattle.cache_lock.specs.State.{LockState}
use Rattle.request_phases.specs.declared.phase.CachePhase.{CachePhase}
use Rattle.request_phases.specs.declared.phase.CachePhase.TheVariants.{Expired}
use Rattle.request_phases.specs.Locks.{let_go}
use Rattle.request_phases.specs.Releases.{lock_released}
use Rattle.request_store.specs.Variants.{same_variance, varied}
use Rattle.request_cache.specs.Request.{Request, stored_at}

abbrev pub variance_of : Option CacheKeyValue → Option (List ℕ)
variance_of None = None
variance_of (Some key) = key.variance

-- the key with that variance, or with none
abbrev pub varying : Option (List ℕ) → Option CacheKeyValue → Option CacheKeyValue
varying v key = option_map (λ (k : CacheKeyValue). record k { variance = v }) key

-- the key's variance after a look-up of the variant v, by whether the response that was found is that variant and what the key had:
-- the first of the variants is stored under the key alone
abbrev pub variance_then : Bool → List ℕ → Option (List ℕ) → Option (List ℕ)
variance_then true v None = None
variance_then is_found v before = Some v

-- ---- another variance of what is stored

abbrev pub is_expired : CachePhase → Bool
is_expired Expired = true
is_expired _ = false

-- the variance under which the response before is stored: the key's, and without one that of its meta
abbrev pub variance_before : {H M : Type 0} → Request H M → Option (List ℕ)
variance_before r = option_or (variance_of r.key) r.stale_variance

-- a response that replaces one of another variance begins a family of variants
abbrev pub begins_family : {H M : Type 0} → Option (List ℕ) → Request H M → Bool
begins_family v r = is_expired r.phase && not (same_variance (variance_before r) v)

-- a key of another variance is left, for the one that all variants share
abbrev pub leaves_key : Option (List ℕ) → Option CacheKeyValue → Bool
leaves_key v key = is_some (variance_of key) && not (same_variance (variance_of key) v)

-- the request whose response has that variance
abbrev pub with_variance : {H M : Type 0} → Option (List ℕ) → Request H M → Request H M
with_variance v r = record r {
  key = if leaves_key v r.key then varying None r.key else r.key;
  lock = if leaves_key v r.key then let_go r.lock else r.lock;
  meta = option_map (varied v (begins_family v r)) r.meta;
  stale_variance = None;
}

-- the lock then: what is held of a key that is left is released as done
abbrev pub lock_varied : {H M : Type 0} → Option (List ℕ) → Request H M → LockState → LockState
lock_varied v r s = if leaves_key v r.key then lock_released (stored_at r.key) Done r.lock s else s
