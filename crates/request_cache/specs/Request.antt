-- A request to a cache: its phase, and what it holds.
use Rattle.std.specs.Prelude.{◌≡◌, ℕ, Bool, true, false, List, Option, None, is_some}
use Rattle.cache_words.specs.Time.{MomentValue}
use Rattle.cache_words.specs.Key.{CacheKeyValue}
use Rattle.cache_heads.specs.declared.meta.CacheMeta.{CacheMeta}
use Rattle.cache_heads.specs.declared.reason.NoCacheReason.{NoCacheReason}
use Rattle.cache_heads.specs.declared.reason.NoCacheReason.TheVariants.{NeverEnabled}
use Rattle.cache_store.specs.declared.max_file_size.MaxFileSizeTracker.{MaxFileSizeTracker}
use Rattle.request_phases.specs.declared.phase.CachePhase.{CachePhase}
use Rattle.request_phases.specs.declared.phase.CachePhase.TheVariants.{Disabled, Uninit}
use Rattle.request_phases.specs.declared.digest.HttpCacheDigest.{HttpCacheDigest}
use Rattle.request_phases.specs.declared.lock_ctx.CacheOptionOverrides.{CacheOptionOverrides}
use Rattle.request_phases.specs.declared.request_lock.RequestLock.{RequestLock}
use Rattle.request_phases.specs.Phases.{is_disabled, has_key_phase}
use Rattle.request_phases.specs.Digests.{empty_digest}
use Rattle.request_phases.specs.Locks.{lock_off, lock_set}
use Rattle.request_cache.specs.declared.request.Uses.{Uses}
pub use Rattle.request_store.specs.Entries.{stored_at}

-- a request with readers and writers of a store. A disable keeps the key, what follows it up to `predicted`, and the digest
pub record Request (H M : Type 0) : Type 0 where
  pub phase : CachePhase
  pub digest : HttpCacheDigest
  pub key : Option CacheKeyValue
  pub size : Option MaxFileSizeTracker
  pub predicts : Bool
  pub predicted : Option NoCacheReason
  pub evicts : Bool
  pub admits : Bool
  pub lock : RequestLock
  pub meta : Option CacheMeta
  pub valid_after : Option MomentValue
  pub stale_variance : Option (List ℕ)
  pub reader : Option H
  pub writer : Option M

-- a key is there in each phase but Disabled and Uninit
abbrev pub IsKeyed : CachePhase → Option CacheKeyValue → Type 0
IsKeyed phase key = has_key_phase phase ≡ true → is_some key ≡ true

-- nothing is held that has to be spent
pub record HoldsNothing {H M : Type 0} (r : Option H) (w : Option M) (l : RequestLock) : Type 0 where
  pub reader : r ≡ None
  pub writer : w ≡ None
  pub lock : l ≡ lock_off

-- a Disabled request holds nothing that has to be spent
abbrev pub IsIdleWhenDisabled : {H M : Type 0} → CachePhase → Option H → Option M → RequestLock → Type 0
IsIdleWhenDisabled phase reader writer lock = is_disabled phase ≡ true → HoldsNothing reader writer lock

-- ---- off and on

abbrev pub unused : {H M : Type 0} → Request H M
unused = record {
  phase = Disabled NeverEnabled;
  digest = empty_digest;
  key = None;
  size = None;
  predicts = false;
  predicted = None;
  evicts = false;
  admits = false;
  lock = lock_off;
  meta = None;
  valid_after = None;
  stale_variance = None;
  reader = None;
  writer = None;
}

-- all is anew but the digest
abbrev pub enabled_with : {H M : Type 0} → Uses → Option CacheOptionOverrides → Request H M → Request H M
enabled_with uses overrides r = record unused { phase = Uninit; digest = r.digest; predicts = uses.predictor; evicts = uses.eviction; lock = lock_set uses.lock overrides }

-- what goes with a disable
abbrev pub emptied : {H M : Type 0} → Request H M → Request H M
emptied r = record r { evicts = false; admits = false; lock = lock_off; meta = None; valid_after = None; stale_variance = None; reader = None; writer = None }

-- a request that was never enabled stays as it is, and one that is disabled takes the reason alone
abbrev pub disabled_in : {H M : Type 0} → CachePhase → NoCacheReason → Request H M → Request H M
disabled_in (Disabled NeverEnabled) reason r = r
disabled_in (Disabled before) reason r = record r { phase = Disabled reason }
disabled_in _ reason r = record (emptied r) { phase = Disabled reason }

abbrev pub disabled_for : {H M : Type 0} → NoCacheReason → Request H M → Request H M
disabled_for reason r = disabled_in r.phase reason r
