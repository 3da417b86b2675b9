-- How the write of a request begins.
use Rattle.std.specs.Prelude.{◌≡◌, ℕ, Bool, List, Option, Some, None, if◌then◌else◌}
use Rattle.cache_heads.specs.declared.meta.CacheMeta.{CacheMeta}
use Rattle.cache_lock.specs.declared.status.LockStatus.TheVariants.{Done}
use Rattle.cache_lock.specs.State.{LockState}
use Rattle.cache_store.specs.declared.storage.StoreFault.{StoreFault}
use Rattle.cache_store.specs.StoreState.{StoreState}
use Rattle.cache_store.specs.Readers.{Reader}
use Rattle.request_phases.specs.declared.phase.CachePhase.TheVariants.{Expired}
use Rattle.request_phases.specs.Phases.{is_stale_phase}
use Rattle.request_phases.specs.Locks.{let_go}
use Rattle.request_phases.specs.Releases.{lock_released}
use Rattle.request_cache.specs.Request.{Request, stored_at}
use Rattle.request_store.specs.Spends.{Spends}
use Rattle.cache_heads.specs.Merged.{with_provenance_of}
use Rattle.request_store.specs.Begins.{IsBegun, IsNotBegun}
use Rattle.request_cache.specs.Points.{Point}

-- ---- the meta of a response that is to be stored

abbrev pub variance_in : Option CacheMeta → Option (List ℕ)
variance_in None = None
variance_in (Some meta) = meta.internal.variance

-- the meta that is to be stored: of a request that was Stale it keeps the provenance
abbrev pub meta_for : {H M : Type 0} → CacheMeta → Request H M → CacheMeta
meta_for meta r = if is_stale_phase r.phase then with_provenance_of r.meta meta else meta

-- the request with that meta. One that was Stale is Expired, and the variance of the meta before is kept
abbrev pub with_meta : {H M : Type 0} → CacheMeta → Request H M → Request H M
with_meta meta r =
    if is_stale_phase r.phase
    then record r { phase = Expired; meta = Some meta; stale_variance = variance_in r.meta }
    else record r { meta = Some meta; stale_variance = None }

-- ---- the write

-- the request with its write. With a reader of its own it has let go of the lock
abbrev pub adopted : {H M : Type 0} → M → Option H → Request H M → Request H M
adopted miss None r = record r { writer = Some miss }
adopted miss (Some own) r = record r { writer = Some miss; reader = Some own; lock = let_go r.lock }

-- the lock then: a permit was released as done
abbrev pub lock_adopted : {H M : Type 0} → Option H → Request H M → LockState → LockState
lock_adopted None r s = s
lock_adopted (Some own) r s = lock_released (stored_at r.key) Done r.lock s

-- the reader that is spent then
abbrev pub earlier : {H M : Type 0} → Option H → Request H M → Option H
earlier None r = None
earlier (Some own) r = r.reader

module _ {H M : Type 0} (reader : H → Reader) (number : M → ℕ) (tagged : M → Option ℕ) (streams is_spent : Bool) (meta : CacheMeta) where
  -- a request begins the write of a meta. Where the store streams, the permit is released as done once the own reader is there, and
  -- then an earlier reader is spent
  pub record Begins (old new : Point H M) : Type 0 where
    pub miss : M
    pub own : Option H
    pub mid : StoreState
    pub begun : IsBegun reader number tagged streams is_spent (stored_at old.request.key) meta miss own old.held mid
    pub store : Spends reader (earlier own old.request) mid new.held
    pub request : new.request ≡ adopted miss own old.request
    pub lock : new.lock ≡ lock_adopted own old.request old.lock

  -- no write began: all is as before, but that a number of a write may be used up
  pub record BeginsNot (fault : StoreFault) (old new : Point H M) : Type 0 where
    pub store : IsNotBegun reader number tagged streams is_spent (stored_at old.request.key) meta fault old.held new.held
    pub request : new.request ≡ old.request
    pub lock : new.lock ≡ old.lock
