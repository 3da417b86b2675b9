-- Names of phases, and in which phases each call is allowed.
use Rattle.std.specs.Prelude.{ℕ, Bool, true, false, ◌||◌, List, codes}
use Rattle.cache_heads.specs.declared.reason.NoCacheReason.TheVariants.{NeverEnabled}
use Rattle.request_phases.specs.declared.phase.CachePhase.{CachePhase}
use Rattle.request_phases.specs.declared.phase.CachePhase.TheVariants.{Disabled, Uninit, Bypass, CacheKey, Hit, Miss, Stale, StaleUpdating, Expired, Revalidated, RevalidatedNoCache}

abbrev pub phase_name : CachePhase → List ℕ
phase_name (Disabled reason) = codes "disabled"
phase_name Uninit = codes "uninitialized"
phase_name Bypass = codes "bypass"
phase_name CacheKey = codes "key"
phase_name Hit = codes "hit"
phase_name Miss = codes "miss"
phase_name Stale = codes "stale"
phase_name StaleUpdating = codes "stale-updating"
phase_name Expired = codes "expired"
phase_name Revalidated = codes "revalidated"
phase_name (RevalidatedNoCache reason) = codes "revalidated-nocache"

-- ---- what a phase says of the request

abbrev pub is_disabled : CachePhase → Bool
is_disabled (Disabled reason) = true
is_disabled _ = false

abbrev pub is_never_enabled : CachePhase → Bool
is_never_enabled (Disabled NeverEnabled) = true
is_never_enabled _ = false

abbrev pub is_bypass : CachePhase → Bool
is_bypass Bypass = true
is_bypass _ = false

-- the cache is in use: it is neither off nor passed by
abbrev pub is_enabled : CachePhase → Bool
is_enabled (Disabled reason) = false
is_enabled Bypass = false
is_enabled _ = true

-- the response comes from upstream
abbrev pub is_upstream_used : CachePhase → Bool
is_upstream_used (Disabled reason) = true
is_upstream_used Bypass = true
is_upstream_used Miss = true
is_upstream_used Expired = true
is_upstream_used Revalidated = true
is_upstream_used (RevalidatedNoCache reason) = true
is_upstream_used _ = false

-- a key is set
abbrev pub has_key_phase : CachePhase → Bool
has_key_phase (Disabled reason) = false
has_key_phase Uninit = false
has_key_phase _ = true

-- a key may be asked for: one stays where the cache was enabled and is off again
abbrev pub may_have_key : CachePhase → Bool
may_have_key (Disabled NeverEnabled) = false
may_have_key Uninit = false
may_have_key _ = true

-- ---- where calls are allowed

abbrev pub can_set_key : CachePhase → Bool
can_set_key Uninit = true
can_set_key CacheKey = true
can_set_key _ = false

abbrev pub can_set_policy : CachePhase → Bool
can_set_policy p = can_set_key p

abbrev pub can_set_lock : CachePhase → Bool
can_set_lock CacheKey = true
can_set_lock Stale = true
can_set_lock Hit = true
can_set_lock _ = false

-- the key is set, and nothing was looked up: bypass, purge and expire
abbrev pub is_key_phase : CachePhase → Bool
is_key_phase CacheKey = true
is_key_phase _ = false

-- a look-up, and what it found
abbrev pub can_look_up : CachePhase → Bool
can_look_up CacheKey = true
can_look_up Stale = true
can_look_up _ = false

-- a look-up by what the response found varies by
abbrev pub can_vary : CachePhase → Bool
can_vary p = can_look_up p

abbrev pub can_miss : CachePhase → Bool
can_miss CacheKey = true
can_miss Bypass = true
can_miss Stale = true
can_miss _ = false

-- the meta of a response that is to be stored
abbrev pub can_begin : CachePhase → Bool
can_begin Miss = true
can_begin Stale = true
can_begin _ = false

-- a response is being stored
abbrev pub is_write_phase : CachePhase → Bool
is_write_phase Miss = true
is_write_phase Expired = true
is_write_phase _ = false

-- a stored body is read
abbrev pub has_reader_phase : CachePhase → Bool
has_reader_phase Hit = true
has_reader_phase Stale = true
has_reader_phase StaleUpdating = true
has_reader_phase Revalidated = true
has_reader_phase (RevalidatedNoCache reason) = true
has_reader_phase _ = false

-- a meta may be asked for: a stored body is read, or one is being stored
abbrev pub has_meta_phase : CachePhase → Bool
has_meta_phase p = has_reader_phase p || is_write_phase p

-- a reader may be given up: of a stored body, or of the one that is being stored
abbrev pub can_finish_reader : CachePhase → Bool
can_finish_reader p = has_meta_phase p

-- what was found is stale, and upstream has not answered: the three ways of revalidation
abbrev pub is_stale_phase : CachePhase → Bool
is_stale_phase Stale = true
is_stale_phase _ = false

-- a stale response may be served, within its windows
abbrev pub can_serve_stale : CachePhase → Bool
can_serve_stale Stale = true
can_serve_stale StaleUpdating = true
can_serve_stale _ = false
