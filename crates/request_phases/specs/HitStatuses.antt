-- What a look-up found, and the phase that it leads to.
use Rattle.std.specs.Prelude.{ℕ, Bool, true, false, List, codes}
use Rattle.request_phases.specs.declared.hit.HitStatus.{HitStatus}
use Rattle.request_phases.specs.declared.hit.HitStatus.TheVariants.{Expired, ForceExpired, ForceExpiredServeStale, ForceMiss, FailedHitFilter, Fresh, ForceFresh}
use Rattle.request_phases.specs.declared.phase.CachePhase.{CachePhase}
use Rattle.request_phases.specs.declared.phase.CachePhase.TheVariants as phase

abbrev pub hit_status_name : HitStatus → List ℕ
hit_status_name Expired = codes "expired"
hit_status_name ForceExpired = codes "force_expired"
hit_status_name ForceExpiredServeStale = codes "force_expired_serve_stale"
hit_status_name ForceMiss = codes "force_miss"
hit_status_name FailedHitFilter = codes "failed_hit_filter"
hit_status_name Fresh = codes "fresh"
hit_status_name ForceFresh = codes "force_fresh"

abbrev pub is_fresh : HitStatus → Bool
is_fresh Fresh = true
is_fresh ForceFresh = true
is_fresh _ = false

abbrev pub is_treated_as_miss : HitStatus → Bool
is_treated_as_miss ForceMiss = true
is_treated_as_miss FailedHitFilter = true
is_treated_as_miss _ = false

-- the phase after a response was found: a miss leaves it
abbrev pub found_phase : HitStatus → CachePhase → CachePhase
found_phase Expired before = phase.Stale
found_phase ForceExpired before = phase.Stale
found_phase ForceExpiredServeStale before = phase.Stale
found_phase ForceMiss before = before
found_phase FailedHitFilter before = before
found_phase Fresh before = phase.Hit
found_phase ForceFresh before = phase.Hit
