-- Which phases have a key, and which are on.
use Rattle.std.proofs.Common.{◌≡◌, refl, true, false}
use Rattle.std.proofs.lemmas.Bool.{false≢true}
use Rattle.request_phases.specs.declared.phase.CachePhase.{CachePhase}
use Rattle.request_phases.specs.declared.phase.CachePhase.TheVariants.{Disabled, Uninit}
use Rattle.request_phases.specs.declared.hit.HitStatus.{HitStatus}
use Rattle.request_phases.specs.declared.hit.HitStatus.TheVariants.{Expired, ForceExpired, ForceExpiredServeStale, ForceMiss, FailedHitFilter, Fresh, ForceFresh}
use Rattle.request_phases.specs.HitStatuses.{found_phase}
use Rattle.request_phases.specs.Phases.{is_disabled, has_key_phase, can_look_up, can_miss, can_begin, is_write_phase, is_stale_phase, is_key_phase, has_reader_phase}

pub key_at_look_up : (p : CachePhase) → can_look_up p ≡ true → has_key_phase p ≡ true
key_at_look_up (Disabled reason) e = absurd (false≢true e)
key_at_look_up Uninit e = absurd (false≢true e)
key_at_look_up _ e = refl

pub key_at_key : (p : CachePhase) → is_key_phase p ≡ true → has_key_phase p ≡ true
key_at_key (Disabled reason) e = absurd (false≢true e)
key_at_key Uninit e = absurd (false≢true e)
key_at_key _ e = refl

pub key_at_miss : (p : CachePhase) → can_miss p ≡ true → has_key_phase p ≡ true
key_at_miss (Disabled reason) e = absurd (false≢true e)
key_at_miss Uninit e = absurd (false≢true e)
key_at_miss _ e = refl

pub key_at_begin : (p : CachePhase) → can_begin p ≡ true → has_key_phase p ≡ true
key_at_begin (Disabled reason) e = absurd (false≢true e)
key_at_begin Uninit e = absurd (false≢true e)
key_at_begin _ e = refl

pub key_at_write : (p : CachePhase) → is_write_phase p ≡ true → has_key_phase p ≡ true
key_at_write (Disabled reason) e = absurd (false≢true e)
key_at_write Uninit e = absurd (false≢true e)
key_at_write _ e = refl

pub key_at_stale : (p : CachePhase) → is_stale_phase p ≡ true → has_key_phase p ≡ true
key_at_stale (Disabled reason) e = absurd (false≢true e)
key_at_stale Uninit e = absurd (false≢true e)
key_at_stale _ e = refl

pub on_with_reader : (p : CachePhase) → has_reader_phase p ≡ true → is_disabled p ≡ false
on_with_reader (Disabled reason) e = absurd (false≢true e)
on_with_reader _ e = refl

pub on_with_key : (p : CachePhase) → has_key_phase p ≡ true → is_disabled p ≡ false
on_with_key (Disabled reason) e = absurd (false≢true e)
on_with_key _ e = refl

pub on_when_found : (status : HitStatus) (p : CachePhase) → can_look_up p ≡ true → is_disabled (found_phase status p) ≡ false
on_when_found Expired p e = refl
on_when_found ForceExpired p e = refl
on_when_found ForceExpiredServeStale p e = refl
on_when_found ForceMiss p e = on_with_key p (key_at_look_up p e)
on_when_found FailedHitFilter p e = on_with_key p (key_at_look_up p e)
on_when_found Fresh p e = refl
on_when_found ForceFresh p e = refl

-- those that most calls need
pub ruleset phases = (key_at_look_up, key_at_miss, key_at_begin, key_at_write, key_at_stale, on_with_key, on_with_reader, on_when_found)
