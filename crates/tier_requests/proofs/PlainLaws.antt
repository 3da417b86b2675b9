-- What is asked of a request to a cache, as it is asked of the plain record.
use Rattle.std.proofs.Common.{◌≡◌, refl, ap, Bool, true, false, Some, None, Option}
use Rattle.cache_words.specs.Time.{MomentValue}
use Rattle.cache_words.specs.Key.{Key, CacheKeyValue, key_of}
use Rattle.cache_entries.specs.Entry.{entry_with}
use Rattle.request_store.specs.Admissions.{compact}
use Rattle.cache_lock.specs.declared.tokens.Locked.{Locked}
use Rattle.cache_lock.specs.declared.tokens.Locked.TheVariants.{Write, Read}
use Rattle.request_phases.specs.declared.phase.CachePhase.{CachePhase}
use Rattle.request_phases.specs.declared.phase.CachePhase.TheVariants as phases
use Rattle.request_phases.specs.Phases as asked
use Rattle.request_phases.specs.Locks.{is_write, is_read}
use Rattle.request_cache.specs.Founds.{entry_at}
use Rattle.tier_model.specs.Keys.{entry_of, alone}
use Rattle.tier_model.specs.State.{begun}
use Rattle.tier_model.specs.Checks.{can_look_up, can_begin, has_permit, is_waiting}
use Rattle.tier_requests.specs.Plain.{phase_in, held_in}

pub looks-up : (p : CachePhase) (meta : Bool) → can_look_up (phase_in p meta) ≡ asked.can_look_up p
looks-up (phases.Disabled reason) meta = refl
looks-up phases.Uninit meta = refl
looks-up phases.Bypass meta = refl
looks-up phases.CacheKey meta = refl
looks-up phases.Hit meta = refl
looks-up phases.Miss true = refl
looks-up phases.Miss false = refl
looks-up phases.Stale meta = refl
looks-up phases.StaleUpdating meta = refl
looks-up phases.Expired meta = refl
looks-up phases.Revalidated meta = refl
looks-up (phases.RevalidatedNoCache reason) meta = refl

-- one that may begin is in a phase in which a write begins, and is none that began one
pub begins-in : (p : CachePhase) (meta gave : Bool) → can_begin (phase_in p meta) gave ≡ true → asked.can_begin p ≡ true
begins-in (phases.Disabled reason) meta gave e = absurd cc
begins-in phases.Uninit meta gave e = absurd cc
begins-in phases.Bypass meta gave e = absurd cc
begins-in phases.CacheKey meta gave e = absurd cc
begins-in phases.Hit meta gave e = absurd cc
begins-in phases.Miss true gave e = absurd cc
begins-in phases.Miss false gave e = refl
begins-in phases.Stale meta gave e = refl
begins-in phases.StaleUpdating meta gave e = absurd cc
begins-in phases.Expired meta gave e = absurd cc
begins-in phases.Revalidated meta gave e = absurd cc
begins-in (phases.RevalidatedNoCache reason) meta gave e = absurd cc

-- one that began its write is where a write is finished
pub writes-in : (p : CachePhase) (meta : Bool) → phase_in p meta ≡ begun → asked.is_write_phase p ≡ true
writes-in (phases.Disabled reason) meta e = absurd cc
writes-in phases.Uninit meta e = absurd cc
writes-in phases.Bypass meta e = absurd cc
writes-in phases.CacheKey meta e = absurd cc
writes-in phases.Hit meta e = absurd cc
writes-in phases.Miss true e = refl
writes-in phases.Miss false e = absurd cc
writes-in phases.Stale meta e = absurd cc
writes-in phases.StaleUpdating meta e = absurd cc
writes-in phases.Expired meta e = refl
writes-in phases.Revalidated meta e = absurd cc
writes-in (phases.RevalidatedNoCache reason) meta e = absurd cc

pub permit-in : (l : Option Locked) (polled : Option MomentValue) → has_permit (held_in l polled) ≡ is_write l
permit-in None polled = refl
permit-in (Some (Write p)) polled = refl
permit-in (Some (Read r)) polled = refl

pub waits-in : (l : Option Locked) (polled : Option MomentValue) → is_waiting (held_in l polled) ≡ is_read l
waits-in None polled = refl
waits-in (Some (Write p)) polled = refl
waits-in (Some (Read r)) polled = refl

-- the entry of a key that is kept as another one is
pub entry-kept : (kept key : CacheKeyValue) → key_of kept ≡ key_of key → entry_at (Some kept) None ≡ alone (entry_of key)
entry-kept kept key same = ap (λ (k : Key). entry_with (compact k) None) same
