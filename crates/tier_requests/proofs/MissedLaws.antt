-- A request that found nothing, as the plain record has it.
use Rattle.std.proofs.Common.{◌≡◌, ℕ, refl, sym, ◌∙◌, subst, Bool, true, false, cond, List, Some, None, Option}
use Rattle.std.specs.Prelude.{is_some}
use Rattle.cache_words.specs.Time.{MomentValue, DurationValue}
use Rattle.cache_heads.specs.declared.meta.CacheMeta.{CacheMeta}
use Rattle.cache_lock.specs.declared.tokens.Locked.{Locked}
use Rattle.cache_lock.specs.declared.tokens.Locked.TheVariants.{Write, Read}
use Rattle.request_phases.specs.declared.phase.CachePhase.{CachePhase}
use Rattle.request_phases.specs.declared.phase.CachePhase.TheVariants as phases
use Rattle.request_phases.specs.declared.request_lock.RequestLock.{RequestLock}
use Rattle.request_phases.specs.Phases.{can_look_up, has_reader_phase, is_stale_phase}
use Rattle.request_phases.specs.Locks.{is_read, held, now_holding}
use Rattle.tier_model.specs.State.{Phase, miss}
use Rattle.tier_model.specs.Standings.{phase_absent}
use Rattle.tier_model.specs.Checks.{can_begin, look_refusal}
use Rattle.tier_requests.specs.Plain.{Driven, phase_in, held_in, given_of, seen_in, plain_of, IsDriven}
use Rattle.tier_requests.specs.Finds.{missed_by}
use Rattle.tier_requests.proofs.LookLaws.{IsFree, free-of, set-held}

-- what it keeps of a meta that it had, with a wait
abbrev kept : CachePhase → Option CacheMeta → Option CacheMeta
kept p meta = cond (has_reader_phase p) None meta

-- in a phase in which it looked up a wait leaves its phase and nothing that it has seen
phase_kept : (p : CachePhase) (meta : Option CacheMeta) → can_look_up p ≡ true → phase_in p (is_some (kept p meta)) ≡ phase_in p (is_some meta)
phase_kept phases.CacheKey meta e = refl
phase_kept phases.Stale meta e = refl
phase_kept _ meta e = absurd cc

seen_none : (p : CachePhase) (n : ℕ) → seen_in p n None ≡ None
seen_none phases.Stale n = refl
seen_none _ n = refl

stale_kept : (p : CachePhase) (meta : Option CacheMeta) → is_stale_phase p ≡ true → kept p meta ≡ None
stale_kept phases.Stale meta e = refl
stale_kept _ meta e = absurd cc

begins_not : (p : CachePhase) (meta : Bool) → can_look_up p ≡ true → can_begin (phase_in p meta) true ≡ false
begins_not phases.CacheKey meta e = refl
begins_not phases.Stale meta e = refl
begins_not _ meta e = absurd cc

-- what is given that isn't a wait leads to a miss
phase_given : (l : Option Locked) (polled : Option MomentValue) (p : Phase) → is_read l ≡ false → miss ≡ phase_absent (given_of (held_in l polled)) p
phase_given None polled p e = refl
phase_given (Some (Write w)) polled p e = refl
phase_given (Some (Read w)) polled p e = absurd cc

phase_waits : (l : Option Locked) (polled : Option MomentValue) (p : Phase) → is_read l ≡ true → p ≡ phase_absent (given_of (held_in l polled)) p
phase_waits None polled p e = absurd cc
phase_waits (Some (Write w)) polled p e = absurd cc
phase_waits (Some (Read w)) polled p e = refl

-- what becomes of it by whether it waits
abbrev waiting : Driven → Driven
waiting r = record r { meta = kept r.phase r.meta }

abbrev going_on : Driven → Driven
going_on r = record r { phase = phases.Miss; meta = None; stale_variance = None }

pub missed-lock-same : (r : Driven) → (missed_by r).lock ≡ r.lock
missed-lock-same r = by_wait (is_read (held r.lock))
  where
    by_wait : (w : Bool) → (cond w (waiting r) (going_on r)).lock ≡ r.lock
    by_wait true = refl
    by_wait false = refl

pub missed-reader-same : (r : Driven) → (missed_by r).reader ≡ r.reader
missed-reader-same r = by_wait (is_read (held r.lock))
  where
    by_wait : (w : Bool) → (cond w (waiting r) (going_on r)).reader ≡ r.reader
    by_wait true = refl
    by_wait false = refl

pub plain-missed : (r : Driven) (asks : Bool) (wait : Option DurationValue) (n : ℕ) (share : Option CacheMeta) (bytes : Option (List ℕ)) → can_look_up r.phase ≡ true
    → plain_of (missed_by r) asks wait (is_read (held r.lock)) n None bytes
    ≡ record (plain_of r asks wait (is_read (held r.lock)) n share bytes) { phase = phase_absent (given_of (held_in (held r.lock) r.lock.polled)) (phase_in r.phase (is_some r.meta)); seen = None }
plain-missed r asks wait n share bytes looks = by_wait (is_read (held r.lock)) refl
  where
    old : Phase
    old = phase_in r.phase (is_some r.meta)

    by_wait : (w : Bool) → is_read (held r.lock) ≡ w → plain_of (cond w (waiting r) (going_on r)) asks wait w n None bytes
        ≡ record (plain_of r asks wait w n share bytes) { phase = phase_absent (given_of (held_in (held r.lock) r.lock.polled)) old; seen = None }
    by_wait true e = λ i. record (plain_of r asks wait true n share bytes) {
      phase = (phase_kept r.phase r.meta looks ∙ phase_waits (held r.lock) r.lock.polled old e) i;
      seen = seen_none r.phase n i;
    }
    by_wait false e = λ i. record (plain_of r asks wait false n share bytes) { phase = phase_given (held r.lock) r.lock.polled old e i; seen = None }

-- what is left of a request that looked up and found nothing
pub driven-missed : (r r' r2 : Driven) (asks : Bool) (wait : Option DurationValue) (gave gave' : Bool) (n : ℕ) (share : Option CacheMeta) (bytes : Option (List ℕ)) (g : Option Locked) → IsDriven r asks wait gave share bytes
    → look_refusal (plain_of r asks wait gave n share bytes) ≡ None → r' ≡ record r { lock = now_holding g r.lock } → r2 ≡ missed_by r' → gave' ≡ is_read (held r'.lock) → IsDriven r2 asks wait gave' None bytes
driven-missed r r' r2 asks wait gave gave' n share bytes g d may got without told =
    subst (λ (v : Bool). IsDriven r2 asks wait v None bytes) (sym told) (subst (λ (x : Driven). IsDriven x asks wait (is_read (held r'.lock)) None bytes) (sym without)
    (subst (λ (x : Driven). IsDriven (missed_by x) asks wait (is_read (held x.lock)) None bytes) (sym got) (by_wait (is_read (held asked)) refl)))
  where
    free : IsFree r asks wait gave share bytes
    free = free-of r asks wait gave n share bytes d may

    asked : RequestLock
    asked = now_holding g r.lock

    after : Driven
    after = record r { lock = asked }

    by_wait : (w : Bool) → is_read (held asked) ≡ w → IsDriven (cond w (waiting after) (going_on after)) asks wait w None bytes
    by_wait true e = record {
      used = d.used;
      key = d.key;
      admits = d.admits;
      shown = d.shown;
      evicts = d.evicts;
      lock = λ on. set-held asks wait g r.lock.ctx r.lock.polled (d.lock on);
      idle = λ off. let never : true ≡ false = sym off ∙ free.looking.enabled in absurd cc;
      writes = λ there. let never : true ≡ false = sym there ∙ free.looking.writer in absurd cc;
      released = λ there. let never : true ≡ false = sym there ∙ free.looking.writer in absurd cc;
      waits = λ reads. begins_not r.phase (is_some (kept r.phase r.meta)) free.looking.phase;
      sees = λ stale not_given. absurd cc;
      bare = λ stale. stale_kept r.phase r.meta stale;
      unheld = λ e. refl;
      gone = d.gone;
    }
    by_wait false e = record {
      used = refl;
      key = d.key;
      admits = d.admits;
      shown = d.shown;
      evicts = λ on. d.evicts free.looking.enabled;
      lock = λ on. set-held asks wait g r.lock.ctx r.lock.polled (d.lock free.looking.enabled);
      idle = λ off. absurd cc;
      writes = λ there. let never : true ≡ false = sym there ∙ free.looking.writer in absurd cc;
      released = λ there. let never : true ≡ false = sym there ∙ free.looking.writer in absurd cc;
      waits = λ reads. let never : false ≡ true = sym e ∙ reads in absurd cc;
      sees = λ stale given. absurd cc;
      bare = λ stale. absurd cc;
      unheld = λ e. refl;
      gone = d.gone;
    }
