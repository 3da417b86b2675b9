-- How a look-up of a request goes, as the plain record has it.
use Rattle.std.proofs.Common.{◌≡◌, ℕ, refl, ap, sym, ◌∙◌, subst, Bool, true, false, cond, Some, None, Option, List}
use Rattle.std.specs.Prelude.{◌&&◌, not, is_some, Result}
use Rattle.cache_words.specs.Time.{MomentValue, DurationValue}
use Rattle.cache_words.specs.Key.{Key}
use Rattle.cache_heads.specs.declared.meta.CacheMeta.{CacheMeta}
use Rattle.cache_lock.specs.declared.fault.LockFault.{LockFault}
use Rattle.cache_lock.specs.declared.status.LockStatus.{LockStatus}
use Rattle.cache_lock.specs.declared.tokens.Locked.{Locked}
use Rattle.cache_lock.specs.declared.tokens.Locked.TheVariants.{Write, Read}
use Rattle.cache_lock.specs.State.{LockState}
use Rattle.request_phases.specs.declared.lock_ctx.LockCtx.{LockCtx}
use Rattle.request_phases.specs.declared.request_lock.RequestLock.{RequestLock}
use Rattle.request_phases.specs.declared.phase.CachePhase.{CachePhase}
use Rattle.request_phases.specs.declared.phase.CachePhase.TheVariants as phases
use Rattle.request_phases.specs.Phases as asked
use Rattle.request_phases.specs.Phases.{is_disabled, is_never_enabled}
use Rattle.request_phases.specs.Locks.{is_on, held, now_holding}
use Rattle.cache_store.specs.declared.admission.Decision.{Decision}
use Rattle.cache_store.specs.Answers as store
use Rattle.cache_store.specs.StoreState.{StoreState}
use Rattle.cache_store.specs.Readers.{SameStoreState}
use Rattle.store_memory.specs.Readings.{reader_of}
use Rattle.request_cache.specs.Points.{point}
use Rattle.request_cache.specs.Lookups.{FindsNothing, LockAnswer}
use Rattle.tier_model.specs.declared.event.TierFault.TheVariants.{WrongPhase, Waiting}
use Rattle.tier_model.specs.State.{begun, LockHold, nothing, permit, waits, Request}
use Rattle.tier_model.specs.Checks.{can_look_up, has_permit, is_waiting, look_refusal, unless}
use Rattle.tier_requests.specs.Plain.{Driven, phase_in, held_in, plain_of, IsSet, IsDriven}
use Rattle.tier_requests.proofs.PlainLaws.{looks-up}
use Rattle.tier_requests.proofs.FindLaws.{shown-all}

-- ---- which requests look up

allowed : (v : Bool) (h : LockHold) → cond (v && not (has_permit h)) (unless (not (is_waiting h)) Waiting) (Some WrongPhase) ≡ None → (v ≡ true) × (h ≡ nothing)
allowed true nothing e = (refl, refl)
allowed true (permit n) e = absurd cc
allowed true (waits n first) e = absurd cc
allowed false h e = absurd cc

-- one that may look up is where a look-up is allowed, and holds nothing of the lock
pub looks : (q : Request) → look_refusal q ≡ None → (can_look_up q.phase ≡ true) × (q.held ≡ nothing)
looks q e = allowed (can_look_up q.phase) q.held e

holds_none : (l : Option Locked) (polled : Option MomentValue) → held_in l polled ≡ nothing → l ≡ None
holds_none None polled e = refl
holds_none (Some (Write p)) polled e = absurd cc
holds_none (Some (Read r)) polled e = absurd cc

on_looking : (p : CachePhase) → asked.can_look_up p ≡ true → is_disabled p ≡ false
on_looking (phases.Disabled reason) e = absurd cc
on_looking phases.Uninit e = absurd cc
on_looking phases.Bypass e = absurd cc
on_looking phases.CacheKey e = refl
on_looking phases.Hit e = absurd cc
on_looking phases.Miss e = absurd cc
on_looking phases.Stale e = refl
on_looking phases.StaleUpdating e = absurd cc
on_looking phases.Expired e = absurd cc
on_looking phases.Revalidated e = absurd cc
on_looking (phases.RevalidatedNoCache reason) e = absurd cc

-- what is so of a request in a phase in which it may look up
pub record IsLooking (r : Driven) (asks : Bool) : Type 0 where
  pub phase : asked.can_look_up r.phase ≡ true
  pub enabled : is_disabled r.phase ≡ false
  pub on : is_on r.lock ≡ asks
  pub writer : is_some r.writer ≡ false

pub looking : (r : Driven) (asks : Bool) (wait : Option DurationValue) (gave : Bool) (share : Option CacheMeta) (bytes : Option (List ℕ)) → IsDriven r asks wait gave share bytes → can_look_up (phase_in r.phase (is_some r.meta)) ≡ true → IsLooking r asks
looking r asks wait gave share bytes d e = record { phase = phase; enabled = enabled; on = (d.lock enabled).on; writer = by_writer (is_some r.writer) refl }
  where
    phase : asked.can_look_up r.phase ≡ true
    phase = sym (looks-up r.phase (is_some r.meta)) ∙ e

    enabled : is_disabled r.phase ≡ false
    enabled = on_looking r.phase phase

    by_writer : (v : Bool) → is_some r.writer ≡ v → v ≡ false
    by_writer false w = refl
    by_writer true w = let no : can_look_up begun ≡ true = ap can_look_up (sym (d.writes w)) ∙ e in absurd cc

-- ---- what is held of the lock

abbrev pub held_by : RequestLock → LockHold
held_by l = held_in (held l) l.polled

-- one that holds nothing of the lock
pub record IsFree (r : Driven) (asks : Bool) (wait : Option DurationValue) (gave : Bool) (share : Option CacheMeta) (bytes : Option (List ℕ)) : Type 0 where
  pub looking : IsLooking r asks
  pub free : held_by r.lock ≡ nothing
  pub none : held r.lock ≡ None

pub free-of : (r : Driven) (asks : Bool) (wait : Option DurationValue) (gave : Bool) (n : ℕ) (share : Option CacheMeta) (bytes : Option (List ℕ)) → IsDriven r asks wait gave share bytes → look_refusal (plain_of r asks wait gave n share bytes) ≡ None → IsFree r asks wait gave share bytes
free-of r asks wait gave n share bytes d e =
    let may = looks (plain_of r asks wait gave n share bytes) e in
    record { looking = looking r asks wait gave share bytes d may.0; free = may.1; none = holds_none (held r.lock) r.lock.polled may.1 }

abbrev lock_with : Option LockCtx → Option MomentValue → RequestLock
lock_with ctx first = record { ctx = ctx; polled = first }

pub set-held : (asks : Bool) (wait : Option DurationValue) (g : Option Locked) (ctx : Option LockCtx) (first : Option MomentValue) → IsSet asks wait (lock_with ctx first) → IsSet asks wait (now_holding g (lock_with ctx first))
set-held asks wait None ctx first h = h
set-held asks wait (Some l) None first h = record { on = h.on; timeout = h.timeout }
set-held asks wait (Some l) (Some c) first h = record { on = h.on; timeout = h.timeout }

-- ---- nothing was found

-- no policy is asked, and nothing is hidden
pub record FindsNone (t : MomentValue) (look : Option store.Look) (r : Driven) (h : StoreState) (s : LockState) (res : Result (Unit {0}) LockFault) (r' : Driven) (h' : StoreState) (s' : LockState) : Type 0 where
  pub none : look ≡ None
  pub lock : LockAnswer t r s res r' s'
  pub held : SameStoreState h h'

pub finds-none : (custom : List ℕ → LockStatus) (decides : Key → Decision → Type 0) (t : MomentValue) (look : Option store.Look) (r : Driven) (h : StoreState) (s : LockState) (res : Result (Unit {0}) LockFault) (r' : Driven) (h' : StoreState) (s' : LockState)
    → r.admits ≡ false → r.valid_after ≡ None → FindsNothing reader_of (λ n. n) custom decides t look (point r h s) res (point r' h' s') → FindsNone t look r h s res r' h' s'
finds-none custom decides t look r h s res r' h' s' admits shown f = by_decision f.1.2.decision refl
  where
    by_decision : (d : Option Decision) → f.1.2.decision ≡ d → FindsNone t look r h s res r' h' s'
    by_decision None e =
        let missed = rw e at f.1.2.missed in
        record { none = sym (shown-all r.valid_after look shown) ∙ f.0; lock = missed.0; held = subst (λ x. SameStoreState h x) (sym missed.1) f.1.1 }
    by_decision (Some d) e =
        let asked = f.1.2.asked.0 (ap is_some e) in
        let never : true ≡ false = sym asked.on ∙ admits in
        absurd cc
