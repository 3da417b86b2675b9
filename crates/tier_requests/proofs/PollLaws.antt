-- How a wait goes on or ends, as the plain record has it.
use Rattle.std.proofs.Common.{◌≡◌, ℕ, refl, ap, sym, ◌∙◌, Bool, true, false, cond, Some, None, Option, List, []}
use Rattle.std.specs.Prelude.{option_map}
use Rattle.std.specs.FinMap.{get}
use Rattle.cache_words.specs.Time.{MomentValue, DurationValue}
use Rattle.cache_heads.specs.declared.meta.CacheMeta.{CacheMeta}
use Rattle.cache_lock.specs.declared.tokens.Locked.{Locked}
use Rattle.cache_lock.specs.declared.tokens.Locked.TheVariants.{Write, Read}
use Rattle.cache_lock.specs.declared.lock_core.HeldCore.{HeldCore}
use Rattle.cache_lock.specs.declared.status.LockStatus.{LockStatus}
use Rattle.cache_lock.specs.declared.status.LockStatus.TheVariants as status
use Rattle.cache_lock.specs.declared.fills.LockWaitOutcome.{LockWaitOutcome}
use Rattle.cache_lock.specs.declared.fills.WaitOutcome.{WaitOutcome}
use Rattle.cache_lock.specs.declared.fills.UnusableFill.{UnusableFill}
use Rattle.cache_lock.specs.declared.fills.WaitOutcome.TheVariants as poll
use Rattle.cache_lock.specs.Status.{is_waiting}
use Rattle.cache_lock.specs.Outcomes.{status_of_outcome}
use Rattle.cache_lock.specs.Answers.{outcome, is_over_age, wait_outcome}
use Rattle.cache_lock.specs.State.{LockState, status_in, status_of, tokens_of}
use Rattle.request_phases.specs.declared.lock_ctx.LockCtx.{LockCtx}
use Rattle.request_phases.specs.declared.request_lock.RequestLock.{RequestLock}
use Rattle.request_phases.specs.declared.digest.HttpCacheDigest.{HttpCacheDigest}
use Rattle.request_phases.specs.Phases.{is_disabled}
use Rattle.request_phases.specs.Locks.{held, is_read, is_on, timeout_of}
use Rattle.request_phases.specs.Waits.{is_over_timeout, told, wait_told, time_waited}
use Rattle.tier_model.specs.Standings as standings
use Rattle.tier_model.specs.State.{Request}
use Rattle.tier_model.specs.Answers.{ended_by, is_past, polled}
use Rattle.tier_requests.specs.Plain.{Driven, held_in, plain_of, IsDriven}

-- what is found of a core with that status, past its age or not
abbrev found : LockStatus → Bool → Option WaitOutcome
found s aged = cond (is_waiting s) (cond aged (Some poll.AgeTimeout) None) (Some poll.Released)

told_by : (s : LockStatus) (aged over : Bool) → option_map status_of_outcome (told s over (found s aged)) ≡ ended_by (found s aged) s over
told_by status.Waiting true over = refl
told_by status.Waiting false true = refl
told_by status.Waiting false false = refl
told_by status.Done aged over = refl
told_by status.TransientError aged over = refl
told_by status.GiveUp aged over = refl
told_by status.Dangling aged over = refl
told_by status.WaitTimeout aged over = refl
told_by status.AgeTimeout aged over = refl

-- the status that is reported of what is known of a core, where no fill is unusable
core_told : (o : Option HeldCore) (tokens : List ℕ) (t : MomentValue) (over : Bool)
    → option_map status_of_outcome (told (status_in o) over (outcome o tokens [] t)) ≡ ended_by (outcome o tokens [] t) (status_in o) over
core_told None tokens t over = refl
core_told (Some c) tokens t over = told_by c.core.status (is_over_age c.core t) over

-- a wait is as long as it may be
over_same : (longest waited : Option DurationValue) (now : DurationValue) → is_over_timeout longest waited now ≡ is_past longest waited now
over_same None waited now = refl
over_same (Some longest) waited now = refl

abbrev pub lock_with : Option LockCtx → Option MomentValue → RequestLock
lock_with ctx first = record { ctx = ctx; polled = first }

-- what a poll reports
pub poll-told : (ctx : Option LockCtx) (first : Option MomentValue) (d : HttpCacheDigest) (q : Request) (t : MomentValue) (s : LockState) → is_read (held (lock_with ctx first)) ≡ true → timeout_of (lock_with ctx first) ≡ q.wait
    → q.waited ≡ d.lock_duration → option_map status_of_outcome (wait_told (lock_with ctx first) d [] t s) ≡ polled s t q (held_in (held (lock_with ctx first)) first)
poll-told None first d q t s reads wait waited = absurd cc
poll-told (Some c) first d q t s reads wait waited = by_lock c.lock refl reads
  where
    by_lock : (l : Option Locked) → c.lock ≡ l → is_read l ≡ true → option_map status_of_outcome (wait_told (lock_with (Some c) first) d [] t s) ≡ polled s t q (held_in c.lock first)
    by_lock None e r = absurd cc
    by_lock (Some (Write p)) e r = absurd cc
    by_lock (Some (Read rd)) e r =
        rw (e, ← wait, waited)
        (core_told (get s.cores rd.number) (tokens_of rd.number s) t (is_over_timeout c.wait_timeout d.lock_duration (time_waited (lock_with (Some c) first) t))
        ∙ ap (ended_by (wait_outcome rd.number [] t s) (status_of rd.number s)) (over_same c.wait_timeout d.lock_duration (standings.time_waited first t)))

-- ---- a request that waits

on_with : (ctx : Option LockCtx) (first : Option MomentValue) → is_read (held (lock_with ctx first)) ≡ true → is_on (lock_with ctx first) ≡ true
on_with None first reads = absurd cc
on_with (Some c) first reads = refl

module _ (d : Driven) (asks : Bool) (wait : Option DurationValue) (gave : Bool) (k : ℕ) (share : Option CacheMeta) (bytes : Option (List ℕ)) (i : IsDriven d asks wait gave share bytes) (reads : is_read (held d.lock) ≡ true) where
  -- it is no disabled one
  waits-on : is_disabled d.phase ≡ false
  waits-on = by_test (is_disabled d.phase) refl
    where
      by_test : (t : Bool) → is_disabled d.phase ≡ t → t ≡ false
      by_test false e = refl
      by_test true e = sym reads ∙ ap (λ (l : RequestLock). is_read (held l)) (i.idle e).lock

  -- what it is answered, where no fill is unusable
  pub wait-told : (fills : List UnusableFill) (o : Option LockWaitOutcome) (t : MomentValue) (s : LockState) → fills ≡ [] → o ≡ wait_told d.lock d.digest fills t s
      → option_map status_of_outcome o ≡ polled s t (plain_of d asks wait gave k share bytes) (held_in (held d.lock) d.lock.polled)
  wait-told fills o t s none e =
      ap (option_map status_of_outcome) (e ∙ ap (λ (fs : List UnusableFill). wait_told d.lock d.digest fs t s) none)
      ∙ poll-told d.lock.ctx d.lock.polled d.digest (plain_of d asks wait gave k share bytes) t s reads ((i.lock waits-on).timeout (on_with d.lock.ctx d.lock.polled reads)) refl
