-- What the lock gives a request that looks up, as the plain record has it.
use Rattle.std.proofs.Common.{◌≡◌, ℕ, refl, ap, sym, ◌∙◌, subst, Bool, true, false, cond, inl, inr, Some, None, Option, [], ◌∷◌, ◌++◌}
use Rattle.std.specs.Prelude.{◌&&◌, ◌⊎◌, not, is_some}
use Rattle.cache_words.specs.Time.{MomentValue}
use Rattle.cache_words.specs.Key.{CacheKeyValue}
use Rattle.cache_entries.specs.Entry.{key_of}
use Rattle.cache_changes.specs.Changes.{StoredKey, stored_key}
use Rattle.cache_evict.specs.Managed.{Managed}
use Rattle.cache_lock.specs.declared.fault.LockFault.{LockFault}
use Rattle.cache_lock.specs.declared.fault.LockFault.TheVariants as lock_fault
use Rattle.cache_lock.specs.declared.tokens.Locked.{Locked}
use Rattle.cache_lock.specs.Answers.{to_wait_for, locked_by, lock_change, leave_changes, IsRefused, IsSpent}
use Rattle.cache_lock.specs.State.{LockState, after, after_all}
use Rattle.request_phases.specs.declared.lock_ctx.LockCtx.{LockCtx}
use Rattle.request_phases.specs.declared.request_lock.RequestLock.{RequestLock}
use Rattle.request_phases.specs.declared.phase.CachePhase.{CachePhase}
use Rattle.request_phases.specs.declared.hit.HitStatus.{HitStatus}
use Rattle.request_phases.specs.declared.hit.HitStatus.TheVariants.{Fresh, Expired}
use Rattle.request_phases.specs.Phases.{is_stale_phase}
use Rattle.request_phases.specs.HitStatuses.{found_phase, is_fresh}
use Rattle.request_phases.specs.Locks.{is_on, held, given_by, asked as asked_lock, left_by, now_holding, lock_held}
use Rattle.request_cache.specs.Founds.{entry_at, found_given, found_asked}
use Rattle.request_cache.specs.Request.{stored_at}
use Rattle.tier_model.specs.Shelf.{Look, absent, is_there}
use Rattle.tier_model.specs.State.{nothing, Request}
use Rattle.tier_model.specs.Checks.{is_waiting}
use Rattle.tier_model.specs.Locks.{is_wait}
use Rattle.tier_model.specs.Answers.{key_for, finds_fresh, asks_now, given_for, given_if, lock_given}
use Rattle.tier_model.specs.After.{held_of, given_changes, back_changes}
use Rattle.tier_requests.specs.Faults.{lock_fault_for}
use Rattle.tier_requests.specs.Looks.{UseRefused, LockRefused, RunsOut, LeavesLock}
use Rattle.tier_requests.specs.Plain.{Driven, held_in, given_of}
use Rattle.tier_requests.proofs.FindLaws.{key-stored}
use Rattle.tier_requests.proofs.LookLaws.{held_by}

-- what is given to one that asks, or doesn't
abbrev pub given_as : Bool → Option ℕ → LockState → Option Locked
given_as v o s = cond v (Some (locked_by s o)) None

abbrev lock_with : Option LockCtx → Option MomentValue → RequestLock
lock_with ctx first = record { ctx = ctx; polled = first }

-- the lock with a request that held nothing and was given that
record TakesLock (l : RequestLock) (v : Bool) (o : Option ℕ) (s : LockState) : Type 0 where
  pub holds : held_by (now_holding (given_as v o s) l) ≡ held_of (given_if v o) o s nothing
  pub left : (x : LockState) → lock_held (given_as v o s) l x ≡ x

takes_lock : (ctx : Option LockCtx) (first : Option MomentValue) (v : Bool) (o : Option ℕ) (s : LockState) → held (lock_with ctx first) ≡ None → (v ≡ true → is_some ctx ≡ true) → TakesLock (lock_with ctx first) v o s
takes_lock ctx first false o s none on = record { holds = ap (λ l. held_in l first) none; left = λ x. refl }
takes_lock None first true o s none on = let never : false ≡ true = on refl in absurd cc
takes_lock (Some c) first true None s none on = record { holds = refl; left = λ x. ap (λ l. left_by l x) none }
takes_lock (Some c) first true (Some n) s none on = record { holds = refl; left = λ x. ap (λ l. left_by l x) none }

-- what is reported of it
told_given : (v : Bool) (o : Option ℕ) (s : LockState) → given_of (held_of (given_if v o) o s nothing) ≡ given_if v o
told_given false o s = refl
told_given true None s = refl
told_given true (Some n) s = refl

told_wait : (v : Bool) (o : Option ℕ) (s : LockState) → is_waiting (held_of (given_if v o) o s nothing) ≡ is_wait (given_if v o)
told_wait false o s = refl
told_wait true None s = refl
told_wait true (Some n) s = refl

-- a change that comes where the lock is asked
one_change : (v : Bool) (key : StoredKey) (stale : Bool) (t : MomentValue) (s : LockState) (o : Option ℕ) → cond v (after (lock_change key stale t s o) s) s ≡ after_all (cond v (lock_change key stale t s o ∷ []) []) s
one_change true key stale t s o = refl
one_change false key stale t s o = refl

-- a lock that was given is handed back
one_back : (key : StoredKey) (stale : Bool) (t : MomentValue) (s : LockState) (o : Option ℕ) → left_by (Some (locked_by s o)) (after (lock_change key stale t s o) s)
    ≡ after_all (leave_changes (locked_by s o) ++ lock_change key stale t s o ∷ []) s
one_back key stale t s None = refl
one_back key stale t s (Some n) = refl

-- ---- what the lock gave

-- what a request holds and is answered, and what the lock is then, where it was given g and the lock that was asked is `locked`
pub record IsGiven (t : MomentValue) (q : Request) (l : Look) (s : LockState) (lock : RequestLock) (g : Option Locked) (locked : LockState) : Type 0 where
  pub holds : held_by (now_holding g lock) ≡ held_of (lock_given t q l s) (to_wait_for (key_for q) s) s q.held
  pub told : given_of (held_by (now_holding g lock)) ≡ lock_given t q l s
  pub waits : is_waiting (held_by (now_holding g lock)) ≡ is_wait (lock_given t q l s)
  pub left : lock_held g lock locked ≡ after_all (given_changes t q l s) s

both : (a b : Bool) → (a && b) ≡ true → a ≡ true
both true b e = refl
both false b e = absurd cc

pub given-lock : (t : MomentValue) (q : Request) (l : Look) (s : LockState) (lock : RequestLock) (g : Option Locked) (locked : LockState) → q.held ≡ nothing → held lock ≡ None → is_on lock ≡ q.asks
    → g ≡ given_as (asks_now t q l) (to_wait_for (key_for q) s) s → locked ≡ cond (asks_now t q l) (after (lock_change (key_for q) (is_there l) t s (to_wait_for (key_for q) s)) s) s → IsGiven t q l s lock g locked
given-lock t q l s lock g locked free none on eg el = record {
  holds = is_held;
  told = ap given_of held_so ∙ told_given v o s;
  waits = ap is_waiting held_so ∙ told_wait v o s;
  left = ap (λ x. lock_held x lock locked) eg ∙ takes.left locked ∙ el ∙ one_change v (key_for q) (is_there l) t s o;
}
  where
    v : Bool
    v = asks_now t q l

    o : Option ℕ
    o = to_wait_for (key_for q) s

    takes : TakesLock lock v o s
    takes = takes_lock lock.ctx lock.polled v o s none (λ e. on ∙ both q.asks (not (finds_fresh t l)) e)

    held_so : held_by (now_holding g lock) ≡ held_of (given_if v o) o s nothing
    held_so = ap (λ x. held_by (now_holding x lock)) eg ∙ takes.holds

    is_held : held_by (now_holding g lock) ≡ held_of (lock_given t q l s) o s q.held
    is_held = held_so ∙ ap (held_of (given_if v o) o s) (sym free)

pub and-yes : (a : Bool) → a ≡ (a && true)
and-yes true = refl
and-yes false = refl

-- where nothing was found
pub missed-lock : (t : MomentValue) (q : Request) (s : LockState) (key : Option CacheKeyValue) (lock : RequestLock) → q.entry ≡ entry_at key None → q.held ≡ nothing → held lock ≡ None → is_on lock ≡ q.asks
    → IsGiven t q absent s lock (given_by lock (stored_at key) s) (asked_lock lock (stored_at key) false t s)
missed-lock t q s key lock entry free none on =
    given-lock t q absent s lock (given_by lock (stored_at key) s) (asked_lock lock (stored_at key) false t s) free none on
    (ap (λ v. given_as v (to_wait_for (stored_at key) s) s) (on ∙ and-yes q.asks) ∙ ap (λ k. given_as (asks_now t q absent) (to_wait_for k s) s) same)
    (ap (λ v. cond v (after (lock_change (stored_at key) false t s (to_wait_for (stored_at key) s)) s) s) (on ∙ and-yes q.asks)
    ∙ ap (λ k. cond (asks_now t q absent) (after (lock_change k false t s (to_wait_for k s)) s) s) same)
  where
    same : stored_at key ≡ key_for q
    same = sym (key-stored key) ∙ ap (λ e. stored_key (key_of e)) (sym entry)

-- how what was found may be used
abbrev pub status_by : Bool → HitStatus
status_by true = Fresh
status_by false = Expired

given_found : (v on : Bool) (x : Option Locked) → cond (is_fresh (status_by v)) None (cond on x None) ≡ cond (on && not v) x None
given_found true true x = refl
given_found true false x = refl
given_found false true x = refl
given_found false false x = refl

asked_found : (v on : Bool) (p : CachePhase) (f : Bool → LockState) (s : LockState) → cond (is_fresh (status_by v)) s (cond on (f (is_stale_phase (found_phase (status_by v) p))) s) ≡ cond (on && not v) (f true) s
asked_found true true p f s = refl
asked_found true false p f s = refl
asked_found false true p f s = refl
asked_found false false p f s = refl

-- what is asked where something was found, and what the lock gives
pub record IsAsked (t : MomentValue) (q : Request) (l : Look) (s : LockState) (g : Option Locked) (locked : LockState) : Type 0 where
  pub gave : g ≡ given_as (asks_now t q l) (to_wait_for (key_for q) s) s
  pub left : locked ≡ cond (asks_now t q l) (after (lock_change (key_for q) (is_there l) t s (to_wait_for (key_for q) s)) s) s

pub asked-by : (t : MomentValue) (r : Driven) (q : Request) (l : Look) (s : LockState) (v : Bool) → q.entry ≡ entry_at r.key None → is_on r.lock ≡ q.asks → finds_fresh t l ≡ v → is_there l ≡ true
    → IsAsked t q l s (found_given (status_by v) r s) (found_asked (status_by v) t r s)
asked-by t r q l s v entry on fresh there = record {
  gave =
      ap (λ x. cond (is_fresh (status_by v)) None (cond x (given_at (stored_at r.key)) None)) on ∙ given_found v q.asks (given_at (stored_at r.key))
      ∙ ap (λ k. cond (q.asks && not v) (given_at k) None) same ∙ ap (λ f. cond (q.asks && not f) (given_at (key_for q)) None) (sym fresh);
  left =
      ap (λ x. cond (is_fresh (status_by v)) s (cond x (asked_at (stored_at r.key) (is_stale_phase (found_phase (status_by v) r.phase))) s)) on ∙ asked_found v q.asks r.phase (asked_at (stored_at r.key)) s
      ∙ ap (λ k. cond (q.asks && not v) (asked_at k true) s) same ∙ ap (λ f. cond (q.asks && not f) (asked_at (key_for q) true) s) (sym fresh)
      ∙ ap (λ x. cond (asks_now t q l) (asked_at (key_for q) x) s) (sym there);
}
  where
    same : stored_at r.key ≡ key_for q
    same = sym (key-stored r.key) ∙ ap (λ e. stored_key (key_of e)) (sym entry)

    given_at : StoredKey → Option Locked
    given_at k = Some (locked_by s (to_wait_for k s))

    asked_at : StoredKey → Bool → LockState
    asked_at k stale = after (lock_change k stale t s (to_wait_for k s)) s

-- what was given is handed back
pub handed-back : (t : MomentValue) (q : Request) (l : Look) (s : LockState) (g : Option Locked) (locked back : LockState) → IsAsked t q l s g locked → back ≡ left_by g locked → LeavesLock t q l s back
handed-back t q l s g locked back a e = record { asked = asks_now t q l; due = λ x. x; lock = e ∙ ap (λ x. left_by x locked) a.gave ∙ ap (left_by (given_as (asks_now t q l) o s)) a.left ∙ by_asked (asks_now t q l) }
  where
    o : Option ℕ
    o = to_wait_for (key_for q) s

    by_asked : (v : Bool) → left_by (given_as v o s) (cond v (after (lock_change (key_for q) (is_there l) t s o) s) s) ≡ cond v (after_all (back_changes t q l s) s) s
    by_asked true = one_back (key_for q) (is_there l) t s o
    by_asked false = refl

-- a lock that wasn't asked for, or refuses, is as it was
pub lock-left : (t : MomentValue) (q : Request) (l : Look) (s left : LockState) → left ≡ s → LeavesLock t q l s left
lock-left t q l s left e = record { asked = false; due = λ x. absurd cc; lock = e }

-- what is reported where a lock refuses that is asked for
pub lock-refused : (n : ℕ) (weighed : ℕ → ℕ) (t : MomentValue) (q : Request) (l : Look) (m : Managed) (s : LockState) (f : LockFault) → asks_now t q l ≡ true → IsRefused s (to_wait_for (key_for q) s) f
    → RunsOut n weighed t q l s (lock_fault_for f) ⊎ (UseRefused n weighed q l m (lock_fault_for f) ⊎ LockRefused n weighed t q l s (lock_fault_for f))
lock-refused n weighed t q l m s f asks h = by_fault (to_wait_for (key_for q) s) refl f h
  where
    by_fault : (o : Option ℕ) → to_wait_for (key_for q) s ≡ o → (f : LockFault) → IsRefused s o f
        → RunsOut n weighed t q l s (lock_fault_for f) ⊎ (UseRefused n weighed q l m (lock_fault_for f) ⊎ LockRefused n weighed t q l s (lock_fault_for f))
    by_fault o e lock_fault.CoreNumbersSpent h = inr (inr (refl, asks, subst (IsSpent s) (sym e) h))
    by_fault None e lock_fault.Memory h = inl (refl, inr (ap (λ v. given_if v (to_wait_for (key_for q) s)) asks ∙ ap given_for e, h))
    by_fault (Some k) e lock_fault.Memory h = absurd h
