-- A request that is disabled already, or was just enabled.
use Rattle.std.proofs.Common.{◌≡◌, ℕ, refl, ap, sym, subst, Bool, List, Option, Some, None, true, false}
use Rattle.std.proofs.lemmas.Bool.{false≢true}
use Rattle.cache_heads.specs.declared.reason.NoCacheReason.{NoCacheReason}
use Rattle.cache_heads.specs.declared.reason.NoCacheReason.TheVariants.{NeverEnabled}
use Rattle.cache_lock.specs.declared.status.LockStatus.{LockStatus}
use Rattle.cache_lock.specs.declared.tokens.Locked.{Locked}
use Rattle.cache_lock.specs.State.{LockState}
use Rattle.cache_store.specs.StoreState.{StoreState}
use Rattle.cache_store.specs.Readers.{Reader}
use Rattle.request_phases.specs.declared.phase.CachePhase.{CachePhase}
use Rattle.request_phases.specs.declared.phase.CachePhase.TheVariants.{Disabled}
use Rattle.request_phases.specs.declared.request_lock.RequestLock.{RequestLock}
use Rattle.request_phases.specs.Phases.{is_disabled, is_never_enabled}
use Rattle.request_phases.specs.declared.lock_ctx.CacheOptionOverrides.{CacheOptionOverrides}
use Rattle.request_phases.specs.Locks.{held, left_by, let_go, lock_off, lock_set, holds_permit}
use Rattle.request_phases.specs.Releases.{lock_released_for, released_in, status_for, key_in}
use Rattle.request_cache.specs.Request.{Request, HoldsNothing, emptied, disabled_in, disabled_for}
use Rattle.request_store.specs.Spends.{Spends, Leaves, Ends}
use Rattle.request_cache.specs.Points.{point, IsDisabledFor}

pub off_when_never : (p : CachePhase) → is_never_enabled p ≡ true → is_disabled p ≡ true
off_when_never (Disabled reason) e = refl
off_when_never _ e = absurd (false≢true e)

-- a lock that was just set holds nothing
pub nothing_held_yet : (on : Bool) (overrides : Option CacheOptionOverrides) → held (lock_set on overrides) ≡ None
nothing_held_yet true None = refl
nothing_held_yet true (Some o) = refl
nothing_held_yet false overrides = refl

-- a lock that is off stays so
pub off-let-go : (l : RequestLock) → l ≡ lock_off → let_go l ≡ lock_off
off-let-go l e = ap let_go e

pub off-holds-nothing : (l : RequestLock) → l ≡ lock_off → holds_permit l ≡ false
off-holds-nothing l e = ap holds_permit e

-- nothing is released where nothing is held
released-nothing : (k : Option (List ℕ)) (status : Option LockStatus) (l : RequestLock) (s : LockState) → held l ≡ None → lock_released_for k status l s ≡ s
released-nothing (Some k) (Some status) l s e = ap (λ (o : Option Locked). released_in o k status s) e
released-nothing (Some k) None l s e = ap (λ (o : Option Locked). left_by o s) e
released-nothing None (Some status) l s e = ap (λ (o : Option Locked). left_by o s) e
released-nothing None None l s e = ap (λ (o : Option Locked). left_by o s) e

module _ {H M : Type 0} (reader : H → Reader) (number : M → ℕ) (custom : List ℕ → LockStatus) (reason : NoCacheReason) (h : StoreState) (s : LockState) where
  ends-nothing : (r : Option H) (w : Option M) → r ≡ None → w ≡ None → Ends reader number r w h h
  ends-nothing r w e f =
      (h, subst (λ (o : Option M). Leaves number o h h) (sym f) refl, subst (λ (o : Option H). Spends reader o h h) (sym e) refl)

  already : (r new : Request H M) → HoldsNothing r.reader r.writer r.lock → new ≡ disabled_for reason r → IsDisabledFor reader number custom reason (point r h s) (point new h s)
  already r new nothing e = record {
    request = e;
    store = ends-nothing r.reader r.writer nothing.reader nothing.writer;
    lock = sym (released-nothing (key_in r.key) (status_for custom reason) r.lock s (ap held nothing.lock));
  }

  abbrev IsIdle : Request H M → Type 0
  IsIdle r = is_disabled r.phase ≡ true → HoldsNothing r.reader r.writer r.lock

  abbrev renamed : Request H M → Request H M
  renamed r = record r { phase = Disabled reason }

  never-in : (p : CachePhase) (r : Request H M) → is_never_enabled p ≡ true → disabled_in p reason r ≡ r
  never-in (Disabled NeverEnabled) r e = refl
  never-in (Disabled _) r e = absurd (false≢true e)
  never-in _ r e = absurd (false≢true e)

  again-in : (p : CachePhase) (r : Request H M) → is_never_enabled p ≡ false → is_disabled p ≡ true → disabled_in p reason r ≡ renamed r
  again-in (Disabled NeverEnabled) r e d = absurd (false≢true (sym e))
  again-in (Disabled _) r e d = refl
  again-in _ r e d = absurd (false≢true d)

  -- one that is on is emptied
  pub emptied-in : (p : CachePhase) (r : Request H M) → is_disabled p ≡ false → disabled_in p reason r ≡ record (emptied r) { phase = Disabled reason }
  emptied-in (Disabled _) r d = absurd (false≢true (sym d))
  emptied-in _ r d = refl

  -- a request that was never enabled stays as it is
  pub never-disabled : (r0 r : Request H M) → r0 ≡ r → IsIdle r0 → is_never_enabled r0.phase ≡ true → IsDisabledFor reader number custom reason (point r h s) (point r h s)
  never-disabled r0 r same idle e =
      subst (λ (x : Request H M). IsDisabledFor reader number custom reason (point x h s) (point x h s)) same
      (already r0 r0 (idle (off_when_never r0.phase e)) (sym (never-in r0.phase r0 e)))

  -- one that is disabled takes the reason alone
  pub again-disabled : (r0 r : Request H M) → r0 ≡ r → IsIdle r0 → is_never_enabled r0.phase ≡ false → is_disabled r0.phase ≡ true
      → IsDisabledFor reader number custom reason (point r h s) (point (renamed r0) h s)
  again-disabled r0 r same idle e d =
      subst (λ (x : Request H M). IsDisabledFor reader number custom reason (point x h s) (point (renamed r0) h s)) same
      (already r0 (renamed r0) (idle d) (sym (again-in r0.phase r0 e d)))
