-- What a look-up gives a request.
use Rattle.std.specs.Prelude.{◌≡◌, ◌↔◌, ℕ, Bool, true, false, List, Option, Some, None, IsTrue, IfSome, is_some, is_none, Result, Ok, Err}
use Rattle.cache_words.specs.Time.{MomentValue}
use Rattle.cache_words.specs.Key.{Key, key_of}
use Rattle.cache_heads.specs.declared.meta.CacheMeta.{CacheMeta}
use Rattle.cache_heads.specs.declared.reason.NoCacheReason.TheVariants.{Deferred}
use Rattle.cache_lock.specs.declared.fault.LockFault.{LockFault}
use Rattle.cache_lock.specs.declared.status.LockStatus.{LockStatus}
use Rattle.cache_lock.specs.Answers.{to_wait_for, IsRefused}
use Rattle.cache_lock.specs.State.{LockState}
use Rattle.cache_store.specs.declared.admission.Decision.{Decision}
use Rattle.cache_store.specs.declared.admission.Decision.TheVariants.{Defer}
use Rattle.cache_store.specs.declared.storage.StoreFault.TheVariants.{Memory}
use Rattle.cache_store.specs.Answers.{Look}
use Rattle.cache_store.specs.StoreState.{StoreState}
use Rattle.cache_store.specs.Readers.{Reader, SameStoreState}
use Rattle.request_phases.specs.Phases.{is_key_phase}
use Rattle.request_phases.specs.Locks.{is_on, given_by, asked, now_holding, lock_held}
use Rattle.request_store.specs.declared.faults.LookUpFault.{LookUpFault}
use Rattle.request_store.specs.declared.faults.LookUpFault.TheVariants as fault
use Rattle.request_store.specs.Looks.{valid_look, IsValidFound}
use Rattle.request_cache.specs.Request.{Request, stored_at}
use Rattle.request_cache.specs.Points.{Point, IsDisabledFor}

-- the policy of admission is asked where it is on and the store has nothing: before anything was found, and once
pub record AsksPolicy {H M : Type 0} (nothing : Bool) (r : Request H M) : Type 0 where
  pub absent : nothing ≡ true
  pub unsought : is_key_phase r.phase ≡ true
  pub on : r.admits ≡ true
  pub first : r.digest.admission ≡ None

abbrev pub defers : Option Decision → Bool
defers (Some (Defer observed)) = true
defers _ = false

-- the request with what the policy decided, if it was asked
abbrev pub decided : {H M : Type 0} → Option Decision → Request H M → Request H M
decided None r = r
decided (Some decision) r = record r { digest = record r.digest { admission = Some decision } }

-- a request that found nothing asks the lock, which may refuse it
abbrev pub LockAnswer : {H M : Type 0} → MomentValue → Request H M → LockState → Result (Unit {0}) LockFault → Request H M → LockState → Type 0
LockAnswer moment r s (Ok done) r' s' =
    let k = stored_at r.key in let given = given_by r.lock k s in (r' ≡ record r { lock = now_holding given r.lock }) × (s' ≡ lock_held given r.lock (asked r.lock k false moment s))
LockAnswer moment r s (Err f) r' s' = (is_on r.lock ≡ true) × IsRefused s (to_wait_for (stored_at r.key) s) f × (r' ≡ r) × (s' ≡ s)

module _ {H M : Type 0} (reader : H → Reader) (number : M → ℕ) (custom : List ℕ → LockStatus) (decides : Key → Decision → Type 0) (moment : MomentValue) where
  -- a request that found nothing is disabled where it is deferred, and asks the lock otherwise
  abbrev pub MissAnswer : Bool → Point H M → Result (Unit {0}) LockFault → Point H M → Type 0
  MissAnswer true old r new = (r ≡ Ok tt) × IsDisabledFor reader number custom Deferred old new
  MissAnswer false old r new = LockAnswer moment old.request old.lock r new.request new.lock × (new.held ≡ old.held)

  -- nothing was found; the policy was asked if it is to be, and decided so of the key
  pub record IsAbsent (nothing : Bool) (old : Point H M) (r : Result (Unit {0}) LockFault) (new : Point H M) : Type 0 where
    pub decision : Option Decision
    pub asked : IsTrue (is_some decision) ↔ AsksPolicy nothing old.request
    pub told : IfSome decision (λ d. IfSome old.request.key (λ k. decides (key_of k) d))
    pub missed : MissAnswer (defers decision) (record old { request = decided decision old.request }) r new

  -- nothing is found of what the store shows, which it has left as it was until then
  abbrev pub FindsNothing : Option Look → Point H M → Result (Unit {0}) LockFault → Point H M → Type 0
  FindsNothing look old r new =
      (valid_look old.request.valid_after look ≡ None) × ((held : StoreState) × SameStoreState old.held held × IsAbsent (is_none look) (record old { held = held }) r new)

  -- a look-up of a request, by what the store shows. A decision of the policy stays where the lock refuses
  abbrev pub LookUpAnswer : Option Look → Point H M → Result (Option (CacheMeta × H)) LookUpFault → Point H M → Type 0
  LookUpAnswer look old (Ok (Some found)) new =
      IsValidFound reader (valid_look old.request.valid_after look) old.held (Some found) new.held × (new.request ≡ old.request) × (new.lock ≡ old.lock)
  LookUpAnswer look old (Ok None) new = FindsNothing look old (Ok tt) new
  LookUpAnswer look old (Err (fault.Store f)) new = (f ≡ Memory) × (is_some look ≡ true) × (new ≡ old)
  LookUpAnswer look old (Err (fault.Lock f)) new = FindsNothing look old (Err f) new
