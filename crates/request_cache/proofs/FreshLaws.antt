-- What a look-up finds, as it is reported at a moment.
use Rattle.std.proofs.Common.{◌≡◌, ℕ, refl, ap, subst}
use Rattle.std.specs.Prelude.{Bool, true, List, Option, Some, None, is_some, is_none, Result, Ok, Err}
use Rattle.cache_words.specs.Time.{MomentValue}
use Rattle.cache_words.specs.Key.{Key}
use Rattle.cache_heads.specs.declared.meta.CacheMeta.{CacheMeta}
use Rattle.cache_entries.specs.declared.entry.CacheEntryId.{CacheEntryId}
use Rattle.cache_changes.specs.Changes.{StoredKey}
use Rattle.cache_changes.specs.Store.{Stored}
use Rattle.cache_lock.specs.declared.fault.LockFault.{LockFault}
use Rattle.cache_lock.specs.declared.status.LockStatus.{LockStatus}
use Rattle.cache_lock.specs.State.{LockState}
use Rattle.cache_store.specs.declared.admission.Decision.{Decision}
use Rattle.cache_store.specs.declared.storage.StoreFault.{StoreFault}
use Rattle.cache_store.specs.declared.storage.StoreFault.TheVariants.{Memory}
use Rattle.cache_store.specs.declared.storage.store.FoundAt.{FoundAt}
use Rattle.cache_store.specs.Answers.{Look}
use Rattle.cache_store.specs.StoreState.{StoreState}
use Rattle.cache_store.specs.Readers.{Reader}
use Rattle.request_store.specs.declared.faults.LookUpFault.{LookUpFault}
use Rattle.request_store.specs.declared.faults.LookUpFault.TheVariants as fault
use Rattle.request_store.specs.Looks.{IsValidFoundAt}
use Rattle.request_cache.specs.Request.{Request}
use Rattle.request_cache.specs.Points.{Point, point}
use Rattle.request_cache.specs.Lookups.{IsAbsent, FindsNothing}
use Rattle.request_cache.specs.Freshes.{LookUpAtAnswer}

module _ {H M : Type 0} (reader : H → Reader) (number : M → ℕ) (weight : H → ℕ) (id : H → Option CacheEntryId) (weigh : Stored CacheMeta → ℕ) (ids : StoredKey → Option CacheEntryId)
    (custom : List ℕ → LockStatus) (decides : Key → Decision → Type 0) (moment : MomentValue) (shown : StoredKey → Option Look) (old : StoreState) (s : LockState) where
  abbrev Tells : StoredKey → Request H M → Result (Option (FoundAt H)) LookUpFault → Point H M → Type 0
  Tells k r result new = LookUpAtAnswer reader number weight id weigh (ids k) custom decides moment (shown k) (point r old s) result new

  abbrev the-ok : Option (FoundAt H) → Result (Option (FoundAt H)) LookUpFault
  the-ok o = Ok o

  abbrev Finds : StoredKey → Option MomentValue → Option (FoundAt H) → StoreState → Type 0
  Finds k since found new = IsValidFoundAt reader weight id weigh (ids k) moment since (shown k) old found new

  -- the same, of the same key, moment and answer
  pub as-found : (k k' : StoredKey) (since since' : Option MomentValue) (p p' : Option (FoundAt H)) (new : StoreState) → k ≡ k' → since ≡ since' → p ≡ p' → Finds k since p new → Finds k' since' p' new
  as-found k k' since since' p p' new ek es ep v =
      subst (λ (x : Option (FoundAt H)). Finds k' since' x new) ep (subst (λ (x : Option MomentValue). Finds k' x p new) es (subst (λ (x : StoredKey). Finds x since p new) ek v))

  -- a response is found
  pub found-told : (k : StoredKey) (r : Request H M) (f : FoundAt H) (new : StoreState) → Finds k r.valid_after (Some f) new → Tells k r (Ok (Some f)) (point r new s)
  found-told k r f new (Some x, v, t, e) = (Ok (Some x), (v, refl, refl), t, ap the-ok e)
  found-told k r f new (None, v, t, e) = absurd cc

  module _ (k : StoredKey) (r : Request H M) (nothing : Bool) (mid : StoreState) (new : Point H M) (n : nothing ≡ is_none (shown k)) where
    abbrev Misses : Result (Unit {0}) LockFault → Type 0
    Misses result = IsAbsent reader number custom decides moment nothing (point r mid s) result new

    nothing-found : (result : Result (Unit {0}) LockFault) → Finds k r.valid_after None mid → Misses result → FindsNothing reader number custom decides moment (shown k) (point r old s) result new
    nothing-found result (None, v, t, e) a =
        (v.0, (mid, v.1, subst (λ (b : Bool). IsAbsent reader number custom decides moment b (point r mid s) result new) n a))
    nothing-found result (Some x, v, t, e) a = absurd cc

    -- nothing is found
    pub absent-told : Finds k r.valid_after None mid → Misses (Ok tt) → Tells k r (Ok None) new
    absent-told (None, v, t, e) a = (Ok None, nothing-found (Ok tt) (None, v, t, e) a, t, refl)
    absent-told (Some x, v, t, e) a = absurd cc

    -- nothing is found, and the lock refuses
    pub lock-told : (f : LockFault) → Finds k r.valid_after None mid → Misses (Err f) → Tells k r (Err (fault.Lock f)) new
    lock-told f v a = (Err (fault.Lock f), nothing-found (Err f) v a, tt, refl)

  -- the store refuses
  pub store-told : (k : StoredKey) (r : Request H M) (f : StoreFault) (new : StoreState) → f ≡ Memory → new ≡ old → is_some (shown k) ≡ true → Tells k r (Err (fault.Store f)) (point r new s)
  store-told k r f new ef e l = (Err (fault.Store f), (ef, l, ap (λ (h : StoreState). point r h s) e), tt, refl)
