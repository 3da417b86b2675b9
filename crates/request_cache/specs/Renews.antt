-- The steps of a revalidation: what each is answered.
use Rattle.std.specs.Prelude.{◌≡◌, ℕ, Bool, false, Option, Some, None, Result, Ok, Err, MatchResult}
use Rattle.cache_heads.specs.declared.meta.CacheMeta.{CacheMeta}
use Rattle.cache_entries.specs.declared.entry.CacheEntryKey.{CacheEntryKey}
use Rattle.cache_changes.specs.Changes.{StoredKey}
use Rattle.cache_changes.specs.Store.{Stored}
use Rattle.cache_evict.specs.declared.fault.EvictFault.{EvictFault}
use Rattle.cache_evict.specs.declared.fault.EvictFault.TheVariants as evict
use Rattle.cache_evict.specs.Managed.{Managed, weighed_anew, Fits}
use Rattle.request_store.specs.Admissions.{Rules, Cache, IsDone}
use Rattle.cache_store.specs.declared.storage.StoreFault.{StoreFault}
use Rattle.cache_store.specs.declared.storage.StoreFault.TheVariants as store
use Rattle.request_cache.specs.declared.renew.RevalidateFault.{RevalidateFault}
use Rattle.request_cache.specs.declared.renew.RevalidateFault.TheVariants.{NoMeta, MetaMoment, Memory, Weight, Length, NumbersSpent}
use Rattle.request_cache.specs.Revalidations.{wanted, IsOutOfMemory, IsUnweighed, IsWeighedAnew, IsKeptOut}

-- a fault of the store, which makes no meta ready, is told as this
abbrev pub IsUnprepared : StoreFault → RevalidateFault → Type 0
IsUnprepared store.NoMeta fault = fault ≡ NoMeta
IsUnprepared store.MetaMoment fault = fault ≡ MetaMoment
IsUnprepared _ fault = IsOutOfMemory fault

-- a fault of the order of use, which weighs no entry anew, is told as this
abbrev pub IsToldOf : EvictFault → RevalidateFault → Type 0
IsToldOf (evict.Memory v) (Memory done) = IsDone false false v.items done
IsToldOf (evict.Weight v) (Weight done) = IsDone false false v.items done
IsToldOf (evict.Length v) (Length done) = IsDone false false v.items done
IsToldOf (evict.NumbersSpent v) (NumbersSpent done) = IsDone false false v.items done
IsToldOf _ _ = ⊥

-- the entry gets weight w, where there is one
abbrev pub ReweighAnswer : ℕ → Option CacheEntryKey → ℕ → Managed → Result (Unit {0}) RevalidateFault → Managed → Type 0
ReweighAnswer n None w old r new = (r ≡ Ok tt) × (new ≡ old)
ReweighAnswer n (Some e) w old (Ok done) new = (new ≡ weighed_anew n e w old) × Fits n new
ReweighAnswer n (Some e) w old (Err fault) new = IsUnweighed n e w old fault × (new ≡ old)

-- the body of the key gets the meta, and the entry its weight with it; the entry is returned, where the manager is on
abbrev pub RenewAnswer : {S : Type 0} → Rules S → (Stored CacheMeta → ℕ) → StoredKey → CacheEntryKey → Bool → CacheMeta → Option (Stored CacheMeta) → Result (Option CacheEntryKey) RevalidateFault → Cache S → Cache S → Type 0
RenewAnswer rules weigh key e evicts meta None r old new = (r ≡ Err NoMeta) × (new ≡ old)
RenewAnswer rules weigh key e evicts meta (Some x) r old new =
    MatchResult r (λ entry. (entry ≡ wanted evicts e) × IsWeighedAnew rules weigh key e evicts meta x old new)
    (λ fault. IsKeptOut rules weigh key e evicts meta x fault old.managed × (new ≡ old))
