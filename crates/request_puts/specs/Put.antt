-- What a put gives, and what it leaves.
use Rattle.std.specs.Prelude.{◌≡◌, ℕ, Bool, true, false, List, [], length, Some, option_map, Result, Ok, Err, ◌⊎◌}
use Rattle.cache_words.specs.Key.{Key, combined}
use Rattle.cache_heads.specs.declared.meta.CacheMeta.{CacheMeta}
use Rattle.head_metas.specs.Internal.{IsWritable}
use Rattle.cache_entries.specs.declared.entry.CacheEntryKey.{CacheEntryKey}
use Rattle.cache_entries.specs.Entry.{entry_with, number_of}
use Rattle.cache_evict.specs.declared.fault.EvictFault.{EvictFault}
use Rattle.cache_evict.specs.declared.fault.EvictFault.TheVariants as evict
use Rattle.cache_store.specs.declared.storage.StoreFault.{StoreFault}
use Rattle.cache_store.specs.declared.storage.StoreFault.TheVariants as store
use Rattle.cache_store.specs.declared.storage.MissFinishType.{MissFinishType}
use Rattle.cache_store.specs.Ids.{SameBut}
use Rattle.request_puts.specs.declared.put.whole.ResponseVerdict.{ResponseVerdict}
use Rattle.request_puts.specs.declared.put.whole.ResponseVerdict.TheVariants as whole
use Rattle.request_store.specs.declared.done.Done.{Done}
use Rattle.request_store.specs.declared.done.AdmitFault.{AdmitFault}
use Rattle.request_store.specs.declared.done.AdmitFault.TheVariants as admit
use Rattle.request_store.specs.Admissions.{Rules, Cache, compact, IsDone, IsAdmitted}
use Rattle.request_store.specs.Admissions as admissions
use Rattle.request_puts.specs.declared.put.outcome.PutOutcome.{PutOutcome}
use Rattle.request_puts.specs.declared.put.outcome.PutOutcome.TheVariants.{Stored, Uncacheable}
use Rattle.request_puts.specs.declared.put.outcome.PutFault.{PutFault}
use Rattle.request_puts.specs.declared.put.outcome.PutFault.TheVariants.{BadHead, ResponseTooLarge, Incomplete, MetaMoment, WriteNumbersSpent, Weight, Length, NumbersSpent, Memory}
use Rattle.cache_store.specs.Wholes.{Stores, GivenUp, whole_of}

-- memory ran out before anything was done
abbrev pub IsOutOfMemory : PutFault → Type 0
IsOutOfMemory fault = (done : Done) × (fault ≡ Memory done) × IsDone false false [] done

-- a fault of the store, with which nothing was stored, is reported as this
abbrev pub IsStoreFaultTold : StoreFault → PutFault → Type 0
IsStoreFaultTold store.WriteNumbersSpent fault = fault ≡ WriteNumbersSpent
IsStoreFaultTold store.MetaMoment fault = fault ≡ MetaMoment
IsStoreFaultTold _ fault = IsOutOfMemory fault

-- a fault of the order of use, which came after a body was stored, is reported as this
abbrev pub IsTold : Bool → EvictFault → PutFault → Type 0
IsTold admitted (evict.Memory v) (Memory done) = IsDone true admitted v.items done
IsTold admitted (evict.Weight v) (Weight done) = IsDone true admitted v.items done
IsTold admitted (evict.Length v) (Length done) = IsDone true admitted v.items done
IsTold admitted (evict.NumbersSpent v) (NumbersSpent done) = IsDone true admitted v.items done
IsTold admitted _ _ = ⊥

-- a fault of the admission as one of a put
abbrev pub fault_of_admission : AdmitFault → PutFault
fault_of_admission (admit.Weight done) = Weight done
fault_of_admission (admit.Length done) = Length done
fault_of_admission (admit.NumbersSpent done) = NumbersSpent done
fault_of_admission (admit.Memory done) = Memory done

module _ {S : Type 0} (rules : Rules S) where
  -- nothing has changed
  pub record IsSame (old new : Cache S) : Type 0 where
    pub store : rules.held new.store ≡ rules.held old.store
    pub managed : new.managed ≡ old.managed
    pub words : new.words ≡ old.words

  -- memory ran out before a body was stored that may be kept, and of which the store takes a write
  pub record RanOut (meta : CacheMeta) (fault : PutFault) (old new : Cache S) : Type 0 where
    pub told : IsOutOfMemory fault
    pub left : rules.is_spent (rules.held old.store) ≡ false
    pub written : IsWritable meta.internal
    pub store : GivenUp (rules.is_spent (rules.held old.store)) (rules.held old.store) (rules.held new.store)
    pub managed : new.managed ≡ old.managed
    pub words : new.words ≡ old.words

  -- an entry was not admitted, or memory ran out in the evictions: what was evicted until then is purged, and then what is
  -- stored under the entry's key is removed with the entry
  abbrev pub IsTakenBack : MissFinishType → CacheEntryKey → PutFault → Cache S → Cache S → Type 0
  IsTakenBack finish e fault old new = admissions.IsTakenBack rules IsTold finish e fault old new

  -- a body was stored, and then its entry was admitted as the store reports of the body, or both were taken back. The entry has the id
  -- that the store gave the body
  abbrev pub IsStoredThen : Key → CacheMeta → List ℕ → (MissFinishType → CacheEntryKey → Cache S → Type 0) → Cache S → Type 0
  IsStoredThen key meta body next old =
      (mid : S) × SameBut (Some (combined key)) (rules.ids old.store) (rules.ids mid)
      × Stores (rules.is_spent (rules.held old.store)) (combined key) meta body (rules.held old.store) (rules.held mid)
      × next (rules.told (whole_of (combined key) meta body (rules.held old.store))) (entry_with (compact key) (option_map number_of (rules.ids mid (combined key)))) (record old { store = mid })

  -- the store takes no write
  abbrev pub IsWriteRefused : CacheMeta → PutFault → Cache S → Cache S → Type 0
  IsWriteRefused meta WriteNumbersSpent old new = (rules.is_spent (rules.held old.store) ≡ true) × IsSame old new
  IsWriteRefused meta MetaMoment old new = (rules.is_spent (rules.held old.store) ≡ false) × (IsWritable meta.internal → ⊥) × IsSame old new
  IsWriteRefused meta _ old new = ⊥

  -- what comes of a body that may be kept
  abbrev pub IsPut : Key → CacheMeta → List ℕ → Result PutOutcome PutFault → Cache S → Cache S → Type 0
  IsPut key meta body (Ok (Stored size evicted)) old new = (size ≡ length body) × IsStoredThen key meta body (λ finish e mid. IsAdmitted rules finish e evicted.items mid new) old
  IsPut key meta body (Ok (Uncacheable reason)) old new = ⊥
  IsPut key meta body (Err fault) old new =
      RanOut meta fault old new ⊎ (IsWriteRefused meta fault old new ⊎ IsStoredThen key meta body (λ finish e mid. IsTakenBack finish e fault mid new) old)

  -- what comes of a response that gives this
  abbrev pub IsOutcome : Key → ResponseVerdict → Result PutOutcome PutFault → Cache S → Cache S → Type 0
  IsOutcome key (whole.Cacheable meta body) r old new = IsPut key meta body r old new
  IsOutcome key (whole.Uncacheable reason) r old new = (r ≡ Ok (Uncacheable reason)) × IsSame old new
  IsOutcome key whole.TooLarge r old new = (r ≡ Err ResponseTooLarge) × IsSame old new
  IsOutcome key whole.Incomplete r old new = (r ≡ Err Incomplete) × IsSame old new
  IsOutcome key whole.BadHead r old new = (r ≡ Err BadHead) × IsSame old new

  -- a put under a key of a response that gives one of these, unless memory runs out before that is known
  abbrev pub Puts : Key → (ResponseVerdict → Type 0) → Result PutOutcome PutFault → Cache S → Cache S → Type 0
  Puts key gives r old new =
      ((fault : PutFault) × (r ≡ Err fault) × IsOutOfMemory fault × IsSame old new) ⊎ ((w : ResponseVerdict) × gives w × IsOutcome key w r old new)
