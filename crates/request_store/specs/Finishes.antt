-- What comes of the finish of a write.
use Rattle.std.specs.Prelude.{◌≡◌, ℕ, Bool, true, false, List, [], length, Option, Some, None, is_some, Result, Ok, Err, ◌⊎◌, ⊤}
use Rattle.cache_words.specs.Key.{CacheKeyValue}
use Rattle.cache_changes.specs.Changes.{StoredKey}
use Rattle.cache_changes.specs.Store.{Stored, flying_at}
use Rattle.cache_heads.specs.declared.meta.CacheMeta.{CacheMeta}
use Rattle.cache_entries.specs.declared.entry.CacheEntryId.{CacheEntryId}
use Rattle.cache_entries.specs.declared.entry.CacheEntryKey.{CacheEntryKey}
use Rattle.cache_evict.specs.declared.fault.EvictFault.{EvictFault}
use Rattle.cache_evict.specs.declared.fault.EvictFault.TheVariants as evict
use Rattle.request_store.specs.declared.done.Done.{Done}
use Rattle.request_store.specs.declared.done.AdmitFault.{AdmitFault}
use Rattle.request_store.specs.declared.done.AdmitFault.TheVariants as admit
use Rattle.request_store.specs.Admissions.{Rules, Cache, IsDone, IsAdmitted, IsTakenBack}
use Rattle.cache_store.specs.declared.storage.MissFinishType.{MissFinishType}
use Rattle.cache_store.specs.declared.storage.store.MissFault.{MissFault}
use Rattle.cache_store.specs.declared.storage.store.MissFault.TheVariants as miss
use Rattle.cache_store.specs.Answers.{alive_key, left, IsFinished}
use Rattle.cache_store.specs.StoreState.{StoreState}
use Rattle.cache_store.specs.Ids.{IsGiven}
use Rattle.request_store.specs.declared.faults.Finished.{Finished}
use Rattle.request_store.specs.declared.faults.FinishFault.{FinishFault}
use Rattle.request_store.specs.declared.faults.FinishFault.TheVariants.{Memory, WriteRemoved, Weight, Length, NumbersSpent}
use Rattle.request_store.specs.Entries.{entry_at}

-- ---- how faults are reported

-- memory ran out before anything was done
abbrev pub IsOutOfMemory : FinishFault → Type 0
IsOutOfMemory fault = (done : Done) × (fault ≡ Memory done) × IsDone false false [] done

-- a fault of the order of use, which came after the body was stored, is reported as this
abbrev pub IsToldAs : Bool → EvictFault → FinishFault → Type 0
IsToldAs admitted (evict.Memory v) (Memory done) = IsDone true admitted v.items done
IsToldAs admitted (evict.Weight v) (Weight done) = IsDone true admitted v.items done
IsToldAs admitted (evict.Length v) (Length done) = IsDone true admitted v.items done
IsToldAs admitted (evict.NumbersSpent v) (NumbersSpent done) = IsDone true admitted v.items done
IsToldAs admitted _ _ = ⊥

-- a fault of the admission as one of the finish
abbrev pub fault_of_admission : AdmitFault → FinishFault
fault_of_admission (admit.Weight done) = Weight done
fault_of_admission (admit.Length done) = Length done
fault_of_admission (admit.NumbersSpent done) = NumbersSpent done
fault_of_admission (admit.Memory done) = Memory done

-- ---- what is left of the store and of the order of use

-- a writer that is handed back names the same write
abbrev pub SameWriter : {M : Type 0} → (M → ℕ) → (M → Option CacheEntryId) → (M → Option (List ℕ)) → Option M → Option M → Type 0
SameWriter number id tag None None = ⊤
SameWriter number id tag (Some old) (Some new) = (number new ≡ number old) × (id new ≡ id old) × (tag new ≡ tag old)
SameWriter number id tag _ _ = ⊥

module _ {S M : Type 0} (held : S → StoreState) (ids : S → StoredKey → Option CacheEntryId) (number : M → ℕ) (id : M → Option CacheEntryId) where
  -- the key of a write that no removal met
  abbrev pub key_alive : M → S → Option StoredKey
  key_alive m s = alive_key (flying_at (number m) (held s).store)

  -- no removal met the write
  abbrev pub IsAlive : M → S → Type 0
  IsAlive m s = is_some (key_alive m s) ≡ true

  -- a write is stored as a body of so many bytes, which the store reports as this
  pub record IsStored (told : Stored CacheMeta → MissFinishType) (m : M) (kind : MissFinishType) (size : ℕ) (old new : S) : Type 0 where
    pub alive : IsAlive m old
    pub body : Stored CacheMeta
    pub told_so : kind ≡ told body
    pub sized : size ≡ length body.bytes
    pub finished : IsFinished (number m) body (held old) (held new)
    pub given : IsGiven (key_alive m old) (id m) (ids old) (ids new)

  -- it isn't stored: it was removed and is given up, or else, out of memory, the writer is handed back and nothing was done
  abbrev pub IsUnstored : (M → Option (List ℕ)) → M → MissFault M → S → S → Type 0
  IsUnstored tag m (miss.Memory again) old new = IsAlive m old × SameWriter number id tag (Some m) (Some again) × (held new ≡ held old) × (ids new ≡ ids old)
  IsUnstored tag m miss.WriteRemoved old new = (key_alive m old ≡ None) × (held new ≡ left (number m) (held old)) × (ids new ≡ ids old)

-- the entry of a body, twice, where the manager is on
abbrev pub AreEntries : Bool → CacheEntryKey → Option (CacheEntryKey × CacheEntryKey) → Type 0
AreEntries true e (Some entries) = (entries.0 ≡ e) × (entries.1 ≡ e)
AreEntries false e None = ⊤
AreEntries evicts e entries = ⊥

module _ {S M : Type 0} (rules : Rules S) (number : M → ℕ) (id : M → Option CacheEntryId) where
  -- the store holds that, and all else is as before
  pub record OnlyHolds (now : StoreState) (old new : Cache S) : Type 0 where
    pub store : rules.held new.store ≡ now
    pub ids : rules.ids new.store ≡ rules.ids old.store
    pub managed : new.managed ≡ old.managed
    pub words : new.words ≡ old.words

  -- nothing is stored
  abbrev pub NotStoredAnswer : M → Result (Option Finished) FinishFault → Cache S → Cache S → Type 0
  NotStoredAnswer m (Ok finished) old new = ⊥
  NotStoredAnswer m (Err WriteRemoved) old new =
      (key_alive rules.held rules.ids number id m old.store ≡ None) × OnlyHolds (left (number m) (rules.held old.store)) old new
  NotStoredAnswer m (Err fault) old new =
      IsOutOfMemory fault × IsAlive rules.held rules.ids number id m old.store × OnlyHolds (rules.held old.store) old new

  -- a body of so many bytes that was stored is admitted, where the manager is on, or taken back
  abbrev pub AdmitAnswer : Bool → MissFinishType → ℕ → CacheEntryKey → Result (Option Finished) FinishFault → Cache S → Cache S → Type 0
  AdmitAnswer true kind size e (Ok (Some f)) old new = (f.kind ≡ kind) × (f.length ≡ size) × IsAdmitted rules kind e f.evicted.items old new
  AdmitAnswer false kind size e (Ok (Some f)) old new = (f.kind ≡ kind) × (f.length ≡ size) × (f.evicted.items ≡ []) × (new ≡ old)
  AdmitAnswer evicts kind size e (Ok None) old new = ⊥
  AdmitAnswer true kind size e (Err fault) old new = IsTakenBack rules IsToldAs kind e fault old new
  AdmitAnswer false kind size e (Err fault) old new = ⊥

  -- the finish of a write under a key, by whether the manager is on: nothing is stored, or a body, which is admitted or taken back
  abbrev pub Finishes : M → Option CacheKeyValue → Bool → Result (Option Finished) FinishFault → Cache S → Cache S → Type 0
  Finishes m key evicts r old new =
      NotStoredAnswer m r old new
      ⊎ ((mid : S) × (kind : MissFinishType) × (size : ℕ) × IsStored rules.held rules.ids number id rules.told m kind size old.store mid
      × AdmitAnswer evicts kind size (entry_at key (id m)) r (record old { store = mid }) new)

  -- a request without a writer has nothing to finish
  abbrev pub FinishAnswer : Option M → Option CacheKeyValue → Bool → Result (Option Finished) FinishFault → Cache S → Cache S → Type 0
  FinishAnswer None key evicts r old new = (r ≡ Ok None) × (new ≡ old)
  FinishAnswer (Some m) key evicts r old new = Finishes m key evicts r old new
