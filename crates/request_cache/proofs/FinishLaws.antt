-- With which status a permit is released after a finish.
use Rattle.std.proofs.Common.{◌≡◌, refl, ap, ◌∙◌, sym, subst, true, false, inl}
use Rattle.std.specs.Prelude.{Bool, ℕ, List, Option, Some, None, Result, Ok, Err, if◌then◌else◌}
use Rattle.cache_entries.specs.declared.entry.CacheEntryId.{CacheEntryId}
use Rattle.cache_entries.specs.declared.entry.CacheEntryKey.{CacheEntryKey}
use Rattle.cache_evict.specs.declared.fault.EvictFault.{EvictFault}
use Rattle.cache_evict.specs.declared.fault.EvictFault.TheVariants as evict
use Rattle.cache_lock.specs.declared.status.LockStatus.TheVariants as status
use Rattle.request_store.specs.Admissions.{Rules, Cache, cache_of}
use Rattle.cache_words.specs.Key.{CacheKeyValue}
use Rattle.cache_evict.specs.Managed.{Managed}
use Rattle.rand_core.specs.Stream.{Stream}
use Rattle.cache_store.specs.declared.storage.store.MissFault.TheVariants as miss
use Rattle.cache_store.specs.declared.storage.MissFinishType.{MissFinishType}
use Rattle.request_store.specs.declared.faults.Finished.{Finished}
use Rattle.request_store.specs.declared.faults.FinishFault.{FinishFault}
use Rattle.request_store.specs.declared.faults.FinishFault.TheVariants.{Memory, Weight, Length, NumbersSpent}
use Rattle.request_store.specs.Finishes.{IsOutOfMemory, IsToldAs, IsUnstored, OnlyHolds, NotStoredAnswer, AdmitAnswer, FinishAnswer}
use Rattle.request_cache.specs.Finishes.{finish_status}

-- a permit is released as done where a body was stored
status-told : (a : Bool) (cause : EvictFault) (fault : FinishFault) → IsToldAs a cause fault → finish_status (Err fault) ≡ Some status.Done
status-told a (evict.Memory v) (Memory done) t = ap (λ (b : Bool). if b then Some status.Done else None) t.stored
status-told a (evict.Weight v) (Weight done) t = refl
status-told a (evict.Length v) (Length done) t = refl
status-told a (evict.NumbersSpent v) (NumbersSpent done) t = refl
status-told a _ _ t = absurd t

pub status-admitted : {S M : Type 0} (rules : Rules S) (number : M → ℕ) (id : M → Option CacheEntryId) (evicts : Bool) (kind : MissFinishType) (size : ℕ) (e : CacheEntryKey) (r : Result (Option Finished) FinishFault) (old new : Cache S)
    → AdmitAnswer rules number id evicts kind size e r old new → finish_status r ≡ Some status.Done
status-admitted rules number id true kind size e (Ok (Some f)) old new a = refl
status-admitted rules number id false kind size e (Ok (Some f)) old new a = refl
status-admitted rules number id true kind size e (Ok None) old new a = absurd a
status-admitted rules number id false kind size e (Ok None) old new a = absurd a
status-admitted rules number id true kind size e (Err fault) old new a = status-told _ a.cause fault a.told
status-admitted rules number id false kind size e (Err fault) old new a = absurd a

pub status-unstored : (fault : FinishFault) → IsOutOfMemory fault → finish_status (Err fault) ≡ None
status-unstored fault out = ap (λ (f : FinishFault). finish_status (Err f)) out.1 ∙ ap (λ (b : Bool). if b then Some status.Done else None) out.2.stored

-- memory ran out before a write was stored
pub out-of-memory : {S M : Type 0} (rules : Rules S) (number : M → ℕ) (id : M → Option CacheEntryId) (tag : M → Option (List ℕ)) (m again : M) (w : Option M) (key : Option CacheKeyValue)
    (evicts : Bool) (fault : FinishFault) (s t : S) (managed : Managed) (words : Stream)
    → w ≡ Some m → IsOutOfMemory fault → IsUnstored rules.held rules.ids number id tag m (miss.Memory again) s t → FinishAnswer rules number id w key evicts (Err fault) (cache_of s managed words) (cache_of t managed words)
out-of-memory {S} {M} rules number id tag m again w key evicts fault s t managed words e out un =
    let holds : OnlyHolds rules number id (rules.held s) (cache_of s managed words) (cache_of t managed words) = record { store = un.2; ids = un.3; managed = refl; words = refl } in
    let not_stored : NotStoredAnswer rules number id m (Err fault) (cache_of s managed words) (cache_of t managed words) =
    subst (λ (f : FinishFault). NotStoredAnswer rules number id m (Err f) (cache_of s managed words) (cache_of t managed words)) (sym out.1) ((out.0, refl, out.2), un.0, holds) in
    subst (λ (o : Option M). FinishAnswer rules number id o key evicts (Err fault) (cache_of s managed words) (cache_of t managed words)) (sym e) (inl not_stored)
