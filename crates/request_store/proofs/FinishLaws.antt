-- How a body is stored by a finish, and how faults of its admission are reported.
use Rattle.std.proofs.Common.{◌≡◌, ℕ, refl, ap, ◌∙◌}
use Rattle.std.specs.Prelude.{Bool, length, Option, Some, None, option_map, unwrap_or, is_some, Ok}
use Rattle.cache_entries.specs.declared.entry.CacheEntryKey.{CacheEntryKey}
use Rattle.cache_evict.specs.declared.fault.EvictFault.{EvictFault}
use Rattle.cache_evict.specs.declared.fault.EvictFault.TheVariants as evict
use Rattle.request_store.specs.declared.done.AdmitFault.{AdmitFault}
use Rattle.request_store.specs.declared.done.AdmitFault.TheVariants as admit
use Rattle.request_store.specs.Admissions.{Rules, Cache, IsTold, IsTakenBack}
use Rattle.cache_changes.specs.Changes.{StoredKey}
use Rattle.cache_changes.specs.Store.{Stored, Flying, flying_at}
use Rattle.cache_entries.specs.declared.entry.CacheEntryId.{CacheEntryId}
use Rattle.cache_heads.specs.declared.meta.CacheMeta.{CacheMeta}
use Rattle.cache_store.specs.declared.storage.MissFinishType.{MissFinishType}
use Rattle.cache_store.specs.StoreState.{StoreState}
use Rattle.cache_store.specs.Ids.{IsGiven}
use Rattle.cache_store.specs.Misses.{MissAnswer}
use Rattle.request_store.specs.declared.faults.FinishFault.{FinishFault}
use Rattle.request_store.specs.declared.faults.FinishFault.TheVariants.{Memory, Weight, Length, NumbersSpent}
use Rattle.request_store.specs.Finishes.{IsToldAs, fault_of_admission, key_alive, IsStored}

told-as : (a : Bool) (cause : EvictFault) (fault : AdmitFault) → IsTold a cause fault → IsToldAs a cause (fault_of_admission fault)
told-as a (evict.Memory v) (admit.Memory done) t = t
told-as a (evict.Weight v) (admit.Weight done) t = t
told-as a (evict.Length v) (admit.Length done) t = t
told-as a (evict.NumbersSpent v) (admit.NumbersSpent done) t = t
told-as a _ _ t = absurd t

-- what is taken back is reported by the finish
pub taken-back-as : {S : Type 0} (rules : Rules S) (kind : MissFinishType) (e : CacheEntryKey) (fault : AdmitFault) (old new : Cache S) → IsTakenBack rules IsTold kind e fault old new
    → IsTakenBack rules IsToldAs kind e (fault_of_admission fault) old new
taken-back-as rules kind e fault old new t =
    record { cause = t.cause; left = t.left; purged = t.purged; stops = t.stops; purges = t.purges; removes = t.removes; managed = t.managed; told = told-as _ t.cause fault t.told }

-- the bytes of a write in flight that is finished are those of its body
length-of : (o : Option (Flying CacheMeta)) (x : Stored CacheMeta) → option_map (λ f. f.stored) o ≡ Some x → unwrap_or (option_map (λ f. length f.stored.bytes) o) 0 ≡ length x.bytes
length-of None x e = absurd cc
length-of (Some f) x e = let is : f.stored ≡ x = cc in ap (λ (y : Stored CacheMeta). length y.bytes) is

module _ {S M : Type 0} (held : S → StoreState) (ids : S → StoredKey → Option CacheEntryId) (number : M → ℕ) (id : M → Option CacheEntryId) (told : Stored CacheMeta → MissFinishType) (m : M) (kind : MissFinishType) (size : ℕ) (old new : S) where
  -- what a finish answers with its length before
  pub stored-as : MissAnswer number told (key_alive held ids number id m old) (number m) (held old) (Ok kind) (held new)
      → IsGiven (key_alive held ids number id m old) (id m) (ids old) (ids new)
      → size ≡ unwrap_or (option_map (λ f. length f.stored.bytes) (flying_at (number m) (held old).store)) 0
      → IsStored held ids number id told m kind size old new
  stored-as answer given sized = by_key (key_alive held ids number id m old) refl answer
    where
      by_key : (k : Option StoredKey) → key_alive held ids number id m old ≡ k → MissAnswer number told k (number m) (held old) (Ok kind) (held new) → IsStored held ids number id told m kind size old new
      by_key None e a = absurd (let never = a.0 in cc)
      by_key (Some k) e a = record {
        alive = ap is_some e;
        body = a.0;
        told_so = a.1;
        sized = sized ∙ length-of (flying_at (number m) (held old).store) a.0 a.2.shown;
        finished = a.2;
        given = given;
      }
