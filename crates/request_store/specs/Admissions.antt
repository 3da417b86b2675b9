-- How the entry of a stored body is admitted to the order of use, what that evicts, and how a refusal is taken back with the body.
use Rattle.std.specs.Prelude.{◌≡◌, ℕ, Bool, true, false, not, ◌||◌, is_some, List, [], ◌∷◌, Option}
use Rattle.rand_core.specs.Stream.{Stream}
use Rattle.cache_words.specs.Key.{Key}
use Rattle.cache_words.specs.declared.key.CompactCacheKey.{CompactCacheKey}
use Rattle.cache_heads.specs.declared.meta.CacheMeta.{CacheMeta}
use Rattle.cache_entries.specs.declared.entry.CacheEntryId.{CacheEntryId}
use Rattle.cache_entries.specs.declared.entry.CacheEntryKey.{CacheEntryKey}
use Rattle.cache_entries.specs.declared.rows.Tracked.{Tracked}
use Rattle.cache_entries.specs.Entry.{key_of}
use Rattle.cache_entries.specs.Rows.{weight_of}
use Rattle.cache_changes.specs.Changes.{StoredKey, stored_key}
use Rattle.cache_changes.specs.Store as changes
use Rattle.cache_evict.specs.declared.fault.EvictFault.{EvictFault}
use Rattle.cache_evict.specs.declared.fault.EvictFault.TheVariants as evict
use Rattle.cache_evict.specs.Faults.{RunsOut, StopsAt, evicted_of}
use Rattle.cache_evict.specs.Managed.{Managed, Evicts, put_first, weight_after, taken_out, rows_of, is_over, Fits}
use Rattle.cache_store.specs.declared.storage.PurgeType.{PurgeType}
use Rattle.cache_store.specs.declared.storage.MissFinishType.{MissFinishType}
use Rattle.cache_store.specs.declared.storage.MissFinishType.TheVariants.{Created, Appended}
use Rattle.cache_store.specs.StoreState.{StoreState}
use Rattle.request_store.specs.declared.done.Done.{Done}
use Rattle.request_store.specs.declared.done.AdmitFault.{AdmitFault}
use Rattle.request_store.specs.declared.done.AdmitFault.TheVariants.{Weight, Length, NumbersSpent, Memory}
use Rattle.request_store.specs.Stored.{Purged, Removed}

-- what is known of a store and of a manager of entries by their traits
pub record Rules (S : Type 0) : Type 1 where
  pub held : S → StoreState
  pub ids : S → StoredKey → Option CacheEntryId
  pub purged_as : S → PurgeType → S → Type 0
  pub is_spent : StoreState → Bool
  pub told : changes.Stored CacheMeta → MissFinishType
  pub shards : ℕ
  pub weighed : ℕ → ℕ
  pub pick : List (List Tracked) → Stream → ℕ × Stream

-- a store, the order of use, and the words that a generator has yet to give
pub record Cache (S : Type 0) : Type 0 where
  pub store : S
  pub managed : Managed
  pub words : Stream

abbrev pub rules_of : {S : Type 0} → (S → StoreState) → (S → StoredKey → Option CacheEntryId) → (S → PurgeType → S → Type 0) → (StoreState → Bool) → (changes.Stored CacheMeta → MissFinishType) → ℕ → (ℕ → ℕ) → (List (List Tracked) → Stream → ℕ × Stream) → Rules S
rules_of held ids purged_as is_spent told shards weighed pick =
    record { held = held; ids = ids; purged_as = purged_as; is_spent = is_spent; told = told; shards = shards; weighed = weighed; pick = pick }

abbrev pub cache_of : {S : Type 0} → S → Managed → Stream → Cache S
cache_of store managed words = record { store = store; managed = managed; words = words }

-- a key as a cache keeps it
abbrev pub compact : Key → CompactCacheKey
compact k = record { primary = k.primary; variance = k.variance; user_tag = k.user_tag }

-- the weight of an entry in n shards once a finish is reported to it: what the manager makes of the store's number, or where something was
-- added to the body that much more than it weighed
abbrev pub weight_then : ℕ → (ℕ → ℕ) → MissFinishType → CacheEntryKey → Managed → ℕ
weight_then n weighed (Created weight) e m = weighed weight
weight_then n weighed (Appended delta cap) e m = weight_after n e delta cap m

abbrev pub is_empty : {A : Type 0} → List A → Bool
is_empty [] = true
is_empty (x ∷ xs) = false

-- what was done before a refusal
pub record IsDone (is_stored is_admitted : Bool) (gone : List CacheEntryKey) (done : Done) : Type 0 where
  pub stored : done.stored ≡ is_stored
  pub admitted : done.admitted ≡ is_admitted
  pub evicted : done.evicted.items ≡ gone

-- a fault of the order of use, which came after a body was stored, is reported as this
abbrev pub IsTold : Bool → EvictFault → AdmitFault → Type 0
IsTold admitted (evict.Memory v) (Memory done) = IsDone true admitted v.items done
IsTold admitted (evict.Weight v) (Weight done) = IsDone true admitted v.items done
IsTold admitted (evict.Length v) (Length done) = IsDone true admitted v.items done
IsTold admitted (evict.NumbersSpent v) (NumbersSpent done) = IsDone true admitted v.items done
IsTold admitted _ _ = ⊥

-- whether an entry was admitted before a fault that left this order of use, of n shards
abbrev pub was_admitted : ℕ → CacheEntryKey → EvictFault → Managed → Bool
was_admitted n e (evict.Memory v) m = not (is_empty v.items) || is_some (weight_of e (rows_of n e m))
was_admitted n e _ m = false

-- no file is at fault
abbrev pub IsWithoutFile : EvictFault → Type 0
IsWithoutFile (evict.File v) = ⊥
IsWithoutFile _ = Unit {0}

module _ {S : Type 0} (rules : Rules S) where
  -- the order of use with that entry first, as a finish reports it
  abbrev pub followed : MissFinishType → CacheEntryKey → Managed → Managed
  followed finish e m = put_first rules.shards e (weight_then rules.shards rules.weighed finish e m) m

  -- from that order of use these were evicted, until neither limit was passed, and what is stored of them was purged
  pub record IsSettled (start : Managed) (evicted : List CacheEntryKey) (old new : Cache S) : Type 0 where
    pub evicts : Evicts rules.pick start evicted old.words new.managed new.words
    pub within : is_over new.managed ≡ false
    pub fits : Fits rules.shards start
    pub purged : Purged rules.held rules.ids rules.purged_as evicted old.store new.store

  -- an entry was admitted as its finish reports, these were evicted, and what is stored of them was purged
  abbrev pub IsAdmitted : MissFinishType → CacheEntryKey → List CacheEntryKey → Cache S → Cache S → Type 0
  IsAdmitted finish e evicted old new = IsSettled (followed finish e old.managed) evicted old new

  -- the order of use stopped with a fault, which left it and the words so: what was evicted until then is purged, and then what
  -- is stored under the entry's key is removed with the entry. `stopped` says how, `tells` how that is reported
  pub record TakesBack {F : Type 0} (stopped : EvictFault → Managed → Stream → Type 0) (tells : EvictFault → Managed → F → Type 0) (e : CacheEntryKey) (fault : F) (old new : Cache S) : Type 0 where
    pub cause : EvictFault
    pub left : Managed
    pub purged : S
    pub stops : stopped cause left new.words
    pub purges : Purged rules.held rules.ids rules.purged_as (evicted_of cause) old.store purged
    pub removes : Removed rules.held rules.ids rules.purged_as (stored_key (key_of e)) purged new.store
    pub managed : new.managed ≡ taken_out rules.shards e left
    pub told : tells cause left fault

  -- an entry was not admitted, or memory ran out in the evictions: it is taken back
  abbrev pub IsTakenBack : {F : Type 0} → (Bool → EvictFault → F → Type 0) → MissFinishType → CacheEntryKey → F → Cache S → Cache S → Type 0
  IsTakenBack tells finish e fault old new =
      TakesBack (StopsAt rules.pick rules.shards e (weight_then rules.shards rules.weighed finish e old.managed) old.managed old.words)
      (λ cause left. tells (was_admitted rules.shards e cause left) cause) e fault old new

  -- memory ran out in the evictions from an order of use that has the entry: it is taken back
  abbrev pub IsUnsettled : CacheEntryKey → Done → Cache S → Cache S → Type 0
  IsUnsettled e done old new =
      TakesBack (λ cause left words. RunsOut rules.pick old.managed old.words cause left words × Fits rules.shards old.managed)
      (λ cause left. IsDone true true (evicted_of cause)) e done old new
