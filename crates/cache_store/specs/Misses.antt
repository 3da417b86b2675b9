-- What writers are answered.
use Rattle.std.specs.Prelude.{◌≡◌, ℕ, ◌+◌, ⊤, Bool, true, false, List, Option, Some, None, Result, Err, MatchResult}
use Rattle.cache_heads.specs.declared.meta.CacheMeta.{CacheMeta}
use Rattle.head_metas.specs.Internal.{IsWritable}
use Rattle.cache_entries.specs.declared.entry.CacheEntryId.{CacheEntryId}
use Rattle.cache_changes.specs.Changes.{StoredKey, begins}
use Rattle.cache_changes.specs.Store.{Stored, after, flying_at}
use Rattle.cache_store.specs.declared.storage.MissFinishType.{MissFinishType}
use Rattle.cache_store.specs.declared.storage.store.MissFault.{MissFault}
use Rattle.cache_store.specs.declared.storage.store.MissFault.TheVariants.{Memory, WriteRemoved}
use Rattle.cache_store.specs.declared.storage.StoreFault.{StoreFault}
use Rattle.cache_store.specs.declared.storage.StoreFault.TheVariants.{WriteNumbersSpent}
use Rattle.cache_store.specs.Answers.{left, IsFinished}
use Rattle.cache_store.specs.StoreState.{StoreState}
use Rattle.cache_store.specs.Renewals.{Refused}

-- a write of that key and meta began, with the number that was next
abbrev pub begun : StoredKey → CacheMeta → StoreState → StoreState
begun key meta h = record h { store = after (begins (record { number = h.next; key = key; meta = meta })) h.store; next = h.next + 1 }

-- a write of that key and meta began, whose meta can be written, under a number that no write in flight had
pub record IsBegun (key : StoredKey) (meta : CacheMeta) (n : ℕ) (old new : StoreState) : Type 0 where
  pub number : n ≡ old.next
  pub fresh : flying_at n old.store ≡ None
  pub written : IsWritable meta.internal
  pub begun : new ≡ begun key meta old

-- the answer to a writer's beginning, by whether the numbers are spent: a writer, which names its write by a number; a refusal
-- changes nothing
abbrev pub BeginAnswer : {H : Type 0} → (H → ℕ) → Bool → StoredKey → CacheMeta → StoreState → Result H StoreFault → StoreState → Type 0
BeginAnswer number true key meta old r new = (r ≡ Err WriteNumbersSpent) × (new ≡ old)
BeginAnswer number false key meta old r new = MatchResult r (λ h. IsBegun key meta (number h) old new) (λ f. Refused meta f × (new ≡ old))

-- out of memory, with a writer of that write handed back
abbrev pub IsHandedBack : {H : Type 0} → (H → ℕ) → ℕ → MissFault H → Type 0
IsHandedBack number n (Memory h) = number h ≡ n
IsHandedBack number n WriteRemoved = ⊥

-- a writer that is handed back has the id and the tag that it had
abbrev pub IsAlike : {H : Type 0} → (H → Option CacheEntryId) → (H → Option (List ℕ)) → H → MissFault H → Type 0
IsAlike id tag before (Memory h) = (id h ≡ id before) × (tag h ≡ tag before)
IsAlike id tag before WriteRemoved = ⊤

-- the answer to the end of the write n, by the key of the write where no removal met it: its body is stored, which is reported as
-- its store reports of it, or, out of memory, the writer is handed back and nothing has changed. A write that was removed, or isn't there, is given up
abbrev pub MissAnswer : {H : Type 0} → (H → ℕ) → (Stored CacheMeta → MissFinishType) → Option StoredKey → ℕ → StoreState → Result MissFinishType (MissFault H) → StoreState → Type 0
MissAnswer number told None n old r new = (r ≡ Err WriteRemoved) × (new ≡ left n old)
MissAnswer number told (Some k) n old r new = MatchResult r (λ finish. (x : Stored CacheMeta) × (finish ≡ told x) × IsFinished n x old new) (λ fault. IsHandedBack number n fault × (new ≡ old))
