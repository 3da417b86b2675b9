-- What gives a body another meta.
use Rattle.std.specs.Prelude.{◌≡◌, ℕ, cond, Option, Some, None, option_map, is_some, Result, Err, MatchResult, if◌then◌else◌, ◌⊎◌}
use Rattle.cache_words.specs.Time.{MomentValue}
use Rattle.cache_entries.specs.Keys.{same_bytes}
use Rattle.cache_entries.specs.declared.entry.CacheEntryId.{CacheEntryId}
use Rattle.cache_heads.specs.Fresh.{earlier_of}
use Rattle.cache_heads.specs.declared.meta.CacheMeta.{CacheMeta}
use Rattle.cache_changes.specs.Changes.{StoredKey}
use Rattle.cache_changes.specs.Store.{Stored, body_at}
use Rattle.cache_store.specs.declared.storage.PurgeOutcome.{PurgeOutcome}
use Rattle.cache_store.specs.declared.storage.PurgeOutcome.TheVariants.{NotFound, Expired}
use Rattle.head_metas.specs.Internal.{IsWritable}
use Rattle.cache_store.specs.declared.storage.StoreFault.{StoreFault}
use Rattle.cache_store.specs.declared.storage.StoreFault.TheVariants.{Memory, NoMeta, MetaMoment}
use Rattle.cache_store.specs.StoreState.{StoreState}
use Rattle.cache_store.specs.Purges.{PurgeAnswer}

-- fresh until that moment at most
abbrev pub expired : MomentValue → CacheMeta → CacheMeta
expired moment m = record m { internal = record m.internal { fresh_until = earlier_of m.internal.fresh_until moment } }

-- a body with its meta changed
abbrev pub stored_with : (CacheMeta → CacheMeta) → Stored CacheMeta → Stored CacheMeta
stored_with change x = record x { write = record x.write { meta = change x.meta }; meta = change x.meta }

-- the body of a key has its meta changed, if there is one, and nothing else changed
pub record IsRenewed (key : StoredKey) (change : CacheMeta → CacheMeta) (old new : StoreState) : Type 0 where
  pub bodies : (k : StoredKey) → body_at k new.store ≡ cond (same_bytes key k) (option_map (stored_with change) (body_at key old.store)) (body_at k old.store)
  pub flying : new.store.flying ≡ old.store.flying
  pub next : new.next ≡ old.next
  pub readings : new.readings ≡ old.readings

-- the body of the target's key goes stale, where there is one
abbrev pub ExpireAnswer : Option StoredKey → MomentValue → StoreState → PurgeOutcome → StoreState → Type 0
ExpireAnswer None moment old outcome new = (outcome ≡ NotFound) × (new ≡ old)
ExpireAnswer (Some k) moment old outcome new = (outcome ≡ (if is_some (body_at k old.store) then Expired else NotFound)) × IsRenewed k (expired moment) old new

-- what is stored of the target goes stale; a store in which nothing goes stale removes it, as no longer valid
abbrev pub StaleAnswer : Option StoredKey → Option CacheEntryId → MomentValue → Type 0 → StoreState → PurgeOutcome → StoreState → Type 0
StaleAnswer key id moment invalidates old outcome new = ExpireAnswer key moment old outcome new ⊎ (PurgeAnswer key id old outcome new × invalidates)

-- a meta that can't be written is refused as that, and another where there is no memory for it
abbrev pub Refused : CacheMeta → StoreFault → Type 0
Refused meta f = ((f ≡ MetaMoment) × (IsWritable meta.internal → ⊥)) ⊎ ((f ≡ Memory) × IsWritable meta.internal)

-- the body of a key gets another meta, where there is a body, the meta can be written and there is memory
abbrev pub UpdateAnswer : Option (Stored CacheMeta) → StoredKey → CacheMeta → StoreState → Result (Unit {0}) StoreFault → StoreState → Type 0
UpdateAnswer None key meta old r new = (r ≡ Err NoMeta) × (new ≡ old)
UpdateAnswer (Some x) key meta old r new = MatchResult r (λ _. IsWritable meta.internal × IsRenewed key (λ _. meta) old new) (λ f. Refused meta f × (new ≡ old))

-- a meta was made ready for the body of a key, where there is a body, the meta can be written and there is memory; it comes with what the body
-- weighs with that meta
pub record IsPrepared {N : Type 0} (key_in : N → StoredKey) (meta_in : N → CacheMeta) (weigh : Stored CacheMeta → ℕ) (x : Stored CacheMeta) (k : StoredKey) (m : CacheMeta) (new : N) (w : ℕ) : Type 0 where
  pub key : key_in new ≡ k
  pub meta : meta_in new ≡ m
  pub moments : IsWritable m.internal
  pub weight : w ≡ weigh (stored_with (λ _. m) x)

abbrev pub PrepareAnswer : {N : Type 0} → (N → StoredKey) → (N → CacheMeta) → (Stored CacheMeta → ℕ) → Option (Stored CacheMeta) → StoredKey → CacheMeta → Result (N × ℕ) StoreFault → Type 0
PrepareAnswer key_in meta_in weigh None key meta r = r ≡ Err NoMeta
PrepareAnswer key_in meta_in weigh (Some x) key meta r = MatchResult r (λ p. IsPrepared key_in meta_in weigh x key meta p.0 p.1) (Refused meta)
