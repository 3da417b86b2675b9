-- What becomes of a stale response that upstream confirms.
use Rattle.std.specs.Prelude.{◌≡◌, ℕ, Bool, true, false, ◌⊎◌, if◌then◌else◌, [], Option, Some, None, option_map, Result, Ok, Err, Vec}
use Rattle.std.specs.declared.alloc.Global.{Global}
use Rattle.head_lines.specs.declared.header.ResponseHeader.{ResponseHeader}
use Rattle.cache_heads.specs.declared.meta.CacheMeta.{CacheMeta}
use Rattle.head_metas.specs.Internal.{IsWritable}
use Rattle.cache_entries.specs.declared.entry.CacheEntryId.{CacheEntryId}
use Rattle.cache_entries.specs.declared.entry.CacheEntryKey.{CacheEntryKey}
use Rattle.cache_changes.specs.Changes.{StoredKey}
use Rattle.cache_changes.specs.Store.{Stored}
use Rattle.cache_evict.specs.Managed.{Managed, weighed_anew, Fits, IsHeavy, IsLong, IsFull, HasNoOtherReason}
use Rattle.request_store.specs.Admissions.{Rules, Cache, IsDone, IsSettled, IsUnsettled}
use Rattle.cache_store.specs.Renewals.{IsRenewed, stored_with}
use Rattle.request_phases.specs.declared.phase.CachePhase.TheVariants.{Revalidated}
use Rattle.request_phases.specs.Locks.{let_go}
use Rattle.request_cache.specs.declared.renew.RevalidateFault.{RevalidateFault}
use Rattle.request_cache.specs.declared.renew.RevalidateFault.TheVariants.{NoMeta, MetaMoment, Memory, Weight, Length, NumbersSpent}
use Rattle.request_cache.specs.Request.{Request}

-- a meta with another head
abbrev pub with_head : ResponseHeader → Option CacheMeta → Option CacheMeta
with_head header meta = option_map (λ (m : CacheMeta). record m { header = header }) meta

-- ---- the request

-- the request is Revalidated, with that meta, and holds nothing of the lock
abbrev pub confirmed : {H M : Type 0} → CacheMeta → Request H M → Request H M
confirmed meta r = record r { phase = Revalidated; meta = Some meta; stale_variance = None; lock = let_go r.lock }

-- whether it is so after a fault: where no body can take the meta, and where one took it before memory ran out
abbrev pub is_confirmed_by : RevalidateFault → Bool
is_confirmed_by NoMeta = true
is_confirmed_by MetaMoment = true
is_confirmed_by (Memory done) = done.stored
is_confirmed_by _ = false

abbrev pub is_confirmed : {X : Type 0} → Result X RevalidateFault → Bool
is_confirmed (Ok x) = true
is_confirmed (Err fault) = is_confirmed_by fault

-- the id of what was found, where its reader is still there
abbrev pub id_found : {H : Type 0} → (H → Option CacheEntryId) → Option H → Option CacheEntryId
id_found id None = None
id_found id (Some hit) = id hit

-- ---- the store and the order of use

-- the entry, where the manager is on
abbrev pub wanted : Bool → CacheEntryKey → Option CacheEntryKey
wanted evicts e = if evicts then Some e else None

-- memory ran out before anything was done
abbrev pub IsOutOfMemory : RevalidateFault → Type 0
IsOutOfMemory (Memory done) = IsDone false false [] done
IsOutOfMemory _ = ⊥

-- why the entry e of n shards doesn't get weight w, as it is told: nothing was done. Memory only where nothing else is in the way
abbrev pub IsUnweighed : ℕ → CacheEntryKey → ℕ → Managed → RevalidateFault → Type 0
IsUnweighed n e w m (Weight done) = IsHeavy n e w m × IsDone false false [] done
IsUnweighed n e w m (Length done) = IsLong n e m × IsDone false false [] done
IsUnweighed n e w m (NumbersSpent done) = IsFull n e m × IsDone false false [] done
IsUnweighed n e w m (Memory done) = HasNoOtherReason n e w m × IsDone false false [] done
IsUnweighed n e w m _ = ⊥

-- where an entry was weighed anew, others go until neither limit is passed; where memory runs out for them, it goes with its body
abbrev pub SettleAnswer : {S : Type 0} → Rules S → Option CacheEntryKey → Result (Vec CacheEntryKey Global) RevalidateFault → Cache S → Cache S → Type 0
SettleAnswer rules None (Ok evicted) old new = (evicted.items ≡ []) × (new ≡ old)
SettleAnswer rules (Some e) (Ok evicted) old new = IsSettled rules old.managed evicted.items old new
SettleAnswer rules (Some e) (Err (Memory done)) old new = IsUnsettled rules e done old new
SettleAnswer rules o (Err fault) old new = ⊥

module _ {S : Type 0} (rules : Rules S) (weigh : Stored CacheMeta → ℕ) (key : StoredKey) (e : CacheEntryKey) (evicts : Bool) (meta : CacheMeta) where
  -- what the entry of a body weighs once that has the meta
  abbrev pub weight_then : Stored CacheMeta → ℕ
  weight_then x = rules.weighed (weigh (stored_with (λ _. meta) x))

  -- the body of the key has the meta, and where the manager is on, its entry has its weight with it: in place, where it is tracked
  pub record IsWeighedAnew (x : Stored CacheMeta) (old new : Cache S) : Type 0 where
    pub moments : IsWritable meta.internal
    pub store : IsRenewed key (λ _. meta) (rules.held old.store) (rules.held new.store)
    pub ids : rules.ids new.store ≡ rules.ids old.store
    pub managed : new.managed ≡ (if evicts then weighed_anew rules.shards e (weight_then x) old.managed else old.managed)
    pub fits : evicts ≡ true → Fits rules.shards new.managed
    pub words : new.words ≡ old.words

  -- why nothing was done: the meta can't be written, memory ran out for it or for the entry, or the entry can't weigh that
  abbrev pub IsKeptOut : Stored CacheMeta → RevalidateFault → Managed → Type 0
  IsKeptOut x MetaMoment m = IsWritable meta.internal → ⊥
  IsKeptOut x fault m = IsWritable meta.internal × (IsOutOfMemory fault ⊎ ((evicts ≡ true) × IsUnweighed rules.shards e (weight_then x) m fault))

  -- the answer by the body of the key: the body and its entry are renewed, and then others go; or nothing was done
  abbrev pub RevalidateAnswer : Option (Stored CacheMeta) → Result (Vec CacheEntryKey Global) RevalidateFault → Cache S → Cache S → Type 0
  RevalidateAnswer None r old new = (r ≡ Err NoMeta) × (new ≡ old)
  RevalidateAnswer (Some x) r old new =
      ((mid : Cache S) × IsWeighedAnew x old mid × SettleAnswer rules (wanted evicts e) r mid new)
      ⊎ ((fault : RevalidateFault) × (r ≡ Err fault) × IsKeptOut x fault old.managed × (new ≡ old))
