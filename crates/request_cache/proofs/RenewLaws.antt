-- The steps of a revalidation, put together.
use Rattle.std.proofs.Common.{◌≡◌, ℕ, refl, ap, sym, ◌∙◌, subst, Bool, true, false, cond, List, [], Option, Some, None, inl, inr}
use Rattle.std.specs.Prelude.{is_some, Result, Ok, Err, Vec}
use Rattle.std.specs.declared.alloc.Global.{Global}
use Rattle.rand_core.specs.Stream.{Stream}
use Rattle.cache_heads.specs.declared.meta.CacheMeta.{CacheMeta}
use Rattle.head_metas.specs.Internal.{IsWritable}
use Rattle.cache_entries.specs.declared.entry.CacheEntryKey.{CacheEntryKey}
use Rattle.cache_changes.specs.Changes.{StoredKey}
use Rattle.cache_changes.specs.Store.{Stored}
use Rattle.cache_evict.specs.declared.fault.EvictFault.{EvictFault}
use Rattle.cache_evict.specs.declared.fault.EvictFault.TheVariants as evict
use Rattle.cache_evict.specs.Faults.{IsPutRefused, evicted_of}
use Rattle.cache_evict.specs.Managed.{Managed, weighed_anew, Fits}
use Rattle.request_store.specs.Admissions.{Rules, Cache, cache_of, IsDone, IsWithoutFile}
use Rattle.cache_store.specs.declared.storage.StoreFault.{StoreFault}
use Rattle.cache_store.specs.declared.storage.StoreFault.TheVariants as store
use Rattle.cache_store.specs.Renewals.{IsRenewed, PrepareAnswer, stored_with}
use Rattle.request_cache.specs.declared.renew.RevalidateFault.{RevalidateFault}
use Rattle.request_cache.specs.declared.renew.RevalidateFault.TheVariants.{NoMeta, MetaMoment, Memory, Weight, Length, NumbersSpent}
use Rattle.request_cache.specs.Revalidations.{wanted, is_confirmed, IsOutOfMemory, IsUnweighed, SettleAnswer, IsKeptOut, RevalidateAnswer}
use Rattle.request_cache.specs.Renews.{IsUnprepared, IsToldOf, ReweighAnswer, RenewAnswer}

-- ---- faults of the order of use

pub without_file : (n : ℕ) (e : CacheEntryKey) (w : ℕ) (m : Managed) (fault : EvictFault) → IsPutRefused n e w m fault → IsWithoutFile fault
without_file n e w m (evict.Memory v) p = tt
without_file n e w m (evict.Weight v) p = tt
without_file n e w m (evict.Length v) p = tt
without_file n e w m (evict.NumbersSpent v) p = tt
without_file n e w m (evict.File v) p = p

-- an entry that isn't weighed anew, as that is told
pub unweighed : (n : ℕ) (e : CacheEntryKey) (w : ℕ) (m : Managed) (cause : EvictFault) (fault : RevalidateFault) → IsPutRefused n e w m cause → evicted_of cause ≡ [] → IsToldOf cause fault → IsUnweighed n e w m fault
unweighed n e w m (evict.Memory v) (Memory done) p none t = (p, subst (λ (es : List CacheEntryKey). IsDone false false es done) none t)
unweighed n e w m (evict.Weight v) (Weight done) p none t = (p, subst (λ (es : List CacheEntryKey). IsDone false false es done) none t)
unweighed n e w m (evict.Length v) (Length done) p none t = (p, subst (λ (es : List CacheEntryKey). IsDone false false es done) none t)
unweighed n e w m (evict.NumbersSpent v) (NumbersSpent done) p none t = (p, subst (λ (es : List CacheEntryKey). IsDone false false es done) none t)
unweighed n e w m _ _ p none t = absurd t

-- once it was renewed it is, whatever comes of the evictions
pub settled_confirmed : {S : Type 0} (rules : Rules S) (o : Option CacheEntryKey) (r : Result (Vec CacheEntryKey Global) RevalidateFault) (old new : Cache S) → SettleAnswer rules o r old new → is_confirmed r ≡ true
settled_confirmed rules o (Ok evicted) old new a = refl
settled_confirmed rules (Some e) (Err (Memory done)) old new a = a.told.stored
settled_confirmed rules None (Err fault) old new a = absurd a
settled_confirmed rules (Some e) (Err _) old new a = absurd a

-- ---- the body and its entry

module _ {S N : Type 0} (rules : Rules S) (key_in : N → StoredKey) (meta_in : N → CacheMeta) (weigh : Stored CacheMeta → ℕ) (key : StoredKey) (e : CacheEntryKey) (evicts : Bool) (meta : CacheMeta) where
  abbrev Renews : Option (Stored CacheMeta) → Result (Option CacheEntryKey) RevalidateFault → Cache S → Cache S → Type 0
  Renews o r old new = RenewAnswer rules weigh key e evicts meta o r old new

  abbrev KeptOut : Stored CacheMeta → RevalidateFault → Managed → Type 0
  KeptOut x fault m = IsKeptOut rules weigh key e evicts meta x fault m

  out-of-memory : (x : Stored CacheMeta) (fault : RevalidateFault) (m : Managed) → IsWritable meta.internal → IsOutOfMemory fault → KeptOut x fault m
  out-of-memory x (Memory done) m moments out = (moments, inl out)
  out-of-memory x _ m moments out = absurd out

  kept-out : (x : Stored CacheMeta) (fault : RevalidateFault) (m : Managed) → IsWritable meta.internal → evicts ≡ true → IsUnweighed rules.shards e (rules.weighed (weigh (stored_with (λ _. meta) x))) m fault → KeptOut x fault m
  kept-out x (Memory done) m moments on u = (moments, inr (on, u))
  kept-out x (Weight done) m moments on u = (moments, inr (on, u))
  kept-out x (Length done) m moments on u = (moments, inr (on, u))
  kept-out x (NumbersSpent done) m moments on u = (moments, inr (on, u))
  kept-out x NoMeta m moments on u = absurd u
  kept-out x MetaMoment m moments on u = absurd u

  -- the meta isn't made ready
  pub unready : (o : Option (Stored CacheMeta)) (f : StoreFault) (fault : RevalidateFault) (c : Cache S) → PrepareAnswer key_in meta_in weigh o key meta (Err f) → IsUnprepared f fault → Renews o (Err fault) c c
  unready None f fault c a t = let is : f ≡ store.NoMeta = cc in (ap (λ (g : RevalidateFault). err g) (subst (λ (g : StoreFault). IsUnprepared g fault) is t), refl)
    where
      err : RevalidateFault → Result (Option CacheEntryKey) RevalidateFault
      err g = Err g
  unready (Some x) f fault c (inl moment) t =
      (subst (λ (g : RevalidateFault). KeptOut x g c.managed) (sym (subst (λ (g : StoreFault). IsUnprepared g fault) moment.0 t)) moment.1, refl)
  unready (Some x) f fault c (inr memory) t = (out-of-memory x fault c.managed memory.1 (subst (λ (g : StoreFault). IsUnprepared g fault) memory.0 t), refl)

  module _ (new : N) (size : ℕ) where
    -- there is no memory for the entry
    pub no-entry : (o : Option (Stored CacheMeta)) (fault : RevalidateFault) (c : Cache S) → PrepareAnswer key_in meta_in weigh o key meta (Ok (new, size)) → IsOutOfMemory fault → Renews o (Err fault) c c
    no-entry None fault c a out = absurd (let never = a in cc)
    no-entry (Some x) fault c a out = (out-of-memory x fault c.managed a.moments out, refl)

    -- the entry isn't weighed anew
    pub not-weighed : (o : Option (Stored CacheMeta)) (entry : Option CacheEntryKey) (fault : RevalidateFault) (s : S) (old left : Managed) (words : Stream) → PrepareAnswer key_in meta_in weigh o key meta (Ok (new, size))
        → entry ≡ wanted evicts e → ReweighAnswer rules.shards entry (rules.weighed size) old (Err fault) left → Renews o (Err fault) (cache_of s old words) (cache_of s left words)
    not-weighed None entry fault s old left words a is r = absurd (let never = a in cc)
    not-weighed (Some x) entry fault s old left words a is r = by_use evicts refl (subst (λ (o : Option CacheEntryKey). ReweighAnswer rules.shards o (rules.weighed size) old (Err fault) left) is r)
      where
        by_use : (on : Bool) → evicts ≡ on → ReweighAnswer rules.shards (wanted on e) (rules.weighed size) old (Err fault) left → Renews (Some x) (Err fault) (cache_of s old words) (cache_of s left words)
        by_use false off r = absurd (let never = r.0 in cc)
        by_use true on r =
            (kept-out x fault old a.moments on (subst (λ (w : ℕ). IsUnweighed rules.shards e (rules.weighed w) old fault) a.weight r.0), ap (λ (m : Managed). cache_of s m words) r.1)

    -- the body has the meta, and the entry its weight
    pub renewed : (o : Option (Stored CacheMeta)) (entry : Option CacheEntryKey) (s t : S) (old left : Managed) (words : Stream) → PrepareAnswer key_in meta_in weigh o key meta (Ok (new, size))
        → entry ≡ wanted evicts e → ReweighAnswer rules.shards entry (rules.weighed size) old (Ok tt) left → IsRenewed (key_in new) (λ _. meta_in new) (rules.held s) (rules.held t) → rules.ids t ≡ rules.ids s
        → Renews o (Ok entry) (cache_of s old words) (cache_of t left words)
    renewed None entry s t old left words a is r store ids = absurd (let never = a in cc)
    renewed (Some x) entry s t old left words a is r store ids = (
      is,
      record {
        moments = a.moments;
        store = subst (λ (m : CacheMeta). IsRenewed key (λ _. m) (rules.held s) (rules.held t)) a.meta (subst (λ (k : StoredKey). IsRenewed k (λ _. meta_in new) (rules.held s) (rules.held t)) a.key store);
        ids = ids;
        managed = (by_use evicts by_is).0;
        fits = (by_use evicts by_is).1;
        words = refl;
      },
    )
      where
        by_is : ReweighAnswer rules.shards (wanted evicts e) (rules.weighed size) old (Ok tt) left
        by_is = subst (λ (o : Option CacheEntryKey). ReweighAnswer rules.shards o (rules.weighed size) old (Ok tt) left) is r

        by_use : (on : Bool) → ReweighAnswer rules.shards (wanted on e) (rules.weighed size) old (Ok tt) left
            → (left ≡ cond on (weighed_anew rules.shards e (rules.weighed (weigh (stored_with (λ _. meta) x))) old) old) × (on ≡ true → Fits rules.shards left)
        by_use false r = (r.1, λ on. absurd cc)
        by_use true r = (r.0 ∙ ap (λ (w : ℕ). weighed_anew rules.shards e (rules.weighed w) old) a.weight, λ on. r.1)

-- ---- the whole

module _ {S : Type 0} (rules : Rules S) (weigh : Stored CacheMeta → ℕ) (key : StoredKey) (e : CacheEntryKey) (evicts : Bool) (meta : CacheMeta) (old mid : Cache S) where
  abbrev Renews' : Option (Stored CacheMeta) → Result (Option CacheEntryKey) RevalidateFault → Type 0
  Renews' o r = RenewAnswer rules weigh key e evicts meta o r old mid

  -- what was renewed fits
  pub fits_then : (o : Option (Stored CacheMeta)) (entry : Option CacheEntryKey) → Renews' o (Ok entry) → is_some entry ≡ true → Fits rules.shards mid.managed
  fits_then None entry a there = absurd (let never = a.0 in cc)
  fits_then (Some x) entry a there = a.1.fits (by_use evicts (sym (ap is_some a.0) ∙ there))
    where
      by_use : (on : Bool) → is_some (wanted on e) ≡ true → on ≡ true
      by_use true e = refl
      by_use false e = absurd cc

  -- and then others go
  pub then_settled : (o : Option (Stored CacheMeta)) (entry : Option CacheEntryKey) (r : Result (Vec CacheEntryKey Global) RevalidateFault) (new : Cache S) → Renews' o (Ok entry) → SettleAnswer rules entry r mid new
      → RevalidateAnswer rules weigh key e evicts meta o r old new
  then_settled None entry r new a s = absurd (let never = a.0 in cc)
  then_settled (Some x) entry r new a s = inl (mid, a.1, subst (λ (o : Option CacheEntryKey). SettleAnswer rules o r mid new) a.0 s)

  -- or nothing was done
  pub refused_then : (o : Option (Stored CacheMeta)) (fault : RevalidateFault) → Renews' o (Err fault) → RevalidateAnswer rules weigh key e evicts meta o (Err fault) old mid
  refused_then None fault a = (let is : fault ≡ NoMeta = (let e = a.0 in cc) in ap (λ (g : RevalidateFault). err g) is, a.1)
    where
      err : RevalidateFault → Result (Vec CacheEntryKey Global) RevalidateFault
      err g = Err g
  refused_then (Some x) fault a = inr (fault, refl, a.0, a.1)

-- the same, of the same key, entry, manager and meta
module _ {S : Type 0} (rules : Rules S) (weigh : Stored CacheMeta → ℕ) (bodies : StoredKey → Option (Stored CacheMeta)) (old : Cache S) where
  abbrev Answers : StoredKey → CacheEntryKey → Bool → CacheMeta → Result (Vec CacheEntryKey Global) RevalidateFault → Cache S → Type 0
  Answers k e on m r new = RevalidateAnswer rules weigh k e on m (bodies k) r old new

  pub revalidated_as : (k k' : StoredKey) (e e' : CacheEntryKey) (on on' : Bool) (m m' : CacheMeta) (r : Result (Vec CacheEntryKey Global) RevalidateFault) (new : Cache S)
      → k ≡ k' → e ≡ e' → on ≡ on' → m ≡ m' → Answers k e on m r new → Answers k' e' on' m' r new
  revalidated_as k k' e e' on on' m m' r new pk pe po pm a =
      subst (λ (x : StoredKey). Answers x e' on' m' r new) pk
      (subst (λ (x : CacheEntryKey). Answers k x on' m' r new) pe
      (subst (λ (x : Bool). Answers k e x m' r new) po
      (subst (λ (x : CacheMeta). Answers k e on x r new) pm a)))
