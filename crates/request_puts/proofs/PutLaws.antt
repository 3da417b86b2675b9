-- What comes of a put, by what its steps gave.
use Rattle.std.proofs.Common.{◌≡◌, ℕ, refl, ap, sym, ◌∙◌, subst, inl, inr, length, List}
use Rattle.std.specs.Prelude.{Bool, Option, Some, option_map, Result, Ok, Err}
use Rattle.std.specs.Global.{Vec}
use Rattle.rand_core.specs.Stream.{Stream}
use Rattle.cache_words.specs.Key.{Key, combined}
use Rattle.cache_words.specs.CompactKey.{compact_view}
use Rattle.cache_words.specs.declared.key.CompactCacheKey.{CompactCacheKey}
use Rattle.cache_heads.specs.declared.meta.CacheMeta.{CacheMeta}
use Rattle.cache_entries.specs.declared.entry.CacheEntryId.{CacheEntryId}
use Rattle.cache_entries.specs.declared.entry.CacheEntryKey.{CacheEntryKey}
use Rattle.cache_entries.specs.Entry.{entry_with, number_of}
use Rattle.cache_evict.specs.Managed.{Managed}
use Rattle.cache_store.specs.declared.storage.StoreFault.{StoreFault}
use Rattle.cache_store.specs.declared.storage.StoreFault.TheVariants as store_fault
use Rattle.request_puts.specs.declared.put.whole.ResponseVerdict.{ResponseVerdict}
use Rattle.request_puts.specs.declared.put.outcome.PutOutcome.{PutOutcome}
use Rattle.request_puts.specs.declared.put.outcome.PutOutcome.TheVariants.{Stored}
use Rattle.request_puts.specs.declared.put.outcome.PutFault.{PutFault}
use Rattle.cache_store.specs.declared.storage.MissFinishType.{MissFinishType}
use Rattle.cache_store.specs.Ids.{IsGiven}
use Rattle.cache_store.specs.Wholes.{Stores, IsWriteFault, whole_of}
use Rattle.cache_evict.specs.declared.fault.EvictFault.{EvictFault}
use Rattle.cache_evict.specs.declared.fault.EvictFault.TheVariants as evict
use Rattle.request_store.specs.declared.done.AdmitFault.{AdmitFault}
use Rattle.request_store.specs.declared.done.AdmitFault.TheVariants as admit
use Rattle.request_store.specs.Admissions.{Rules, Cache, cache_of, compact, IsAdmitted}
use Rattle.request_store.specs.Admissions as admissions
use Rattle.request_puts.specs.Put.{IsStoreFaultTold, IsTold, fault_of_admission, IsTakenBack, IsPut, IsOutcome, Puts}

pub entry-of : (c : CompactCacheKey) (k : Key) (id : Option ℕ) (e : CacheEntryKey) → compact_view c ≡ k → e ≡ entry_with c id → e ≡ entry_with (compact k) id
entry-of c k id e same made = made ∙ ap (λ (k : Key). entry_with (compact k) id) same

-- a fault of the admission is reported as one of the put
told-as-put : (a : Bool) (cause : EvictFault) (fault : AdmitFault) → admissions.IsTold a cause fault → IsTold a cause (fault_of_admission fault)
told-as-put a (evict.Memory v) (admit.Memory done) t = t
told-as-put a (evict.Weight v) (admit.Weight done) t = t
told-as-put a (evict.Length v) (admit.Length done) t = t
told-as-put a (evict.NumbersSpent v) (admit.NumbersSpent done) t = t
told-as-put a _ _ t = absurd t

pub taken-back-as-put : {S : Type 0} (rules : Rules S) (finish : MissFinishType) (e : CacheEntryKey) (fault : AdmitFault) (old new : Cache S) → admissions.IsTakenBack rules admissions.IsTold finish e fault old new
    → IsTakenBack rules finish e (fault_of_admission fault) old new
taken-back-as-put rules finish e fault old new t =
    record { cause = t.cause; left = t.left; purged = t.purged; stops = t.stops; purges = t.purges; removes = t.removes; managed = t.managed; told = told-as-put _ t.cause fault t.told }

module _ {S : Type 0} (rules : Rules S) (key : Key) where
  pub puts-of : (gives : ResponseVerdict → Type 0) (w : ResponseVerdict) (r : Result PutOutcome PutFault) (old new : Cache S) → gives w → IsOutcome rules key w r old new
      → Puts rules key gives r old new
  puts-of gives w r old new g p = inr (w, g, p)

  module _ (meta : CacheMeta) (body : List ℕ) (s0 s1 : S) (m0 : Managed) (w0 : Stream) where
    -- the store took no write
    pub refused : (fault : StoreFault) (told : PutFault) → IsWriteFault (rules.is_spent (rules.held s0)) meta fault (rules.held s0) (rules.held s1) → IsStoreFaultTold fault told
        → IsPut rules key meta body (Err told) (cache_of s0 m0 w0) (cache_of s1 m0 w0)
    refused store_fault.WriteNumbersSpent told p e =
        let P : PutFault → Type 0 = λ f. IsPut rules key meta body (Err f) (cache_of s0 m0 w0) (cache_of s1 m0 w0) in
        subst P (sym e) (inr (inl (p.0, record { store = p.1; managed = refl; words = refl })))
    refused store_fault.MetaMoment told p e =
        let P : PutFault → Type 0 = λ f. IsPut rules key meta body (Err f) (cache_of s0 m0 w0) (cache_of s1 m0 w0) in
        subst P (sym e) (inr (inl (p.0, p.1, record { store = p.2; managed = refl; words = refl })))
    refused store_fault.Memory told p t = inl (record { told = t; left = p.0; written = p.1; store = p.2; managed = refl; words = refl })
    refused store_fault.WriteRemoved told p t = absurd p
    refused store_fault.AfterEnd told p t = absurd p
    refused store_fault.SeekRange told p t = absurd p
    refused store_fault.NoMeta told p t = absurd p

    module _ (id : Option CacheEntryId) (finish : MissFinishType) (e : CacheEntryKey) (size : ℕ) (s2 : S) (m2 : Managed) (w2 : Stream) where
      abbrev Given : Type 0
      Given = IsGiven (Some (combined key)) id (rules.ids s0) (rules.ids s1) × (finish ≡ rules.told (whole_of (combined key) meta body (rules.held s0)))

      -- what comes of the entry comes of the one with the id that is stored
      of-entry : (P : MissFinishType → CacheEntryKey → Cache S → Type 0) → Given → e ≡ entry_with (compact key) (option_map number_of id) → P finish e (cache_of s1 m0 w0)
          → P (rules.told (whole_of (combined key) meta body (rules.held s0))) (entry_with (compact key) (option_map number_of (rules.ids s1 (combined key)))) (cache_of s1 m0 w0)
      of-entry P given same p =
          let now : e ≡ entry_with (compact key) (option_map number_of (rules.ids s1 (combined key))) = same ∙ ap (λ (i : Option CacheEntryId). entry_with (compact key) (option_map number_of i)) (sym (given.0.given (combined key) refl)) in
          subst (λ (f : MissFinishType). P f (entry_with (compact key) (option_map number_of (rules.ids s1 (combined key)))) (cache_of s1 m0 w0)) given.1 (subst (λ (x : CacheEntryKey). P finish x (cache_of s1 m0 w0)) now p)

      -- the entry was admitted
      pub admitted : (v : Vec CacheEntryKey) → Given → Stores (rules.is_spent (rules.held s0)) (combined key) meta body (rules.held s0) (rules.held s1) → e ≡ entry_with (compact key) (option_map number_of id) → size ≡ length body
          → IsAdmitted rules finish e v.items (cache_of s1 m0 w0) (cache_of s2 m2 w2)
          → IsPut rules key meta body (Ok (Stored size v)) (cache_of s0 m0 w0) (cache_of s2 m2 w2)
      admitted v given s same sized a = (sized, (s1, given.0.others, s, of-entry (λ f x c. IsAdmitted rules f x v.items c (cache_of s2 m2 w2)) given same a))

      -- it was not, and the body is gone with it
      pub taken-back : (fault : PutFault) → Given → Stores (rules.is_spent (rules.held s0)) (combined key) meta body (rules.held s0) (rules.held s1) → e ≡ entry_with (compact key) (option_map number_of id)
          → IsTakenBack rules finish e fault (cache_of s1 m0 w0) (cache_of s2 m2 w2)
          → IsPut rules key meta body (Err fault) (cache_of s0 m0 w0) (cache_of s2 m2 w2)
      taken-back fault given s same t = inr (inr (s1, given.0.others, s, of-entry (λ f x c. IsTakenBack rules f x fault c (cache_of s2 m2 w2)) given same t))
