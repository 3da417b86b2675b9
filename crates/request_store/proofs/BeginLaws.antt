-- How a write begins.
use Rattle.std.proofs.Common.{◌≡◌, ℕ, refl, ap, sym, ◌∙◌, subst, Option, Some, None, true, false, inl, inr}
use Rattle.std.specs.Prelude.{Bool, Result, Ok, Err, is_some, IfSome}
use Rattle.std.proofs.lemmas.Bool.{false≢true}
use Rattle.cache_heads.specs.declared.meta.CacheMeta.{CacheMeta}
use Rattle.cache_changes.specs.Changes.{StoredKey}
use Rattle.cache_changes.specs.Store.{Stored}
use Rattle.cache_entries.specs.declared.entry.CacheEntryId.{CacheEntryId}
use Rattle.cache_store.specs.declared.storage.StoreFault.{StoreFault}
use Rattle.cache_store.specs.Answers.{Look, in_flight, finished, left}
use Rattle.cache_store.specs.StoreState.{StoreState}
use Rattle.cache_store.specs.Looks.{LookAnswer, ReaderAnswer, TagAnswer, asked, reader_found}
use Rattle.cache_store.specs.Misses.{BeginAnswer, IsBegun as HasBegun}
use Rattle.cache_store.specs.Readers.{Reader}
use Rattle.request_store.specs.Begins.{OwnReader, IsBegun, IsLeftAgain, IsNotBegun}

module _ {H M : Type 0} (reader : H → Reader) (number : M → ℕ) (tagged : M → Option ℕ) (streams is_spent : Bool) (key : StoredKey) (meta : CacheMeta) (miss : M) (old mid : StoreState) where
  pub begun-plain : streams ≡ false → BeginAnswer number is_spent key meta old (Ok miss) mid → IsBegun reader number tagged streams is_spent key meta miss None old mid
  begun-plain e b = record {
    mid = mid;
    begun = b;
    read = subst (λ (s : Bool). OwnReader reader number tagged streams is_spent key meta s miss mid None mid) (sym e) (refl, refl);
  }

  pub begun-streaming : (found : CacheMeta) (hit : H) (new : StoreState) → streams ≡ true → BeginAnswer number is_spent key meta old (Ok miss) mid
      → TagAnswer reader (tagged miss) (asked streams key (tagged miss) mid.store) mid (Ok (Some (found, hit))) new → IsBegun reader number tagged streams is_spent key meta miss (Some hit) old new
  begun-streaming found hit new e b a = record {
    mid = mid;
    begun = b;
    read = subst (λ (s : Bool). OwnReader reader number tagged streams is_spent key meta s miss mid (Some hit) new) (sym e) (found, hit, refl, a);
  }

-- what a look-up of a reader alone found is what a look-up found, with some meta
module _ {H : Type 0} (reader : H → Reader) (weight : H → ℕ) (id : H → Option CacheEntryId) (weigh : Stored CacheMeta → ℕ) (stored : Option CacheEntryId) (named : Option ℕ) (look : Option Look) (old new : StoreState) where
  abbrev Answers : Result (Option (CacheMeta × H)) StoreFault → Type 0
  Answers r = TagAnswer reader named look old r new

  abbrev Reads : Result (Option H) StoreFault → Type 0
  Reads r = ReaderAnswer reader weight id weigh stored named look old r new

  pub reader-some : (hit : H) → Reads (Ok (Some hit)) → (meta : CacheMeta) × Answers (Ok (Some (meta, hit)))
  reader-some hit a = by a.0 a.1 a.3
    where
      by : (found : Result (Option (CacheMeta × H)) StoreFault) → Answers found → Ok (Some hit) ≡ reader_found found → (meta : CacheMeta) × Answers (Ok (Some (meta, hit)))
      by (Ok (Some f)) t e = (f.0, subst (λ (h : H). Answers (Ok (Some (f.0, h)))) (let same : f.1 ≡ hit = cc in same) t)
      by (Ok None) t e = absurd cc
      by (Err f) t e = absurd cc

  pub reader-none : Reads (Ok None) → Answers (Ok None)
  reader-none a = by a.0 a.1 a.3
    where
      by : (found : Result (Option (CacheMeta × H)) StoreFault) → Answers found → ◌≡◌ {A = Result (Option H) StoreFault} (Ok None) (reader_found found) → Answers (Ok None)
      by (Ok (Some f)) t e = absurd cc
      by (Ok None) t e = t
      by (Err f) t e = absurd cc

  pub reader-err : (fault : StoreFault) → Reads (Err fault) → Answers (Err fault)
  reader-err fault a = by a.0 a.1 a.3
    where
      by : (found : Result (Option (CacheMeta × H)) StoreFault) → Answers found → ◌≡◌ {A = Result (Option H) StoreFault} (Err fault) (reader_found found) → Answers (Err fault)
      by (Ok (Some f)) t e = absurd cc
      by (Ok None) t e = absurd cc
      by (Err f) t e = subst (λ (x : StoreFault). Answers (Err x)) (let same : f ≡ fault = cc in same) t

-- a look-up that is refused changes nothing
module _ {H : Type 0} (reader : H → Reader) (old new : StoreState) where
  look-refused : (look : Option Look) (fault : StoreFault) → LookAnswer reader look old (Err fault) new → new ≡ old
  look-refused None fault a = a.1
  look-refused (Some (finished x)) fault a = a.1
  look-refused (Some (in_flight x)) fault a = a.1

  tag-refused : (named : Option ℕ) (look : Option Look) (fault : StoreFault) → TagAnswer reader named look old (Err fault) new → new ≡ old
  tag-refused None look fault a = look-refused look fault a
  tag-refused (Some n) None fault a = a.1
  tag-refused (Some n) (Some look) fault a = look-refused (Some look) fault a

  -- one that finds nothing shows nothing
  look-none : (look : Option Look) → LookAnswer reader look old (Ok None) new → is_some look ≡ false
  look-none None a = refl
  look-none (Some (finished x)) a = absurd a.0
  look-none (Some (in_flight x)) a = absurd a.0

  tag-none : (named : Option ℕ) (look : Option Look) → TagAnswer reader named look old (Ok None) new → is_some look ≡ false
  tag-none None look a = look-none look a
  tag-none (Some n) None a = refl
  tag-none (Some n) (Some look) a = look-none (Some look) a

module _ {H M : Type 0} (reader : H → Reader) (number : M → ℕ) (tagged : M → Option ℕ) (streams is_spent : Bool) (key : StoredKey) (meta : CacheMeta) (miss : M) (old mid seen : StoreState) where
  begun-by : (spent : Bool) → BeginAnswer number spent key meta old (Ok miss) mid → HasBegun key meta (number miss) old mid
  begun-by true a = absurd (let e = a.0 in cc)
  begun-by false a = a

  -- the look-up of a write that began finds something
  pub never-none : streams ≡ true → BeginAnswer number is_spent key meta old (Ok miss) mid → IfSome (tagged miss) (λ m. m ≡ number miss)
      → TagAnswer reader (tagged miss) (asked streams key (tagged miss) mid.store) mid (Ok None) seen
      → ((k : StoredKey) (meta : CacheMeta) (n : ℕ) (named : Option ℕ) (old new : StoreState) → HasBegun k meta n old new → IfSome named (λ m. m ≡ n) → is_some (asked true k named new.store) ≡ true) → ⊥
  never-none e b named a law =
      false≢true (sym (tag-none reader mid seen (tagged miss) (asked true key (tagged miss) mid.store) (subst (λ (s : Bool). TagAnswer reader (tagged miss) (asked s key (tagged miss) mid.store) mid (Ok None) seen) e a))
      ∙ law key meta (number miss) (tagged miss) old mid (begun-by is_spent b) named)

  -- where the own reader is refused, the write is left
  pub left-again : (fault : StoreFault) (new : StoreState) → streams ≡ true → BeginAnswer number is_spent key meta old (Ok miss) mid
      → TagAnswer reader (tagged miss) (asked streams key (tagged miss) mid.store) mid (Err fault) seen → new ≡ left (number miss) seen
      → IsNotBegun reader number tagged streams is_spent key meta fault old new
  left-again fault new e b a l =
      let same = tag-refused reader mid seen (tagged miss) (asked streams key (tagged miss) mid.store) fault a in
      inr (record {
        streamed = e;
        miss = miss;
        mid = mid;
        begun = b;
        refused = subst (λ (h : StoreState). TagAnswer reader (tagged miss) (asked streams key (tagged miss) mid.store) mid (Err fault) h) same a;
        left = l ∙ ap (left (number miss)) same;
      })
