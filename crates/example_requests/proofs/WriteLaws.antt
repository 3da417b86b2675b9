-- The bytes of a write: it begins with none, gets those of its pieces, and has their length at its finish.
use Rattle.std.proofs.Common.{◌≡◌, ℕ, ◌+◌, ◌++◌, [], ◌∷◌, take, length, refl, ap, sym, ◌∙◌, subst, true, false, cond, inl, inr, append_assoc}
use Rattle.std.specs.Prelude.{Bool, List, Option, Some, None, option_map, IfSome, Ok, find}
use Rattle.std.proofs.lemmas.List.{flat_map_more}
use Rattle.cache_heads.specs.declared.meta.CacheMeta.{CacheMeta}
use Rattle.cache_words.specs.Key.{CacheKeyValue}
use Rattle.cache_entries.specs.declared.entry.CacheEntryId.{CacheEntryId}
use Rattle.cache_changes.specs.Changes.{StoredKey}
use Rattle.cache_changes.specs.Store.{Store, Flying, Stored, has_number, flying_at, flies_for, with_bytes, on_flying}
use Rattle.request_store.specs.Admissions.{Rules, Cache}
use Rattle.request_phases.specs.declared.phase.CachePhase.TheVariants.{Expired}
use Rattle.request_phases.specs.Phases.{is_stale_phase}
use Rattle.cache_store.specs.Answers.{Look, in_flight, finished, streamed_of, after_write}
use Rattle.cache_store.specs.declared.storage.MissFinishType.{MissFinishType}
use Rattle.cache_store.specs.StoreState.{StoreState}
use Rattle.cache_store.specs.Looks.{TagAnswer}
use Rattle.cache_store.specs.Misses.{BeginAnswer, IsBegun}
use Rattle.cache_store.specs.Readers.{Reader, whole, streaming, PartsReader}
use Rattle.cache_store.proofs.WholeLaws.{own-read}
use Rattle.request_puts.specs.Response.{joined}
use Rattle.request_store.specs.Begins.{OwnReader}
use Rattle.request_store.specs.Finishes.{FinishAnswer, IsStored}
use Rattle.request_store.specs.Spends.{Spends}
use Rattle.request_store.specs.declared.faults.Finished.{Finished}
use Rattle.request_cache.specs.Points.{Point}
use Rattle.request_cache.specs.Request.{Request, stored_at}
use Rattle.request_cache.specs.Writes.{Begins, adopted, earlier, with_meta, variance_in}
use Rattle.example_requests.specs.Steps.{bytes_at}

abbrev bytes-of : Option (Flying CacheMeta) → Option (List ℕ)
bytes-of o = option_map (λ (f : Flying CacheMeta). f.stored.bytes) o

abbrev plus : List ℕ → Option (List ℕ) → Option (List ℕ)
plus more o = option_map (λ (b : List ℕ). b ++ more) o

-- ---- pieces

pub written : (n : ℕ) (more : List ℕ) (fs : List (Flying CacheMeta)) → bytes-of (find (has_number n) (on_flying n (with_bytes more) fs)) ≡ plus more (bytes-of (find (has_number n) fs))
written n more [] = refl
written n more (x ∷ xs) = by_test (has_number n x) refl (written n more xs)
  where
    by_test : (v : Bool) → has_number n x ≡ v → bytes-of (find (has_number n) (on_flying n (with_bytes more) xs)) ≡ plus more (bytes-of (find (has_number n) xs))
        → bytes-of (cond (has_number n (cond v (with_bytes more x) x)) (Some (cond v (with_bytes more x) x)) (find (has_number n) (on_flying n (with_bytes more) xs))) ≡ plus more (bytes-of (cond v (Some x) (find (has_number n) xs)))
    by_test true e h = rw e refl
    by_test false e h = rw e h

plus-plus : (a b : List ℕ) (o : Option (List ℕ)) → plus b (plus a o) ≡ plus (a ++ b) o
plus-plus a b None = refl
plus-plus a b (Some x) = ap (λ (y : List ℕ). Some y) (append_assoc x a b)

-- a piece was written
pub wrote : (n m : ℕ) (piece shared : List ℕ) (old new : StoreState) → m ≡ n → shared ≡ piece → new ≡ record old { store = after_write m shared false old.store } → bytes_at n new ≡ plus piece (bytes_at n old)
wrote n m piece shared old new e s w =
    ap (bytes_at n) w
    ∙ ap (λ (k : ℕ). bytes-of (find (has_number n) (on_flying k (with_bytes shared) old.store.flying))) e
    ∙ ap (λ (p : List ℕ). bytes-of (find (has_number n) (on_flying n (with_bytes p) old.store.flying))) s
    ∙ written n piece old.store.flying

-- one piece more was taken
pub one-more : (pieces : List (List ℕ)) (i : ℕ) (piece : List ℕ) (a b c : Option (List ℕ)) → take (i + 1) pieces ≡ take i pieces ++ piece ∷ []
    → b ≡ plus (joined (take i pieces)) a → c ≡ plus piece b → c ≡ plus (joined (take (i + 1) pieces)) a
one-more pieces i piece a b c more e f =
    f ∙ ap (plus piece) e ∙ plus-plus (joined (take i pieces)) piece a
    ∙ ap (λ (p : List ℕ). plus p a) (flat_map_more (λ p. p) [] (take i pieces) piece ∙ ap joined (sym more))

-- ---- the beginning

begun-by : {M : Type 0} (number : M → ℕ) (spent : Bool) (key : StoredKey) (meta : CacheMeta) (m : M) (old new : StoreState) → BeginAnswer number spent key meta old (Ok m) new → IsBegun key meta (number m) old new
begun-by number true key meta m old new a = absurd cc
begun-by number false key meta m old new a = a

streamed-bytes : (k : StoredKey) (o : Option (Flying CacheMeta)) (x : Stored CacheMeta) → streamed_of k o ≡ Some (in_flight x) → bytes-of o ≡ Some x.bytes
streamed-bytes k None x e = absurd cc
streamed-bytes k (Some f) x e = by_test (flies_for k f) e
  where
    by_test : (v : Bool) → cond v (Some (in_flight f.stored)) None ≡ Some (in_flight x) → Some f.stored.bytes ≡ Some x.bytes
    by_test true h = let same : f.stored ≡ x = cc in ap (λ (s : Stored CacheMeta). Some s.bytes) same
    by_test false h = absurd cc

module _ {H M : Type 0} (reader : H → Reader) (number : M → ℕ) (tagged : M → Option ℕ) where
  looked : (look : Option Look) (named : Option ℕ) (found : CacheMeta × H) (old new : StoreState) → TagAnswer reader named look old (Ok (Some found)) new → new.store ≡ old.store
  looked None None found old new a = absurd (let e = a.0 in cc)
  looked None (Some n) found old new a = absurd (let e = a.0 in cc)
  looked (Some (finished x)) None found old new a = ap (λ (h : StoreState). h.store) a.1
  looked (Some (finished x)) (Some n) found old new a = ap (λ (h : StoreState). h.store) a.1
  looked (Some (in_flight x)) None found old new a = a.1.store
  looked (Some (in_flight x)) (Some n) found old new a = a.1.store

  own-same : (streams spent : Bool) (key : StoredKey) (meta : CacheMeta) (miss : M) (own : Option H) (mid new : StoreState) → OwnReader reader number tagged streams spent key meta streams miss mid own new → new.store ≡ mid.store
  own-same true spent key meta miss own mid new a = looked _ (tagged miss) (a.0, a.1) mid new a.3
  own-same false spent key meta miss own mid new a = ap (λ (h : StoreState). h.store) a.1

  parts-same : (r : Reader) (old new : StoreState) → PartsReader r old new → new.store ≡ old.store
  parts-same (whole n body bytes) old new p = ap (λ (h : StoreState). h.store) p
  parts-same (streaming s) old new p = p.store

  spends-same : (o : Option H) (old new : StoreState) → Spends reader o old new → new.store ≡ old.store
  spends-same None old new s = ap (λ (h : StoreState). h.store) s
  spends-same (Some hit) old new s = parts-same (reader hit) old new s

  module _ (streams spent : Bool) (meta : CacheMeta) (old new : Point H M) (b : Begins reader number tagged streams spent meta old new) where
    -- a write that begins has no bytes
    pub begins-empty : bytes_at (number b.miss) new.held ≡ Some []
    begins-empty =
        let key = stored_at old.request.key in
        ap (λ (s : Store CacheMeta). bytes-of (flying_at (number b.miss) s))
        (spends-same (earlier b.own old.request) b.mid new.held b.store ∙ own-same streams spent key meta b.miss b.own b.begun.mid b.mid b.begun.read)
        ∙ streamed-bytes key (flying_at (number b.miss) b.begun.mid.store) _
        (own-read key meta (number b.miss) old.held b.begun.mid (begun-by number spent key meta b.miss old.held b.begun.mid b.begun.begun))

    with-writer : (own : Option H) → (adopted b.miss own old.request).writer ≡ Some b.miss
    with-writer None = refl
    with-writer (Some hit) = refl

    -- and its writer is the request's
    pub begins-writer : new.request.writer ≡ Some b.miss
    begins-writer = ap (λ (r : Request H M). r.writer) b.request ∙ with-writer b.own

-- the meta that is set is there
pub meta-set : {H M : Type 0} (meta : CacheMeta) (r : Request H M) → (with_meta meta r).meta ≡ Some meta
meta-set {H} {M} meta r = by_phase (is_stale_phase r.phase)
  where
    by_phase : (v : Bool) → (cond v (record r { phase = Expired; meta = Some meta; stale_variance = variance_in r.meta }) (record r { meta = Some meta; stale_variance = None })).meta ≡ Some meta
    by_phase true = refl
    by_phase false = refl

pub of-some : {A : Type 0} (P : A → Type 0) (o : Option A) (x : A) → o ≡ Some x → IfSome o P → P x
of-some {A = A} P o x e h = subst (λ (p : Option A). IfSome p P) e h

-- ---- the finish

shown-bytes : (o : Option (Flying CacheMeta)) (x : Stored CacheMeta) → option_map (λ (f : Flying CacheMeta). f.stored) o ≡ Some x → bytes-of o ≡ Some x.bytes
shown-bytes None x e = absurd cc
shown-bytes (Some f) x e = let same : f.stored ≡ x = cc in ap (λ (s : Stored CacheMeta). Some s.bytes) same

module _ {S M : Type 0} (rules : Rules S) (number : M → ℕ) (id : M → Option CacheEntryId) (key : Option CacheKeyValue) (f : Finished) (old new : Cache S) where
  stored-length : (m : M) (kind : MissFinishType) (size : ℕ) (mid : S) (bytes : List ℕ) → IsStored rules.held rules.ids number id rules.told m kind size old.store mid
      → bytes_at (number m) (rules.held old.store) ≡ Some bytes → size ≡ length bytes
  stored-length m kind size mid bytes s e =
      let told = shown-bytes (flying_at (number m) (rules.held old.store).store) s.body s.finished.shown in
      let same : s.body.bytes ≡ bytes = cc in
      s.sized ∙ ap length same

  finish-length : (m : M) (evicts : Bool) (bytes : List ℕ) → FinishAnswer rules number id (Some m) key evicts (Ok (Some f)) old new → bytes_at (number m) (rules.held old.store) ≡ Some bytes → f.length ≡ length bytes
  finish-length m evicts bytes (inl a) e = absurd a
  finish-length m true bytes (inr (mid, kind, size, stored, admitted)) e = admitted.1 ∙ stored-length m kind size mid bytes stored e
  finish-length m false bytes (inr (mid, kind, size, stored, admitted)) e = admitted.1 ∙ stored-length m kind size mid bytes stored e

  -- a finish tells the length of all that was written since the write began
  pub length-told : (m : M) (was now : Option M) (evicts : Bool) (bytes : List ℕ) (began : StoreState) → was ≡ Some m → now ≡ was → bytes_at (number m) began ≡ Some []
      → IfSome was (λ k. bytes_at (number k) (rules.held old.store) ≡ plus bytes (bytes_at (number k) began)) → FinishAnswer rules number id now key evicts (Ok (Some f)) old new → f.length ≡ length bytes
  length-told m was now evicts bytes began w n none more a =
      finish-length m evicts bytes (subst (λ (o : Option M). FinishAnswer rules number id o key evicts (Ok (Some f)) old new) (n ∙ w) a)
      (of-some (λ (k : M). bytes_at (number k) (rules.held old.store) ≡ plus bytes (bytes_at (number k) began)) was m w more ∙ ap (plus bytes) none)
