-- Look-ups at a moment that find a fresh body, and look-ups for a fresh one.
use Rattle.std.proofs.Common.{◌≡◌, refl, ap, sym, ◌∙◌, subst, Option, Some, None, true, false, Ok, Err}
use Rattle.std.specs.Prelude.{Bool, Result, MatchResult, if◌then◌else◌}
use Rattle.cache_words.specs.Time.{MomentValue}
use Rattle.cache_heads.specs.Fresh.{is_fresh_at}
use Rattle.cache_heads.specs.declared.meta.CacheMeta.{CacheMeta}
use Rattle.cache_changes.specs.Changes.{StoredKey}
use Rattle.cache_store.specs.declared.storage.StoreFault.{StoreFault}
use Rattle.cache_store.specs.declared.storage.StoreFault.TheVariants.{Memory}
use Rattle.cache_store.specs.declared.storage.store.FoundAt.{FoundAt}
use Rattle.cache_store.specs.declared.storage.store.FoundAt.TheVariants.{Fresh, Stale}
use Rattle.cache_store.specs.declared.storage.store.FreshLook.{FreshLook}
use Rattle.cache_store.specs.declared.storage.store.FreshLook.TheVariants as for_fresh
use Rattle.cache_changes.specs.Store.{Stored}
use Rattle.cache_store.specs.Answers.{Look, in_flight, finished}
use Rattle.cache_store.specs.StoreState.{StoreState}
use Rattle.cache_store.specs.Looks.{HasHeadFresh, LookAtAnswer, LookFreshAnswer, answer_at}
use Rattle.cache_store.specs.Readers.{StreamHit, IsJoined, SameStoreState}
use Rattle.store_memory.specs.declared.flight.Body.{Body}
use Rattle.store_memory.specs.declared.handlers.MemHitHandler.{MemHitHandler}
use Rattle.store_memory.specs.declared.handlers.MemHitHandler.TheVariants.{Complete, Partial}
use Rattle.store_memory.specs.Hits.{unread}
use Rattle.store_memory.specs.Kept.{body_of, weigh, weight_with}
use Rattle.store_memory.specs.Looks.{MemLookAnswer}
use Rattle.store_memory.specs.Readings.{head_of, reader_of, weight_of}
use Rattle.store_memory.proofs.StoreLaws.{look-told, look-tells}

module _ (k : StoredKey) (b : Body) (moment : MomentValue) (look : Option Look) (old : StoreState) where
  abbrev hit : MemHitHandler
  hit = Complete (unread b.number b.bytes (weight_with b.meta b.bytes) b.meta.header)

  abbrev Told : Option Look → Result (Option (FoundAt MemHitHandler)) StoreFault → Type 0
  Told l r = (found : Result (Option (CacheMeta × MemHitHandler)) StoreFault) × MemLookAnswer l old found old × (r ≡ answer_at moment found)

  pub fresh-found : (r : Result (Option (FoundAt MemHitHandler)) StoreFault) → Some (finished (body_of (k, b))) ≡ look → is_fresh_at b.meta.internal.fresh_until moment ≡ true
      → MatchResult r (λ found. found ≡ Some (Fresh b.meta.internal.fresh_until hit)) (λ f. f ≡ Memory) → Told look r
  fresh-found (Ok found) e fresh m =
      subst (λ (l : Option Look). Told l (Ok found)) e
      (Ok (Some (b.meta, hit)), (refl, refl), ap (λ (o : Option (FoundAt MemHitHandler)). Ok o) m ∙ ap (λ (v : Bool). Ok (Some (if v then Fresh b.meta.internal.fresh_until hit else Stale b.meta hit))) (sym fresh))
  fresh-found (Err f) e fresh m = subst (λ (l : Option Look). Told l (Err f)) e (Err f, (m, refl), refl)

-- the answer in the words of any store
abbrev Finds : MomentValue → Option Look → StoreState → Result (Option (FoundAt MemHitHandler)) StoreFault → StoreState → Type 0
Finds moment look old r new = LookAtAnswer reader_of weight_of (λ _. None) weigh None moment look old r new

abbrev FindsFresh : MomentValue → Option Look → StoreState → Result (FreshLook MemHitHandler) StoreFault → StoreState → Type 0
FindsFresh moment look old r new = LookFreshAnswer reader_of weight_of (λ _. None) weigh None moment look old r new

pub told-at : (moment : MomentValue) (look : Option Look) (old new : StoreState) (r : Result (Option (FoundAt MemHitHandler)) StoreFault) (found : Result (Option (CacheMeta × MemHitHandler)) StoreFault) → MemLookAnswer look old found new
    → r ≡ answer_at moment found → Finds moment look old r new
told-at moment look old new r found a e = (found, look-told look old new found a, look-tells look old new found a, e)

unchanged : (h : StoreState) → SameStoreState h h
unchanged h = record { store = refl; next = refl; readings = λ n. refl }

-- a body is found unless it is stale
module _ (k : StoredKey) (b : Body) (moment : MomentValue) (look : Option Look) (old : StoreState) where
  abbrev reading : MemHitHandler
  reading = Complete (unread b.number b.bytes (weight_with b.meta b.bytes) b.meta.header)

  abbrev if_fresh : Bool → FreshLook MemHitHandler
  if_fresh v = if v then for_fresh.Fresh b.meta.internal.fresh_until reading else for_fresh.Stale

  found-is : (o : FreshLook MemHitHandler) (v : Bool) → o ≡ if_fresh v → is_fresh_at b.meta.internal.fresh_until moment ≡ v → FindsFresh moment (Some (finished (body_of (k, b)))) old (Ok o) old
  found-is o false m e = subst (λ (x : FreshLook MemHitHandler). FindsFresh moment (Some (finished (body_of (k, b)))) old (Ok x) old) (sym m) (refl, e, unchanged old)
  found-is o true m e =
      subst (λ (x : FreshLook MemHitHandler). FindsFresh moment (Some (finished (body_of (k, b)))) old (Ok x) old) (sym m)
      (told-at moment (Some (finished (body_of (k, b)))) old old (Ok (Some (Fresh b.meta.internal.fresh_until reading))) (Ok (Some (b.meta, reading))) (refl, refl)
      (ap (λ (v : Bool). Ok (Some (if v then Fresh b.meta.internal.fresh_until reading else Stale b.meta reading))) (sym e)))

  pub unless-stale : (r : Result (FreshLook MemHitHandler) StoreFault) → Some (finished (body_of (k, b))) ≡ look
      → MatchResult r (λ found. found ≡ (if is_fresh_at b.meta.internal.fresh_until moment then for_fresh.Fresh b.meta.internal.fresh_until reading else for_fresh.Stale)) (λ f. f ≡ Memory) → FindsFresh moment look old r old
  unless-stale (Ok o) e m = subst (λ (l : Option Look). FindsFresh moment l old (Ok o) old) e (found-is o (is_fresh_at b.meta.internal.fresh_until moment) m refl)
  unless-stale (Err f) e m = subst (λ (l : Option Look). FindsFresh moment l old (Err f) old) e (m, refl, refl)

  has-head : (o : FreshLook MemHitHandler) (v : Bool) → o ≡ if_fresh v → HasHeadFresh head_of (Some (finished (body_of (k, b)))) (Ok o)
  has-head o true m = subst (λ (x : FreshLook MemHitHandler). HasHeadFresh head_of (Some (finished (body_of (k, b)))) (Ok x)) (sym m) refl
  has-head o false m = subst (λ (x : FreshLook MemHitHandler). HasHeadFresh head_of (Some (finished (body_of (k, b)))) (Ok x)) (sym m) tt

  pub head-unless-stale : (r : Result (FreshLook MemHitHandler) StoreFault) → Some (finished (body_of (k, b))) ≡ look
      → MatchResult r (λ found. found ≡ (if is_fresh_at b.meta.internal.fresh_until moment then for_fresh.Fresh b.meta.internal.fresh_until reading else for_fresh.Stale)) (λ f. f ≡ Memory) → HasHeadFresh head_of look r
  head-unless-stale (Ok o) e m = subst (λ (l : Option Look). HasHeadFresh head_of l (Ok o)) e (has-head o (is_fresh_at b.meta.internal.fresh_until moment) m)
  head-unless-stale (Err f) e m = tt

-- a write in flight that is fresh has one reader more
abbrev Looks : MomentValue → Option Look → StoreState → Result (Option (FoundAt MemHitHandler)) StoreFault → StoreState → Type 0
Looks moment look old r new = (found : Result (Option (CacheMeta × MemHitHandler)) StoreFault) × MemLookAnswer look old found new × (r ≡ answer_at moment found)

pub fresh-flight : (x : Stored CacheMeta) (moment : MomentValue) (look : Option Look) (old new : StoreState) (until : MomentValue) (s : StreamHit) → Some (in_flight x) ≡ look → until ≡ x.meta.internal.fresh_until
    → s ≡ record { number = x.write.number; place = 0 } → is_fresh_at until moment ≡ true → IsJoined x.write.number old new → Looks moment look old (Ok (Some (Fresh until (Partial s)))) new
fresh-flight x moment look old new until s e t p fresh j =
    let same : (until, Partial s) ≡ (x.meta.internal.fresh_until, Partial (record { number = x.write.number; place = 0 })) = cc in
    let shown : is_fresh_at x.meta.internal.fresh_until moment ≡ true = ap (λ (m : MomentValue). is_fresh_at m moment) (sym t) ∙ fresh in
    subst (λ (l : Option Look). Looks moment l old (Ok (Some (Fresh until (Partial s)))) new) e (
      Ok (Some (x.meta, Partial (record { number = x.write.number; place = 0 }))),
      (refl, j),
      ap (λ (f : MomentValue × MemHitHandler). Ok (Some (Fresh f.0 f.1))) same
          ∙ ap (λ (v : Bool). Ok (Some (if v then Fresh x.meta.internal.fresh_until (Partial (record { number = x.write.number; place = 0 })) else Stale x.meta (Partial (record { number = x.write.number; place = 0 }))))) (sym shown),
    )

pub fresh-none : (moment : MomentValue) (look : Option Look) (old : StoreState) → None ≡ look → Looks moment look old (Ok None) old
fresh-none moment look old e = subst (λ (l : Option Look). Looks moment l old (Ok None) old) e (Ok None, (refl, refl), refl)

pub fresh-unread : (x : Stored CacheMeta) (moment : MomentValue) (look : Option Look) (old new : StoreState) (f : StoreFault) → Some (in_flight x) ≡ look → f ≡ Memory → new ≡ old → Looks moment look old (Err f) new
fresh-unread x moment look old new f e m s = subst (λ (l : Option Look). Looks moment l old (Err f) new) e (Err f, (m, s), refl)

pub flight-found : (x : Stored CacheMeta) (moment : MomentValue) (look : Option Look) (old new : StoreState) (until : MomentValue) (s : StreamHit) → Some (in_flight x) ≡ look → until ≡ x.meta.internal.fresh_until
    → s ≡ record { number = x.write.number; place = 0 } → is_fresh_at until moment ≡ true → IsJoined x.write.number old new → FindsFresh moment look old (Ok (for_fresh.Fresh until (Partial s))) new
flight-found x moment look old new until s e t p fresh j =
    let told = fresh-flight x moment look old new until s e t p fresh j in
    told-at moment look old new (Ok (Some (Fresh until (Partial s)))) told.0 told.1 told.2

-- nothing is shown, or a write that is stale
pub fresh-absent : (moment : MomentValue) (look : Option Look) (old : StoreState) → None ≡ look → FindsFresh moment look old (Ok for_fresh.Absent) old
fresh-absent moment look old e = (sym e, unchanged old)

pub flight-stale : (x : Stored CacheMeta) (moment : MomentValue) (look : Option Look) (old : StoreState) (until : MomentValue) → Some (in_flight x) ≡ look → until ≡ x.meta.internal.fresh_until
    → is_fresh_at until moment ≡ false → FindsFresh moment look old (Ok for_fresh.Stale) old
flight-stale x moment look old until e t p =
    subst (λ (l : Option Look). FindsFresh moment l old (Ok for_fresh.Stale) old) e (refl, ap (λ (m : MomentValue). is_fresh_at m moment) (sym t) ∙ p, unchanged old)
