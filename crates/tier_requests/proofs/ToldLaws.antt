-- What a look-up at a moment reported, as the look-up that it reports of had it.
use Rattle.std.proofs.Common.{◌≡◌, ℕ, refl, ap, sym, subst, Bool, true, false, cond, Some, None, Option, List}
use Rattle.std.specs.Prelude.{Result, Ok, Err}
use Rattle.cache_words.specs.Time.{MomentValue, at_most}
use Rattle.cache_words.specs.Key.{Key}
use Rattle.cache_heads.specs.declared.meta.CacheMeta.{CacheMeta}
use Rattle.cache_lock.specs.declared.status.LockStatus.{LockStatus}
use Rattle.cache_lock.specs.State.{LockState}
use Rattle.cache_store.specs.declared.admission.Decision.{Decision}
use Rattle.cache_store.specs.declared.storage.store.FoundAt.{FoundAt}
use Rattle.cache_store.specs.declared.storage.store.FoundAt.TheVariants.{Fresh, Stale}
use Rattle.cache_store.specs.Answers as store
use Rattle.cache_store.specs.StoreState.{StoreState}
use Rattle.cache_store.specs.Looks.{LookAnswer}
use Rattle.store_memory.specs.declared.handlers.MemHitHandler.{MemHitHandler}
use Rattle.store_memory.specs.Kept.{weigh}
use Rattle.store_memory.specs.Readings.{reader_of, weight_of}
use Rattle.request_store.specs.declared.faults.LookUpFault.{LookUpFault}
use Rattle.request_store.specs.Looks.{valid_look}
use Rattle.request_cache.specs.Points.{point}
use Rattle.request_cache.specs.Lookups.{FindsNothing, LookUpAnswer}
use Rattle.request_cache.specs.Freshes.{LookUpAtAnswer}
use Rattle.tier_requests.specs.Plain.{Driven}
use Rattle.tier_requests.specs.Finds.{hit_told}
use Rattle.tier_requests.proofs.FindLaws.{TellsWeight}

-- a meta is fresh at the moment, or is told as it is
abbrev pub IsToldAs : MomentValue → CacheMeta → FoundAt MemHitHandler → Type 0
IsToldAs t meta (Fresh until hit) = at_most t meta.internal.fresh_until ≡ true
IsToldAs t meta (Stale told hit) = (at_most t meta.internal.fresh_until ≡ false) × (meta ≡ told)

-- with the reader that is told a meta was found
pub record FindsAs (t : MomentValue) (look : Option store.Look) (told : FoundAt MemHitHandler) (r r1 : Driven) (h mid : StoreState) (s s1 : LockState) : Type 0 where
  pub meta : CacheMeta
  pub told_as : IsToldAs t meta told
  pub found : LookAnswer reader_of (valid_look r.valid_after look) h (Ok (Some (meta, hit_told told))) mid
  pub weighs : TellsWeight look meta (hit_told told)
  pub request : r1 ≡ r
  pub lock : s1 ≡ s

abbrev Told : Type 0
Told = Result (Option (FoundAt MemHitHandler)) LookUpFault

abbrev meta_in : CacheMeta → Told → CacheMeta
meta_in other (Ok (Some (Stale meta hit))) = meta
meta_in other _ = other

abbrev hit_of : MemHitHandler → Told → MemHitHandler
hit_of other (Ok (Some (Fresh until hit))) = hit
hit_of other (Ok (Some (Stale meta hit))) = hit
hit_of other _ = other

abbrev fault_of : LookUpFault → Told → LookUpFault
fault_of other (Ok found) = other
fault_of other (Err fault) = fault

abbrev told_ok : FoundAt MemHitHandler → Told
told_ok found = Ok (Some found)

module _ (custom : List ℕ → LockStatus) (decides : Key → Decision → Type 0)
    (t : MomentValue) (look : Option store.Look) (r r1 : Driven) (h mid : StoreState) (s s1 : LockState) where
  abbrev Tells : Told → Type 0
  Tells res = LookUpAtAnswer reader_of (λ n. n) weight_of (λ _. None) weigh None custom decides t look (point r h s) res (point r1 mid s1)

  abbrev Answers : Result (Option (CacheMeta × MemHitHandler)) LookUpFault → Type 0
  Answers res = LookUpAnswer reader_of (λ n. n) custom decides t look (point r h s) res (point r1 mid s1)

  found_as : (told : FoundAt MemHitHandler) (meta : CacheMeta) (found : MemHitHandler) → IsToldAs t meta told → hit_told told ≡ found → Answers (Ok (Some (meta, found))) → TellsWeight look meta found → FindsAs t look told r r1 h mid s s1
  found_as told meta found is same a w = record {
    meta = meta;
    told_as = is;
    found = subst (λ (x : MemHitHandler). LookAnswer reader_of (valid_look r.valid_after look) h (Ok (Some (meta, x))) mid) (sym same) a.0;
    weighs = subst (λ (x : MemHitHandler). TellsWeight look meta x) (sym same) w;
    request = a.1;
    lock = a.2;
  }

  -- a response that is fresh
  told-fresh : (until : MomentValue) (hit : MemHitHandler) → Tells (Ok (Some (Fresh until hit))) → FindsAs t look (Fresh until hit) r r1 h mid s s1
  told-fresh until hit (Ok (Some (meta, found)), a, tells, e) = by_test (at_most t meta.internal.fresh_until) refl e
    where
      by_test : (v : Bool) → at_most t meta.internal.fresh_until ≡ v → told_ok (Fresh until hit) ≡ told_ok (cond v (Fresh meta.internal.fresh_until found) (Stale meta found)) → FindsAs t look (Fresh until hit) r r1 h mid s s1
      by_test true fresh e = found_as (Fresh until hit) meta found fresh (ap (hit_of hit) e) a tells
      by_test false fresh e = absurd cc
  told-fresh until hit (Ok None, a, tells, e) = absurd cc
  told-fresh until hit (Err fault, a, tells, e) = absurd cc

  -- one that is fresh no more
  told-stale : (meta : CacheMeta) (hit : MemHitHandler) → Tells (Ok (Some (Stale meta hit))) → FindsAs t look (Stale meta hit) r r1 h mid s s1
  told-stale told hit (Ok (Some (meta, found)), a, tells, e) = by_test (at_most t meta.internal.fresh_until) refl e
    where
      by_test : (v : Bool) → at_most t meta.internal.fresh_until ≡ v → told_ok (Stale told hit) ≡ told_ok (cond v (Fresh meta.internal.fresh_until found) (Stale meta found)) → FindsAs t look (Stale told hit) r r1 h mid s s1
      by_test true fresh e = absurd cc
      by_test false fresh e = found_as (Stale told hit) meta found (fresh, sym (ap (meta_in told) e)) (ap (hit_of hit) e) a tells
  told-stale told hit (Ok None, a, tells, e) = absurd cc
  told-stale told hit (Err fault, a, tells, e) = absurd cc

  pub told-found : (found : FoundAt MemHitHandler) → Tells (Ok (Some found)) → FindsAs t look found r r1 h mid s s1
  told-found (Fresh until hit) x = told-fresh until hit x
  told-found (Stale meta hit) x = told-stale meta hit x

  -- nothing was found
  pub told-none : Tells (Ok None) → FindsNothing reader_of (λ n. n) custom decides t look (point r h s) (Ok tt) (point r1 mid s1)
  told-none (Ok None, a, tells, e) = a
  told-none (Ok (Some found), a, tells, e) = absurd cc
  told-none (Err fault, a, tells, e) = absurd cc

  -- the store or the lock refuses
  pub told-fault : (fault : LookUpFault) → Tells (Err fault) → Answers (Err fault)
  told-fault fault (Err found, a, tells, e) = subst (λ (x : LookUpFault). Answers (Err x)) (sym (ap (fault_of fault) e)) a
  told-fault fault (Ok found, a, tells, e) = absurd cc
