-- What the store's own answers say in the words of any store.
use Rattle.std.proofs.Common.{arith, ◌≡◌, ℕ, ◌<◌, refl, ap, sym, ◌∙◌, subst, true, false, [], ◌∷◌}
use Rattle.std.specs.Prelude.{Bool, if◌then◌else◌, List, length, take, slice_range, Option, Some, None, Result, Ok, Err, find}
use Rattle.std.specs.List.{AllByRecursion}
use Rattle.std.specs.Map.{keys_of}
use Rattle.std.proofs.Math.Seq.{take-length}
use Rattle.cache_words.specs.Time.{MomentValue}
use Rattle.cache_heads.specs.Fresh.{is_fresh_at}
use Rattle.cache_heads.specs.declared.meta.CacheMeta.{CacheMeta}
use Rattle.cache_changes.specs.Store.{has_number}
use Rattle.cache_store.specs.declared.storage.StoreFault.{StoreFault}
use Rattle.cache_store.specs.Answers.{Look, in_flight, finished}
use Rattle.cache_store.specs.StoreState.{StoreState}
use Rattle.cache_store.specs.Looks.{HasHeadAt, HasHeadOf, IsFoundAs, IsHeadOf, LookAnswer, StreamAnswer, TagAnswer, Tells, answer_at, hit_at}
use Rattle.cache_store.specs.declared.storage.store.FoundAt.{FoundAt}
use Rattle.cache_store.specs.declared.storage.store.FoundAt.TheVariants.{Fresh, Stale}
use Rattle.cache_store.specs.declared.storage.ReadStep.{ReadStep}
use Rattle.cache_store.specs.declared.storage.ReadStep.TheVariants.{Bytes, Pending, End}
use Rattle.cache_store.specs.Readers.{whole, streaming, ReadsSame}
use Rattle.store_memory.specs.declared.flight.Flight.{Flight}
use Rattle.store_memory.specs.declared.handlers.MemHitHandler.{MemHitHandler}
use Rattle.store_memory.specs.Hits.{unread}
use Rattle.store_memory.specs.Kept.{flights_of, weigh}
use Rattle.store_memory.specs.declared.handlers.MemHitHandler.TheVariants.{Complete, Partial}
use Rattle.store_memory.specs.Looks.{MemLookAnswer, MemStreamAnswer, MemTagAnswer}
use Rattle.store_memory.specs.Readings.{HitRead, head_of, reader_of, weight_of}
use Rattle.store_memory.proofs.RowLaws.{above_apart}
use Rattle.store_memory.proofs.SeenLaws.{Alive}

-- no write in flight has a number above all
pub fresh-number : (alive : Alive) (n : ℕ) (es : List (ℕ × Flight)) → AllByRecursion (λ m. m < n) (keys_of es) → find (has_number n) (flights_of alive es) ≡ None
fresh-number alive n [] h = refl
fresh-number alive n (e ∷ es) h = rw (above_apart n e.0 h.0) (fresh-number alive n es h.1)

-- a range of a whole list
all-of : (xs : List ℕ) → slice_range xs 0 (length xs) ≡ xs
all-of xs = ap (λ (n : ℕ). take n xs) (omega arith) ∙ take-length xs

-- look-ups
pub look-told : (l : Option Look) (old new : StoreState) (r : Result (Option (CacheMeta × MemHitHandler)) StoreFault) → MemLookAnswer l old r new → LookAnswer reader_of l old r new
look-told None old new r a = a
look-told (Some (finished x)) old new (Ok found) a =
    (subst (IsFoundAs reader_of x.meta (whole x.write.number x.bytes x.bytes)) (sym a.0) (refl, ap (λ (bytes : List ℕ). whole x.write.number x.bytes bytes) (all-of x.bytes)), a.1)
look-told (Some (finished x)) old new (Err f) a = a
look-told (Some (in_flight x)) old new (Ok found) a =
    (subst (IsFoundAs reader_of x.meta (streaming (record { number = x.write.number; place = 0 }))) (sym a.0) (refl, refl), a.1)
look-told (Some (in_flight x)) old new (Err f) a = a

pub look-tells : (l : Option Look) (old new : StoreState) (r : Result (Option (CacheMeta × MemHitHandler)) StoreFault) → MemLookAnswer l old r new → Tells weight_of (λ _. None) weigh None l r
look-tells (Some (finished x)) old new (Ok (Some found)) a =
    let same : found ≡ (x.meta, Complete (unread x.write.number x.bytes (weigh x) x.meta.header)) = let one = a.0 in cc in
    (ap (λ (f : CacheMeta × MemHitHandler). weight_of f.1) same, refl)
look-tells (Some (finished x)) old new (Ok None) a = tt
look-tells (Some (finished x)) old new (Err f) a = tt
look-tells (Some (in_flight x)) old new r a = tt
look-tells None old new r a = tt

pub look-heads : (l : Option Look) (old new : StoreState) (r : Result (Option (CacheMeta × MemHitHandler)) StoreFault) → MemLookAnswer l old r new → HasHeadOf head_of l r
look-heads l old new (Err f) a = tt
look-heads l old new (Ok None) a = tt
look-heads (Some (finished x)) old new (Ok (Some found)) a =
    let same : found ≡ (x.meta, Complete (unread x.write.number x.bytes (weigh x) x.meta.header)) = let one = a.0 in cc in
    subst (λ (f : CacheMeta × MemHitHandler). IsHeadOf (head_of f.1) (Some (finished x))) (sym same) refl
look-heads (Some (in_flight x)) old new (Ok (Some found)) a =
    let same : found ≡ (x.meta, Partial (record { number = x.write.number; place = 0 })) = let one = a.0 in cc in
    subst (λ (f : CacheMeta × MemHitHandler). IsHeadOf (head_of f.1) (Some (in_flight x))) (sym same) tt
look-heads None old new (Ok (Some found)) a = absurd (let e = a.0 in cc)

pub look-heads-at : (moment : MomentValue) (l : Option Look) (old new : StoreState) (found : Result (Option (CacheMeta × MemHitHandler)) StoreFault) (r : Result (Option (FoundAt MemHitHandler)) StoreFault)
    → MemLookAnswer l old found new → r ≡ answer_at moment found → HasHeadAt head_of l r
look-heads-at moment l old new (Err f) r a e = subst (HasHeadAt head_of l) (sym e) tt
look-heads-at moment l old new (Ok None) r a e = subst (HasHeadAt head_of l) (sym e) tt
look-heads-at moment l old new (Ok (Some found)) r a e =
    subst (HasHeadAt head_of l) (sym e) (by_test (is_fresh_at found.0.internal.fresh_until moment) (look-heads l old new (Ok (Some found)) a))
  where
    by_test : (v : Bool) → IsHeadOf (head_of found.1) l → IsHeadOf (head_of (hit_at (if v then Fresh found.0.internal.fresh_until found.1 else Stale found.0 found.1))) l
    by_test true h = h
    by_test false h = h

-- look-ups that may name a write
stream-told : (l : Option Look) (old new : StoreState) (r : Result (Option (CacheMeta × MemHitHandler)) StoreFault) → MemStreamAnswer l old r new → StreamAnswer reader_of l old r new
stream-told None old new r a = a
stream-told (Some x) old new r a = look-told (Some x) old new r a

pub tag-told : (o : Option ℕ) (l : Option Look) (old new : StoreState) (r : Result (Option (CacheMeta × MemHitHandler)) StoreFault) → MemTagAnswer o l old r new → TagAnswer reader_of o l old r new
tag-told None l old new r a = look-told l old new r a
tag-told (Some n) l old new r a = stream-told l old new r a

pub tag-tells : (o : Option ℕ) (l : Option Look) (old new : StoreState) (r : Result (Option (CacheMeta × MemHitHandler)) StoreFault) → MemTagAnswer o l old r new → Tells weight_of (λ _. None) weigh None l r
tag-tells None l old new r a = look-tells l old new r a
tag-tells (Some n) None old new r a = tt
tag-tells (Some n) (Some x) old new r a = look-tells (Some x) old new r a

-- a step of reading reads on in the same
pub reads-same : (h : MemHitHandler) (store : StoreState) (r : Result ReadStep StoreFault) (new : MemHitHandler) → HitRead h store r new → ReadsSame (reader_of h) (reader_of new)
reads-same (Complete h) store (Ok step) new a = subst (λ (x : MemHitHandler). ReadsSame (reader_of (Complete h)) (reader_of x)) (sym a.1) (refl, refl)
reads-same (Complete h) store (Err f) new a = subst (λ (x : MemHitHandler). ReadsSame (reader_of (Complete h)) (reader_of x)) (sym a.1) (refl, refl)
reads-same (Partial h) store (Ok (Bytes bytes)) new a = subst (λ (x : MemHitHandler). ReadsSame (streaming h) (reader_of x)) (sym a.1) refl
reads-same (Partial h) store (Ok Pending) new a = subst (λ (x : MemHitHandler). ReadsSame (streaming h) (reader_of x)) (sym a.1) refl
reads-same (Partial h) store (Ok End) new a = subst (λ (x : MemHitHandler). ReadsSame (streaming h) (reader_of x)) (sym a.1) refl
reads-same (Partial h) store (Err f) new a = subst (λ (x : MemHitHandler). ReadsSame (streaming h) (reader_of x)) (sym a.1) refl
