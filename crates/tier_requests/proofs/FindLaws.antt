-- What a look-up finds, as the plain record has it.
use Rattle.std.proofs.Common.{arith, ◌≡◌, ℕ, refl, ap, sym, ◌∙◌, subst, Bool, true, false, cond, Some, None, Option, List, []}
use Rattle.std.specs.Prelude.{◌==◌, ◌+◌, ◌-◌, nat_lt, is_some, option_map, find, Result, Ok, Err}
use Rattle.std.proofs.lemmas.Bool.{eqb-true}
use Rattle.std.proofs.lemmas.Bool.Decides.{nat_tests}
use Rattle.cache_words.specs.Time.{MomentValue, at_most}
use Rattle.cache_words.specs.Key.{CacheKeyValue}
use Rattle.cache_heads.specs.declared.meta.CacheMeta.{CacheMeta}
use Rattle.cache_entries.specs.Entry.{key_of}
use Rattle.cache_changes.specs.Changes.{stored_key}
use Rattle.cache_changes.specs.Store.{Stored, Flying, body_at, flies_for}
use Rattle.cache_store.specs.declared.storage.StoreFault.{StoreFault}
use Rattle.cache_store.specs.Answers.{look_of}
use Rattle.cache_store.specs.Answers as store
use Rattle.cache_store.specs.StoreState.{Reading, StoreState}
use Rattle.cache_store.specs.Looks.{LookAnswer, Tells, shows}
use Rattle.cache_store.specs.Readers.{Reader, whole, streaming, SameStoreState, IsJoined, IsParted, PartsReader, reading_at, one_more, one_less}
use Rattle.store_memory.specs.declared.handlers.MemHitHandler.{MemHitHandler}
use Rattle.store_memory.specs.declared.handlers.MemHitHandler.TheVariants.{Complete, Partial}
use Rattle.store_memory.specs.Kept.{weigh}
use Rattle.store_memory.specs.Readings.{reader_of, is_complete, weight_of}
use Rattle.request_store.specs.Looks.{valid_look}
use Rattle.request_cache.specs.Founds.{entry_at}
use Rattle.request_cache.specs.Request.{stored_at}
use Rattle.tier_model.specs.Shelf as shelf
use Rattle.tier_model.specs.Shelf.{InFlight, Look, absent, in_flight, finished, is_there, look_by}
use Rattle.tier_model.specs.Rows.{Numbered, size_of}
use Rattle.tier_model.specs.Answers.{finds_fresh}
use Rattle.tier_model.specs.State as tier
use Rattle.tier_model.specs.After as after_event
use Rattle.tier_model.specs.After.{with_reader}
use Rattle.tier_requests.specs.Shelves.{found_in, flight_of, shelf_of}
use Rattle.tier_requests.specs.Plain.{reader_in}
use Rattle.tier_requests.specs.Finds.{TakeAnswer, IsReadBy}
use Rattle.tier_requests.specs.Shown.{meta_found}
use Rattle.tier_requests.proofs.ShelfLaws.{shelf-same, shelf-joined, look-of}

-- ---- what a look-up shows

pub key-stored : (key : Option CacheKeyValue) → stored_key (key_of (entry_at key None)) ≡ stored_at key
key-stored None = refl
key-stored (Some key) = refl

-- a look-up of the state finds what one of the store shows
abbrev pub IsShownAs : Option store.Look → Look → Type 0
IsShownAs None l = l ≡ absent
IsShownAs (Some (store.in_flight x)) l = (f : InFlight) × (l ≡ in_flight f) × (f.number ≡ x.write.number) × (f.meta ≡ x.meta)
IsShownAs (Some (store.finished x)) l = l ≡ finished (found_in x)

shown_as : (f : Option (Flying CacheMeta)) (b : Option (Stored CacheMeta)) → IsShownAs (look_of f b) (look_by (option_map flight_of f) (option_map found_in b))
shown_as (Some f) b = (flight_of f, refl, refl, refl)
shown_as None (Some b) = refl
shown_as None None = refl

look_shown : (key : Option CacheKeyValue) (h : StoreState) → IsShownAs (shows true (stored_at key) h.store) (shelf.look (stored_key (key_of (entry_at key None))) (shelf_of h))
look_shown key h =
    let k = stored_at key in
    subst (IsShownAs (shows true k h.store)) (sym (ap (λ j. shelf.look j (shelf_of h)) (key-stored key) ∙ look-of k h)) (shown_as (find (flies_for k) h.store.flying) (body_at k h.store))

-- where the store shows nothing, nothing is found; where it shows something, something is
pub look-none : (key : Option CacheKeyValue) (h : StoreState) → shows true (stored_at key) h.store ≡ None → shelf.look (stored_key (key_of (entry_at key None))) (shelf_of h) ≡ absent
look-none key h e = subst (λ o. IsShownAs o (shelf.look (stored_key (key_of (entry_at key None))) (shelf_of h))) e (look_shown key h)

shown_there : (o : Option store.Look) (l : Look) → is_some o ≡ true → IsShownAs o l → is_there l ≡ true
shown_there None l e s = absurd cc
shown_there (Some (store.in_flight x)) l e s = ap is_there s.1
shown_there (Some (store.finished x)) l e s = ap is_there s

pub look-some : (key : Option CacheKeyValue) (h : StoreState) → is_some (shows true (stored_at key) h.store) ≡ true → is_there (shelf.look (stored_key (key_of (entry_at key None))) (shelf_of h)) ≡ true
look-some key h e = shown_there (shows true (stored_at key) h.store) (shelf.look (stored_key (key_of (entry_at key None))) (shelf_of h)) e (look_shown key h)

-- what the store did for a look-up that found that: of a write in flight a reader is counted
abbrev pub Counts : Look → StoreState → StoreState → Type 0
Counts absent old new = ⊥
Counts (in_flight f) old new = IsJoined f.number old new
Counts (finished x) old new = new ≡ old

pub record FindsOne (t : MomentValue) (l : Look) (meta : CacheMeta) (hit : MemHitHandler) (old new : StoreState) : Type 0 where
  pub reads : IsReadBy l hit
  pub meta_is : meta_found l ≡ Some meta
  pub fresh : finds_fresh t l ≡ at_most t meta.internal.fresh_until
  pub counts : Counts l old new

-- what a reader tells of a body that was found: what that weighs
abbrev pub TellsWeight : Option store.Look → CacheMeta → MemHitHandler → Type 0
TellsWeight look meta hit = Tells weight_of (λ _. None) weigh None look (Ok (Some (meta, hit)))

abbrev is_found : Result (Option (CacheMeta × MemHitHandler)) StoreFault → Bool
is_found (Ok (Some found)) = true
is_found _ = false

finds_one : (t : MomentValue) (o : Option store.Look) (l : Look) (meta : CacheMeta) (hit : MemHitHandler) (old new : StoreState) → IsShownAs o l → LookAnswer reader_of o old (Ok (Some (meta, hit))) new → TellsWeight o meta hit → FindsOne t l meta hit old new
finds_one t None l meta hit old new s a w = let never : true ≡ false = ap is_found a.0 in absurd cc
finds_one t (Some (store.in_flight x)) l meta hit old new s a w = subst (λ k. FindsOne t k meta hit old new) (sym s.1) (record {
  reads = a.0.1 ∙ ap (λ n. streaming (record { number = n; place = 0 })) (sym s.2);
  meta_is = ap Some (s.3 ∙ sym a.0.0);
  fresh = ap (λ (m : CacheMeta). at_most t m.internal.fresh_until) (s.3 ∙ sym a.0.0);
  counts = subst (λ n. IsJoined n old new) (sym s.2) a.1;
})
finds_one t (Some (store.finished x)) l meta hit old new s a w = subst (λ k. FindsOne t k meta hit old new) (sym s) (record {
  reads = (a.0.1, w.0);
  meta_is = ap Some (sym a.0.0);
  fresh = ap (λ (m : CacheMeta). at_most t m.internal.fresh_until) (sym a.0.0);
  counts = a.1;
})

all_shown : (look : Option store.Look) → valid_look None look ≡ look
all_shown None = refl
all_shown (Some (store.in_flight x)) = refl
all_shown (Some (store.finished x)) = refl

-- what a look-up shows from which nothing is hidden
pub shown-all : (since : Option MomentValue) (look : Option store.Look) → since ≡ None → valid_look since look ≡ look
shown-all since look none = ap (λ v. valid_look v look) none ∙ all_shown look

pub finds-one : (t : MomentValue) (key : Option CacheKeyValue) (since : Option MomentValue) (meta : CacheMeta) (hit : MemHitHandler) (old new : StoreState) → since ≡ None
    → LookAnswer reader_of (valid_look since (shows true (stored_at key) old.store)) old (Ok (Some (meta, hit))) new → TellsWeight (shows true (stored_at key) old.store) meta hit → FindsOne t (shelf.look (stored_key (key_of (entry_at key None))) (shelf_of old)) meta hit old new
finds-one t key since meta hit old new none a w =
    let look = shows true (stored_at key) old.store in
    finds_one t look (shelf.look (stored_key (key_of (entry_at key None))) (shelf_of old)) meta hit old new (look_shown key old)
    (subst (λ o. LookAnswer reader_of o old (Ok (Some (meta, hit))) new) (shown-all since look none) a) w

-- ---- readers of it

same-number : (n : ℕ) → (n == n) ≡ true
same-number n = grind (arith, nat_tests)

some-more : (n : ℕ) → nat_lt 0 (n + 1) ≡ true
some-more n = grind (arith, nat_tests)

undone : (n : ℕ) (o : Option Reading) → one_less (Some (one_more n o)) ≡ o
undone n None = refl
undone n (Some r) = by_parts (nat_lt 0 (r.others + 1)) (r.others + 1 - 1) (some-more r.others) (omega arith)
  where
    by_parts : (v : Bool) (k : ℕ) → v ≡ true → k ≡ r.others → cond v (Some (record r { others = k })) None ≡ Some r
    by_parts true k t e = λ i. Some (record r { others = e i })
    by_parts false k t e = absurd cc

joined-parted : (n : ℕ) (old mid new : StoreState) → IsJoined n old mid → IsParted n mid new → SameStoreState old new
joined-parted n old mid new j p = record { store = p.store ∙ j.store; next = p.next ∙ j.next; readings = λ m. p.readings m ∙ by_test m (n == m) refl }
  where
    one : reading_at n mid.readings ≡ Some (one_more n (reading_at n old.readings))
    one = j.readings n ∙ ap (λ (v : Bool). cond v (Some (one_more n (reading_at n old.readings))) (reading_at n old.readings)) (same-number n)

    by_test : (m : ℕ) (v : Bool) → (n == m) ≡ v → cond v (one_less (reading_at n mid.readings)) (reading_at m mid.readings) ≡ reading_at m old.readings
    by_test m true t = ap one_less one ∙ undone n (reading_at n old.readings) ∙ ap (λ (i : ℕ). reading_at i old.readings) (eqb-true n m t)
    by_test m false t = j.readings m ∙ ap (λ (v : Bool). cond v (Some (one_more n (reading_at n old.readings))) (reading_at m old.readings)) t

pub shelf-counted : (l : Look) (old new : StoreState) → Counts l old new → shelf_of new ≡ record (shelf_of old) { readers = with_reader (after_event.reader_of l) (shelf_of old).readers }
shelf-counted absent old new c = absurd c
shelf-counted (in_flight f) old new c = shelf-joined f.number old new c
shelf-counted (finished x) old new c = ap shelf_of c

-- a reader that isn't taken is spent
pub shelf-spared : (l : Look) (hit : MemHitHandler) (old mid new : StoreState) → IsReadBy l hit → Counts l old mid → PartsReader (reader_of hit) mid new → shelf_of new ≡ shelf_of old
shelf-spared absent hit old mid new f c p = absurd c
shelf-spared (in_flight g) hit old mid new f c p =
    let parts : IsParted g.number mid new = subst (λ (r : Reader). PartsReader r mid new) f p in
    shelf-same old new (joined-parted g.number old mid new c parts)
shelf-spared (finished x) hit old mid new f c p =
    let same : new ≡ mid = subst (λ (r : Reader). PartsReader r mid new) f.0 p in
    ap shelf_of (same ∙ c)

-- ---- what was found

-- the bytes of a reader that reads nothing more are those that it was to read
abbrev bytes_of : Reader → List ℕ
bytes_of (whole n body bytes) = bytes
bytes_of (streaming s) = []

abbrev number_of : Reader → ℕ
number_of (whole n body bytes) = n
number_of (streaming s) = s.number

abbrev place_of : Reader → ℕ
place_of (whole n body bytes) = 0
place_of (streaming s) = s.place

-- what a request has to read of what was found, once its bytes are taken out
abbrev pub IsTakenFrom : Look → Option (List ℕ) → MemHitHandler → Type 0
IsTakenFrom l bytes hit = reader_in bytes (Some hit) ≡ after_event.reader_of l

pub taken-from : (l : Look) (before hit : MemHitHandler) (bytes : Option (List ℕ)) → IsReadBy l before → TakeAnswer before (Ok bytes) hit → IsTakenFrom l bytes hit
taken-from absent before hit bytes f a = absurd f
taken-from (in_flight g) (Complete h) hit bytes f a = let never : whole h.number h.body _ ≡ streaming _ = f in absurd cc
taken-from (in_flight g) (Partial h) hit bytes f a = rw a.1 (ap (λ (r : Reader). tier.streaming (number_of r) (place_of r)) f)
taken-from (finished x) (Complete h) hit bytes f a = rw (a.1, a.0) (ap (λ (r : Reader). tier.unread (bytes_of r)) f.0)
taken-from (finished x) (Partial h) hit bytes f a = let never : streaming h ≡ whole _ _ _ = f.0 in absurd cc

-- nothing is taken out of a reader of a write, and memory runs out only at a body: then all is still there
pub taken-none : (l : Look) (meta : CacheMeta) (before hit : MemHitHandler) (f : StoreFault) → TakeAnswer before (Err f) hit → reader_of hit ≡ reader_of before
taken-none l meta (Complete h) hit f a = ap reader_of a.1
taken-none l meta (Partial h) hit f a = ap reader_of a.1

-- a reader spends the same once bytes are taken out of it
pub taken-parts : (before hit : MemHitHandler) (bytes : Option (List ℕ)) (old new : StoreState) → TakeAnswer before (Ok bytes) hit → PartsReader (reader_of hit) old new → PartsReader (reader_of before) old new
taken-parts (Complete h) hit bytes old new a p = subst (λ (x : MemHitHandler). PartsReader (reader_of x) old new) a.1 p
taken-parts (Partial h) hit bytes old new a p = subst (λ (x : MemHitHandler). PartsReader (reader_of x) old new) a.1 p

-- whether all of a body was found
abbrev pub is_whole : Look → Bool
is_whole (finished x) = true
is_whole _ = false

pub whole-found : (l : Look) (hit : MemHitHandler) → IsReadBy l hit → is_complete hit ≡ is_whole l
whole-found absent hit f = absurd f
whole-found (in_flight g) (Complete h) f = let never : whole h.number h.body _ ≡ streaming _ = f in absurd cc
whole-found (in_flight g) (Partial h) f = refl
whole-found (finished x) (Complete h) f = refl
whole-found (finished x) (Partial h) f = let never : streaming h ≡ whole _ _ _ = f.0 in absurd cc

pub whole-taken : (before hit : MemHitHandler) (bytes : Option (List ℕ)) → TakeAnswer before (Ok bytes) hit → is_complete hit ≡ is_complete before
whole-taken (Complete h) hit bytes a = ap is_complete a.1
whole-taken (Partial h) hit bytes a = ap is_complete a.1

-- what a body weighs that was found
pub weight-found : (x : Numbered) (before hit : MemHitHandler) (bytes : Option (List ℕ)) → IsReadBy (finished x) before → TakeAnswer before (Ok bytes) hit → weight_of hit ≡ size_of x.body
weight-found x (Complete h) hit bytes f a = ap weight_of a.1 ∙ f.1
weight-found x (Partial h) hit bytes f a = let never : streaming h ≡ whole _ _ _ = f.0 in absurd cc

pub found-there : (l : Look) (hit : MemHitHandler) → IsReadBy l hit → is_there l ≡ true
found-there absent hit f = absurd f
found-there (in_flight g) hit f = refl
found-there (finished x) hit f = refl
