-- A revalidation that comes to the store and to the order of use is one that the tier may take.
use Rattle.std.proofs.Common.{◌≡◌, ℕ, refl, ap, sym, ◌∙◌, Bool, true, false, subst, cond, inl, inr, Some, None, Option, List, [], max}
use Rattle.std.specs.Prelude.{Result, Ok, Err, option_map, map, Vec}
use Rattle.std.specs.declared.alloc.Global.{Global}
use Rattle.std.specs.FinMap.{FinMap, get, insert, get-insert}
use Rattle.std.specs.Ordering.{nat_cmp}
use Rattle.std.specs.Cmp.Lexicographic.{nat_list_cmp_total}
use Rattle.rand_core.specs.Stream.{Stream}
use Rattle.cache_words.specs.Time.{MomentValue}
use Rattle.cache_heads.specs.declared.given.GivenMeta.{GivenMeta}
use Rattle.cache_heads.specs.declared.meta.CacheMeta.{CacheMeta}
use Rattle.cache_entries.specs.Keys.{same_bytes}
use Rattle.cache_entries.specs.Entry.{key_of}
use Rattle.cache_entries.specs.declared.entry.CacheEntryKey.{CacheEntryKey}
use Rattle.cache_changes.specs.Changes.{StoredKey}
use Rattle.cache_changes.specs.Store.{Stored, body_at}
use Rattle.cache_evict.specs.Faults.{evicted_of}
use Rattle.cache_evict.specs.Managed.{Managed, IsSharded, Evicts, Fits, IsHeavy, IsLong, IsFull, pick_by_draws, weighed_anew, taken_out, is_over}
use Rattle.cache_lock.specs.State.{LockState, after_all}
use Rattle.cache_lock.specs.declared.status.LockStatus.TheVariants as status
use Rattle.cache_store.specs.StoreState.{StoreState}
use Rattle.cache_store.specs.Renewals.{IsRenewed, stored_with}
use Rattle.request_store.specs.Admissions.{Cache, IsDone, IsSettled, IsUnsettled}
use Rattle.request_store.specs.declared.done.Done.{Done as StoreDone}
use Rattle.request_cache.specs.Revalidations.{IsWeighedAnew, SettleAnswer, IsKeptOut, RevalidateAnswer, is_confirmed_by, is_confirmed}
use Rattle.request_cache.specs.declared.renew.RevalidateFault.{RevalidateFault}
use Rattle.request_cache.specs.declared.renew.RevalidateFault.TheVariants as renew
use Rattle.head_parse.specs.Response.{Reading, IsReading}
use Rattle.tier_model.specs.Keys.{alone}
use Rattle.tier_model.specs.declared.event.Answer.TheVariants.{Revalidated}
use Rattle.tier_model.specs.declared.event.Done.{Done}
use Rattle.tier_model.specs.declared.event.TierFault.TheVariants as tier
use Rattle.tier_model.specs.Evictions.{all_gone}
use Rattle.tier_model.specs.Response.{kept}
use Rattle.tier_model.specs.Calls.{nothing_done}
use Rattle.tier_model.specs.Rows.{Numbered, with_meta, with_meta_in, size_of}
use Rattle.tier_model.specs.Shelf as shelf
use Rattle.tier_model.specs.Shelf.{Shelf, renewed}
use Rattle.tier_model.specs.State.{Seen, Request, State, shards_of}
use Rattle.tier_model.specs.Checks.{can_revalidate}
use Rattle.tier_model.specs.Answers.{key_for, is_that_write, is_body_seen, weight_with, weight_then, reweighed, all_done}
use Rattle.tier_model.specs.After.{release_of, confirmed}
use Rattle.tier_model.proofs.BodyLaws.{ties-same}
use Rattle.tier_requests.specs.Finishes.{done_as}
use Rattle.tier_requests.specs.Renewals.{weigh, told_of_renewal}
use Rattle.tier_requests.specs.Shelves.{found_in, bodies_in, flight_of, shelf_of}
use Rattle.tier_requests.proofs.ReadingLaws.{table_of}
use Rattle.tier_requests.proofs.ShelfLaws.{same-bodies, body-found}
use Rattle.tier_single.proofs.DatedLaws.{IsDated}
use Rattle.tier_single.proofs.KeptLaws.{rules, weighed, with_cache}
use Rattle.tier_single.proofs.PutLaws.{done-is, nothing-was}
use Rattle.tier_single.proofs.RenewSteps.{Steps, Steps-memory, Gives, Steps-kept-out, Steps-renewed, Steps-taken-back}
use Rattle.tier_single.proofs.ShardLaws.{kept-anew, Went, evicts-went}
use Rattle.tier_single.proofs.StoredLaws.{shelf-purged, shelf-taken}
use Rattle.tier_single.proofs.TookLaws.{insert-same}

-- ---- the body that is renewed

-- a body that was found by its number is there
record IsThere (o : Option (Stored CacheMeta)) : Type 0 where
  body : Stored CacheMeta
  is : o ≡ Some body

found_there : (q : Request) (h : StoreState) → is_body_seen q (shelf_of h) ≡ true → IsThere (body_at (key_for q) h.store)
found_there q h found = by_body (body_at (key_for q) h.store) (sym (ap (λ (o : Option Numbered). is_that_write q.seen (option_map (λ (x : Numbered). x.number) o)) (body-found (key_for q) h.store)) ∙ found)
  where
    by_body : (o : Option (Stored CacheMeta)) → is_that_write q.seen (option_map (λ (x : Numbered). x.number) (option_map found_in o)) ≡ true → IsThere o
    by_body None e = let clash : false ≡ true = none_seen q.seen ∙ e in absurd cc
      where
        none_seen : (x : Option Seen) → false ≡ is_that_write x None
        none_seen None = refl
        none_seen (Some x) = refl
    by_body (Some x) e = record { body = x; is = refl }

-- with another meta
shelf_renewed : (k : StoredKey) (meta : CacheMeta) (h0 h : StoreState) (x : Stored CacheMeta) → body_at k h0.store ≡ Some x → IsRenewed k (λ _. meta) h0 h → shelf_of h ≡ renewed k meta (shelf_of h0)
shelf_renewed k meta h0 h x there r = λ i. record {
  bodies = bodies i;
  flying = map flight_of (r.flying i);
  readers = table_of (r.readings i);
  writes = r.next i;
}
  where
    anew : Numbered
    anew = record { number = x.write.number; body = record { bytes = x.bytes; meta = meta } }

    at : (j : StoredKey) → get (bodies_in h.store.bodies) j ≡ cond (same_bytes k j) (Some anew) (get (bodies_in h0.store.bodies) j)
    at j =
        body-found j h.store ∙ ap (option_map found_in) (r.bodies j)
        ∙ ap (λ (o : Option (Stored CacheMeta)). option_map found_in (cond (same_bytes k j) (option_map (stored_with (λ _. meta)) o) (body_at j h0.store))) there
        ∙ by_test (same_bytes k j) ∙ ap (cond (same_bytes k j) (Some anew)) (sym (body-found j h0.store))
      where
        by_test : (v : Bool) → option_map found_in (cond v (Some (stored_with (λ _. meta) x)) (body_at j h0.store)) ≡ cond v (Some anew) (option_map found_in (body_at j h0.store))
        by_test true = refl
        by_test false = refl

    bodies : bodies_in h.store.bodies ≡ with_meta k meta (bodies_in h0.store.bodies)
    bodies = same-bodies (bodies_in h.store.bodies) (insert (bodies_in h0.store.bodies) k anew)
        (λ j. at j ∙ sym (get-insert nat_list_cmp_total (bodies_in h0.store.bodies) k anew j ∙ ap (λ v. cond v (Some anew) (get (bodies_in h0.store.bodies) j)) (ties-same j k)))
        ∙ ap (λ (o : Option Numbered). with_meta_in o k meta (bodies_in h0.store.bodies)) (sym (body-found k h0.store ∙ ap (option_map found_in) there))

-- ---- what comes of it

module _ (n : ℕ) (s : State) (t : MomentValue) (id : ℕ) (head : List ℕ) (given : Option GivenMeta) (c0 : Cache StoreState) (sharded : IsSharded n c0.managed) where
  abbrev pub old : State
  old = with_cache s c0

  abbrev pub with_left : Cache StoreState → FinMap nat_cmp Request → LockState → State
  with_left c requests lock = record (with_cache s c) { requests = requests; lock = lock }

  module _ (q : Request) (there : get s.requests id ≡ Some q) (can : can_revalidate q.phase q.gave_read ≡ true) (entry : q.entry ≡ alone (key_of q.entry)) (r : Reading) (reads : IsReading head r)
      (found : is_body_seen q (shelf_of c0.store) ≡ true) (meta : CacheMeta) (dated : IsDated meta) (gives : Gives old c0.words t id head given q there can r reads (kept meta)) where
    body : IsThere (body_at (key_for q) c0.store.store)
    body = found_there q c0.store found

    abbrev x : Stored CacheMeta
    x = body.body

    -- what it weighs then
    abbrev w : ℕ
    w = max (size_of (record { bytes = x.bytes; meta = meta })) 1

    weighs : w ≡ weight_then q meta old.shelf
    weighs = weighed (size_of (record { bytes = x.bytes; meta = meta }))
        ∙ sym (ap (λ (o : Option Numbered). weight_with (option_map (λ (y : Numbered). y.body) o) meta) (body-found (key_for q) c0.store.store ∙ ap (option_map found_in) body.is))

    abbrev start : Managed
    start = weighed_anew n q.entry w c0.managed

    start_is : start ≡ reweighed old q meta
    start_is = ap (λ (v : ℕ). weighed_anew n q.entry v c0.managed) weighs ∙ ap (λ (v : ℕ). weighed_anew v q.entry (weight_then q meta old.shelf) c0.managed) (sym sharded.count)

    -- the same of all shards of the state
    abbrev N : ℕ
    N = shards_of old

    of_all : (P : ℕ → Managed → Type 0) → P n start → P N (reweighed old q meta)
    of_all P p = subst (λ (m : Managed). P N m) start_is (subst (λ (v : ℕ). P v start) (sym sharded.count) p)

    module _ (mid : Cache StoreState) (anew : IsWeighedAnew (rules n) weigh (key_for q) q.entry true meta x c0 mid) where
      went : (over : Bool) (es : List CacheEntryKey) (left : Managed) (rest : Stream) → Evicts (pick_by_draws n) mid.managed es mid.words left rest → is_over left ≡ over
          → Went N over es (reweighed old q meta) left × Evicts (pick_by_draws N) (reweighed old q meta) es c0.words left rest
      went over es left rest evicts ends =
          let here : Evicts (pick_by_draws N) (reweighed old q meta) es c0.words left rest =
          of_all (λ v m. Evicts (pick_by_draws v) m es c0.words left rest) (subst (λ (m : Managed). Evicts (pick_by_draws n) m es c0.words left rest) anew.managed
          (subst (λ (words : Stream). Evicts (pick_by_draws n) mid.managed es words left rest) anew.words evicts)) in
          (evicts-went (pick_by_draws N) N over es (reweighed old q meta) left c0.words rest (of_all IsSharded (kept-anew n c0.managed sharded q.entry w)) here ends, here)

      fits : Fits N (reweighed old q meta)
      fits = of_all Fits (subst (λ (m : Managed). Fits n m) anew.managed (anew.fits refl))

      renewed_shelf : shelf_of mid.store ≡ renewed (key_for q) meta old.shelf
      renewed_shelf = shelf_renewed (key_for q) meta c0.store mid.store x body.is anew.store

      -- the requests and the lock once it is confirmed
      abbrev after : Cache StoreState → State
      after c = with_left c (insert s.requests id (confirmed q)) (after_all (release_of status.Done q q.held s.lock) s.lock)

      settled : (evicted : Vec CacheEntryKey Global) (c : Cache StoreState) → IsSettled (rules n) mid.managed evicted.items mid c → Steps old c0.words t id head given (Ok (Revalidated evicted.items)) (after c) c.words
      settled evicted c is =
          let es = evicted.items in
          let all = went false es c.managed c.words is.evicts is.within in
          let gone : shelf_of c.store ≡ shelf.cleared es (renewed (key_for q) meta old.shelf) = shelf-purged es mid.store c.store is.purged ∙ ap (shelf.cleared es) renewed_shelf in
          Steps-renewed old c0.words t id head given q there can r reads found meta gives es (after c) c.words c.managed fits all.0.turns all.1 (λ i. record (after c) { managed = all.0.left i; shelf = gone i })

      -- memory ran out in the evictions: it is taken back
      unsettled : (done : StoreDone) (c : Cache StoreState) → IsUnsettled (rules n) q.entry done mid c → Steps old c0.words t id head given (told_of_renewal (Err (renew.Memory done))) (after c) c.words
      unsettled done c back =
          let es : List CacheEntryKey = evicted_of back.cause in
          let all = went true es back.left c.words back.stops.0.1 back.stops.0.2 in
          let told : done_as done ≡ all_done es = done-is true es done back.told in
          let gone : shelf_of back.purged ≡ shelf.cleared es (renewed (key_for q) meta old.shelf) = shelf-purged es mid.store back.purged back.purges ∙ ap (shelf.cleared es) renewed_shelf in
          let left : shelf_of c.store ≡ shelf.removed (key_for q) (shelf.cleared es (renewed (key_for q) meta old.shelf)) = shelf-taken (key_for q) back.purged c.store back.removes ∙ ap (shelf.removed (key_for q)) gone in
          let out : c.managed ≡ taken_out N (alone (key_of q.entry)) (all_gone N es (reweighed old q meta)) =
          back.managed ∙ ap (taken_out n q.entry) all.0.left ∙ ap (λ (v : ℕ). taken_out v q.entry (all_gone N es (reweighed old q meta))) (sym sharded.count)
          ∙ ap (λ (e : CacheEntryKey). taken_out N e (all_gone N es (reweighed old q meta))) entry in
          subst (λ (d : Done). Steps old c0.words t id head given (Err (tier.Memory d)) (after c) c.words) (sym told)
          (Steps-taken-back old c0.words t id head given q there can r reads found meta gives es (after c) c.words back.left fits all.0.turns all.1 (λ i. record (after c) { managed = out i; shelf = left i }))

    -- ---- nothing was done

    -- the outcome of a fault that leaves all as before
    record IsQuiet (fault : RevalidateFault) : Type 0 where
      quiet : is_confirmed_by fault ≡ false
      steps : Steps old c0.words t id head given (told_of_renewal (Err fault)) old c0.words

    memory_out : (d : StoreDone) → IsDone false false [] d → IsQuiet (renew.Memory d)
    memory_out d was = record {
      quiet = was.stored;
      steps = subst (λ (x : Done). Steps old c0.words t id head given (Err (tier.Memory x)) old c0.words) (sym (nothing-was d was)) (Steps-memory old c0.words t id head given q there can);
    }

    -- what is so of n shards and of that weight is so of the state
    of_state : (P : ℕ → ℕ → Type 0) → P n w → P N (weight_then q meta old.shelf)
    of_state P p = subst (λ (v : ℕ). P N v) weighs (subst (λ (v : ℕ). P v w) (sym sharded.count) p)

    kept_out : (fault : RevalidateFault) → IsKeptOut (rules n) weigh (key_for q) q.entry true meta x fault c0.managed → IsQuiet fault
    kept_out renew.NoMeta out = elim out.1 [ inl none ↦ absurd none | inr none ↦ absurd none.1 ]
    kept_out renew.MetaMoment out = absurd (out dated)
    kept_out (renew.Memory d) out = elim out.1 [ inl was ↦ memory_out d was | inr why ↦ memory_out d why.1.1 ]
    kept_out (renew.Weight d) out = elim out.1 [
      | inl none ↦ absurd none
      | inr why ↦ record {
        quiet = refl;
        steps = subst (λ (x : Done). Steps old c0.words t id head given (Err (tier.TooHeavy x)) old c0.words) (sym (nothing-was d why.1.1))
            (Steps-kept-out old c0.words t id head given q there can r reads found meta gives (tier.TooHeavy nothing_done) (refl, of_state (λ k v. IsHeavy k q.entry v c0.managed) why.1.0) refl refl);
      }
    ]
    kept_out (renew.Length d) out = elim out.1 [
      | inl none ↦ absurd none
      | inr why ↦ record {
        quiet = refl;
        steps = subst (λ (x : Done). Steps old c0.words t id head given (Err (tier.TooLong x)) old c0.words) (sym (nothing-was d why.1.1))
            (Steps-kept-out old c0.words t id head given q there can r reads found meta gives (tier.TooLong nothing_done) (refl, of_state (λ k v. IsLong k q.entry c0.managed) why.1.0) refl refl);
      }
    ]
    kept_out (renew.NumbersSpent d) out = elim out.1 [
      | inl none ↦ absurd none
      | inr why ↦ record {
        quiet = refl;
        steps = subst (λ (x : Done). Steps old c0.words t id head given (Err (tier.NumbersSpent x)) old c0.words) (sym (nothing-was d why.1.1))
            (Steps-kept-out old c0.words t id head given q there can r reads found meta gives (tier.NumbersSpent nothing_done) (refl, of_state (λ k v. IsFull k q.entry c0.managed) why.1.0) refl refl);
      }
    ]

    -- ---- all of them

    abbrev After : Result (Vec CacheEntryKey Global) RevalidateFault → Bool → Cache StoreState → Type 0
    After came v c = Steps old c0.words t id head given (told_of_renewal came)
        (with_left c (insert s.requests id (cond v (confirmed q) q)) (cond v (after_all (release_of status.Done q q.held s.lock) s.lock) s.lock)) c.words

    by_settle : (came : Result (Vec CacheEntryKey Global) RevalidateFault) (mid c : Cache StoreState) → IsWeighedAnew (rules n) weigh (key_for q) q.entry true meta x c0 mid → SettleAnswer (rules n) (Some q.entry) came mid c
        → After came (is_confirmed came) c
    by_settle (Ok evicted) mid c anew is = settled mid anew evicted c is
    by_settle (Err (renew.Memory d)) mid c anew is = subst (λ (v : Bool). After (Err (renew.Memory d)) v c) (sym is.told.stored) (unsettled mid anew d c is)
    by_settle (Err _) mid c anew is = absurd is

    by_answer : (came : Result (Vec CacheEntryKey Global) RevalidateFault) (c : Cache StoreState) → RevalidateAnswer (rules n) weigh (key_for q) q.entry true meta (Some x) came c0 c → After came (is_confirmed came) c
    by_answer came c a = elim a [
      | inl done ↦ by_settle came done.0 c done.1 done.2
      | inr out ↦
          let none = kept_out out.0 out.2 in
          let still : old ≡ with_left c0 (insert s.requests id q) s.lock = ap (λ (m : FinMap nat_cmp Request). with_left c0 m s.lock) (sym (insert-same s.requests id q there)) in
          subst (λ (y : Cache StoreState). After came (is_confirmed came) y) (sym out.3)
          (subst (λ (y : Result (Vec CacheEntryKey Global) RevalidateFault). After y (is_confirmed y) c0) (sym out.1)
          (subst (λ (v : Bool). After (Err out.0) v c0) (sym none.quiet)
          (subst (λ (y : State). Steps old c0.words t id head given (told_of_renewal (Err out.0)) y c0.words) still none.steps)))
    ]

    pub renewal-taken : (came : Result (Vec CacheEntryKey Global) RevalidateFault) (c : Cache StoreState) → RevalidateAnswer (rules n) weigh (key_for q) q.entry true meta (body_at (key_for q) c0.store.store) came c0 c
        → After came (is_confirmed came) c
    renewal-taken came c a = by_answer came c (subst (λ (o : Option (Stored CacheMeta)). RevalidateAnswer (rules n) weigh (key_for q) q.entry true meta o came c0 c) body.is a)
