-- A put through the cache is one that the tier may take.
use Rattle.std.proofs.Common.{◌≡◌, ◌≢◌, ℕ, ◌-◌, ◌^◌, List, refl, ap, sym, ◌∙◌, arith, subst, Option, None, Some, true, false, inl, inr, length, Ok, Err}
use Rattle.std.specs.Prelude.{Bool, Result, IfErr}
use Rattle.std.specs.FinMap.{get}
use Rattle.std.specs.Global.{Vec}
use Rattle.std.proofs.lemmas.Bool.{eqb-true}
use Rattle.rand_core.specs.Stream.{Stream}
use Rattle.cache_words.specs.Time.{MomentValue}
use Rattle.cache_words.specs.Key.{CacheKeyValue, key_of}
use Rattle.cache_heads.specs.declared.given.GivenMeta.{GivenMeta}
use Rattle.cache_heads.specs.declared.meta.CacheMeta.{CacheMeta}
use Rattle.cache_heads.specs.declared.reason.NoCacheReason.{NoCacheReason}
use Rattle.cache_heads.specs.declared.reason.NoCacheReason.TheVariants.{OriginNotCache}
use Rattle.head_metas.specs.Internal.{IsWritable}
use Rattle.cache_entries.specs.declared.entry.CacheEntryKey.{CacheEntryKey}
use Rattle.cache_evict.specs.Managed.{Managed, IsSharded}
use Rattle.cache_store.specs.StoreState.{StoreState}
use Rattle.head_parse.specs.Response.{Reading, IsReading, parsed_of}
use Rattle.cache_store.specs.declared.storage.MissFinishType.TheVariants.{Created}
use Rattle.request_store.specs.Admissions.{Cache, was_admitted, IsAdmitted}
use Rattle.cache_evict.specs.Faults.{evicted_of}
use Rattle.store_memory.specs.Misses.{are_numbers_spent}
use Rattle.request_puts.specs.Put.{IsTold, IsOutOfMemory, IsSame, RanOut, IsTakenBack, IsWriteRefused, IsPut, IsOutcome, Puts}
use Rattle.request_puts.specs.Response as cache
use Rattle.request_puts.specs.declared.put.whole.ResponseVerdict.{ResponseVerdict as Given}
use Rattle.request_puts.specs.declared.put.whole.ResponseVerdict.TheVariants as gives
use Rattle.request_puts.specs.declared.put.outcome.PutOutcome.{PutOutcome}
use Rattle.request_puts.specs.declared.put.outcome.PutOutcome.TheVariants.{Stored, Uncacheable}
use Rattle.request_puts.specs.declared.put.outcome.PutFault.{PutFault}
use Rattle.request_puts.specs.declared.put.outcome.PutFault.TheVariants as put
use Rattle.tier_model.specs.Keys.{entry_of, alone}
use Rattle.tier_model.specs.declared.event.Answer.TheVariants as answer
use Rattle.tier_model.specs.declared.event.Done.{Done}
use Rattle.tier_model.specs.declared.event.TierFault.{TierFault}
use Rattle.tier_model.specs.declared.event.TierFault.TheVariants as tier
use Rattle.tier_model.specs.declared.whole.PutVerdict.TheVariants as whole
use Rattle.tier_model.specs.Calls.{Outcome, nothing_done, writes_after}
use Rattle.tier_model.specs.Response.{joined, whole_of, whole_as}
use Rattle.tier_model.specs.Rows.{FinishedBody, size_of}
use Rattle.tier_model.specs.Shelf as shelf
use Rattle.tier_model.specs.State.{State}
use Rattle.tier_model.specs.Step.{BeginsWrite}
use Rattle.tier_requests.specs.Faults.{fault_for}
use Rattle.tier_requests.specs.Shelves.{shelf_of, IsBelow}
use Rattle.tier_requests.proofs.BelowLaws.{below-counted}
use Rattle.tier_single.specs.Puts.{answer_as, kept_by, IsToldAs, IsTellable, IsToldOf}
use Rattle.tier_single.specs.Given.{IsWholeGiven}
use Rattle.tier_single.specs.declared.given.WholeGiven.{WholeGiven}
use Rattle.tier_single.proofs.GivenLaws.{DatedWhole, given-dated}
use Rattle.tier_single.proofs.PutLaws.{IsWholeFor, whole-for, told-tellable, nothing-was, told-so}
use Rattle.tier_single.proofs.PutSteps.{Steps, Steps-unread, Steps-not-kept, Steps-too-early, Steps-incomplete, Steps-bad-head, Steps-ran-out, Steps-spent, counted, Steps-stored}
use Rattle.tier_single.proofs.StoredLaws.{CanBegin, some-left, shelf-whole, spared}
use Rattle.tier_single.proofs.KeptLaws.{rules, with_cache, IsKept, kept-admitted, kept-back, below-store}

module _ (n : ℕ) (s : State) (t : MomentValue) (key : CacheKeyValue) (pieces : List (List ℕ)) (given : Option GivenMeta) (c0 : Cache StoreState) (kept : IsSharded n c0.managed) (below : IsBelow (shelf_of c0.store)) where
  abbrev pub old : State
  old = with_cache s c0

  -- what it leaves, and that the tier may take it
  pub record IsTaken (r : Result PutOutcome PutFault) (c : Cache StoreState) : Type 0 where
    pub sharded : IsSharded n c.managed
    pub under : IsBelow (shelf_of c.store)
    pub tellable : IfErr r IsTellable
    pub takes : (o : Outcome) → IsToldOf r o → Steps old c0.words t key pieces given o (with_cache s c) c.words

  -- with one outcome, which the tier reports
  told_one : (fault : PutFault) (g : TierFault) (c : Cache StoreState) → ((f : TierFault) → IsToldAs fault f → f ≡ g) → Steps old c0.words t key pieces given (Err g) (with_cache s c) c.words
      → (o : Outcome) → IsToldOf (Err fault) o → Steps old c0.words t key pieces given o (with_cache s c) c.words
  told_one fault g c same takes o told =
      subst (λ (x : Outcome). Steps old c0.words t key pieces given x (with_cache s c) c.words) (sym (told.1 ∙ ap (λ (f : TierFault). Err f) (same told.0 told.2))) takes

  moved : (o : Outcome) (new : State) (rest : Stream) (is : State) → new ≡ is → rest ≡ c0.words → Steps old c0.words t key pieces given o is c0.words → Steps old c0.words t key pieces given o new rest
  moved o new rest is e f h =
      subst (λ (x : State). Steps old c0.words t key pieces given o x rest) (sym e) (subst (λ (w : Stream). Steps old c0.words t key pieces given o is w) (sym f) h)

  -- nothing has changed
  same_cache : (c : Cache StoreState) → IsSame (rules n) c0 c → c0 ≡ c
  same_cache c same = sym (λ i. record { store = same.store i; managed = same.managed i; words = same.words i })

  left_so : (r : Result PutOutcome PutFault) (c : Cache StoreState) → IsSame (rules n) c0 c → IsTaken r c0 → IsTaken r c
  left_so r c same p = subst (IsTaken r) (same_cache c same) p

  with_same : (r : Result PutOutcome PutFault) → IfErr r IsTellable → ((o : Outcome) → IsToldOf r o → Steps old c0.words t key pieces given o old c0.words) → IsTaken r c0
  with_same r tellable takes = record { sharded = kept; under = below; tellable = tellable; takes = takes }

  memory_told : (fault : PutFault) → IsOutOfMemory fault → IsTellable fault × ((f : TierFault) → IsToldAs fault f → f ≡ tier.Memory nothing_done)
  memory_told fault out =
      subst (λ (x : PutFault). IsTellable x × ((f : TierFault) → IsToldAs x f → f ≡ tier.Memory nothing_done)) (sym out.1)
      (tt, λ f e. e ∙ ap (λ (d : Done). tier.Memory d) (nothing-was out.0 out.2))

  -- memory ran out before anything was known
  unread : (fault : PutFault) → IsOutOfMemory fault → IsTaken (Err fault) c0
  unread fault out =
      let told = memory_told fault out in
      with_same (Err fault) told.0 (told_one fault (tier.Memory nothing_done) c0 told.1 (Steps-unread old c0.words t key pieces given))

  module _ (r : Reading) (reads : IsReading (joined pieces) r) where
    -- ---- no body is stored

    not_kept : (reason : NoCacheReason) → IsWholeFor (gives.Uncacheable reason) (whole_as given t r) → IsTaken (Ok (Uncacheable reason)) c0
    not_kept reason is = with_same (Ok (Uncacheable reason)) tt (λ o told. elim is [
      | inl origin ↦
          subst (λ (x : Outcome). Steps old c0.words t key pieces given x old c0.words) (sym (told ∙ ap (λ (x : NoCacheReason). answer_as (Uncacheable x)) origin.0))
          (Steps-not-kept old c0.words t key pieces given r reads OriginNotCache origin.1)
      | inr epoch ↦
          subst (λ (x : Outcome). Steps old c0.words t key pieces given x old c0.words) (sym (told ∙ ap (λ (x : NoCacheReason). answer_as (Uncacheable x)) epoch.0))
          (Steps-too-early old c0.words t key pieces given r reads epoch.1)
    ])

    incomplete : whole_as given t r ≡ whole.Incomplete → IsTaken (Err put.Incomplete) c0
    incomplete is = with_same (Err put.Incomplete) tt (told_one put.Incomplete tier.Incomplete c0 (λ f e. e) (Steps-incomplete old c0.words t key pieces given r reads is))

    bad_head : whole_as given t r ≡ whole.BadHead → IsTaken (Err put.BadHead) c0
    bad_head is = with_same (Err put.BadHead) tt (told_one put.BadHead tier.BadHead c0 (λ f e. e) (Steps-bad-head old c0.words t key pieces given r reads is))

    -- ---- a body that may be kept

    module _ (meta : CacheMeta) (body : List ℕ) (is : whole_as given t r ≡ whole.Stored (record { bytes = body; meta = meta })) where
      abbrev b : FinishedBody
      b = record { entry = entry_of key; body = record { bytes = body; meta = meta } }

      -- no write that is yet to begin has readers
      new_readers : get (shelf_of c0.store).readers c0.store.next ≡ None
      new_readers = below.readers c0.store.next (omega arith)

      -- memory ran out before it was stored
      ran_out : (fault : PutFault) (c : Cache StoreState) → RanOut (rules n) meta fault c0 c → IsTaken (Err fault) c
      ran_out fault c out =
          let told = memory_told fault out.told in
          let sp = spared c0.store c.store new_readers out.store in
          record {
            sharded = subst (λ (m : Managed). IsSharded n m) (sym out.managed) kept;
            under = subst IsBelow (sym sp.shelf) (begun_below sp.began);
            tellable = told.0;
            takes = told_one fault (tier.Memory nothing_done) c told.1
                (moved (Err (tier.Memory nothing_done)) (with_cache s c) c.words _ (λ i. record s { managed = out.managed i; shelf = sp.shelf i }) out.words
                (Steps-ran-out old c0.words t key pieces given r reads (record { bytes = body; meta = meta }) is (some-left c0.store.next out.left) sp.began (begins sp.began sp.can)));
          }
        where
          begun_below : (v : Bool) → IsBelow (record (shelf_of c0.store) { writes = writes_after c0.store.next v })
          begun_below true = below-counted (shelf_of c0.store) below
          begun_below false = below

          begins : (v : Bool) → CanBegin c0.store.next v → BeginsWrite old true false v
          begins true can = (refl, can)
          begins false can = refl

      -- the store takes no write
      refused : (fault : PutFault) (c : Cache StoreState) → IsWritable meta.internal → IsWriteRefused (rules n) meta fault c0 c → IsTaken (Err fault) c
      refused put.WriteNumbersSpent c written p =
          left_so (Err put.WriteNumbersSpent) c p.1
          (with_same (Err put.WriteNumbersSpent) tt (told_one put.WriteNumbersSpent (tier.NumbersSpent nothing_done) c0 (λ f e. e)
          (Steps-spent old c0.words t key pieces given r reads (record { bytes = body; meta = meta }) is (eqb-true c0.store.next (2 ^ 64 - 1) p.0))))
      refused put.MetaMoment c written p = absurd (p.1 written)
      refused _ c written p = absurd p

      -- it is stored, and what came of it
      abbrev over : State
      over = counted old c0.words t key pieces given r reads (record { bytes = body; meta = meta }) is

      module _ (mid : StoreState) (shelved : shelf_of mid ≡ shelf.stored c0.store.next b over.shelf) (number : c0.store.next ≢ 2 ^ 64 - 1) where
        over_below : (o : Outcome) (c : Cache StoreState) → IsKept n over c0.store.next b kept c0.words mid shelved o c → IsBelow (shelf_of c.store)
        over_below o c k = subst (λ (x : State). IsBelow x.shelf) (sym k.stores.after) (below-store over c0.store.next b o (below-counted (shelf_of c0.store) below))

        taken_so : (res : Result PutOutcome PutFault) (o : Outcome) (c : Cache StoreState) → IfErr res IsTellable → ((x : Outcome) → IsToldOf res x → x ≡ o) → IsKept n over c0.store.next b kept c0.words mid shelved o c → IsTaken res c
        taken_so res o c tellable same k = record {
          sharded = k.sharded;
          under = over_below o c k;
          tellable = tellable;
          takes = λ x told. subst (λ (y : Outcome). Steps old c0.words t key pieces given y (with_cache s c) c.words) (sym (same x told))
              (Steps-stored old c0.words t key pieces given r reads (record { bytes = body; meta = meta }) is number o (with_cache s c) c.words k.stores);
        }

        admitted : (size : ℕ) (evicted : Vec CacheEntryKey) (c : Cache StoreState) → size ≡ length body
            → IsAdmitted (rules n) (Created (size_of b.body)) (alone (entry_of key)) evicted.items (record c0 { store = mid }) c → IsTaken (Ok (Stored size evicted)) c
        admitted size evicted c sized a =
            taken_so (Ok (Stored size evicted)) (Ok (answer.Finished size evicted.items)) c tt (λ x told. told) (kept-admitted n over c0.store.next b kept c0.words mid shelved size evicted.items c sized a)

        taken_back : (fault : PutFault) (c : Cache StoreState) → IsTakenBack (rules n) (Created (size_of b.body)) (alone (entry_of key)) fault (record c0 { store = mid }) c → IsTaken (Err fault) c
        taken_back fault c back =
            let was : Bool = was_admitted n (alone b.entry) back.cause back.left in
            let f : TierFault = fault_for back.cause (record { stored = true; admitted = was; evicted = evicted_of back.cause }) in
            taken_so (Err fault) (Err f) c (told-tellable was back.cause fault back.told) (λ x told. told.1 ∙ ap (λ (g : TierFault). Err g) (told-so was back.cause fault told.0 back.told told.2))
            (kept-back n over c0.store.next b kept c0.words mid shelved IsTold fault f c back refl)

      pub put-kept : (res : Result PutOutcome PutFault) (c : Cache StoreState) → IsWritable meta.internal → IsPut (rules n) (key_of key) meta body res c0 c → IsTaken res c
      put-kept (Ok (Stored size evicted)) c written p =
          let so = p.1 in
          admitted so.0 (shelf-whole (are_numbers_spent c0.store) b c0.store so.0 so.2 new_readers) (some-left c0.store.next so.2.numbered) size evicted c p.0 so.3
      put-kept (Ok (Uncacheable reason)) c written p = absurd p
      put-kept (Err fault) c written p = elim p [
        | inl out ↦ ran_out fault c out
        | inr late ↦ elim late [
          | inl spent ↦ refused fault c written spent
          | inr so ↦ taken_back so.0 (shelf-whole (are_numbers_spent c0.store) b c0.store so.0 so.2 new_readers) (some-left c0.store.next so.2.numbered) fault c so.3
        ]
      ]

    -- ---- all of them

    by_whole : (w : Given) → IsWholeFor w (whole_as given t r) → (res : Result PutOutcome PutFault) (c : Cache StoreState) → IsOutcome (rules n) (key_of key) w res c0 c → IsTaken res c
    by_whole (gives.Cacheable meta body) is res c p = put-kept meta body is.0 res c is.1 p
    by_whole (gives.Uncacheable reason) is res c p = subst (λ (x : Result PutOutcome PutFault). IsTaken x c) (sym p.0) (left_so (Ok (Uncacheable reason)) c p.1 (not_kept reason is))
    by_whole gives.TooLarge is res c p = absurd is
    by_whole gives.Incomplete is res c p = subst (λ (x : Result PutOutcome PutFault). IsTaken x c) (sym p.0) (left_so (Err put.Incomplete) c p.1 (incomplete is))
    by_whole gives.BadHead is res c p = subst (λ (x : Result PutOutcome PutFault). IsTaken x c) (sym p.0) (left_so (Err put.BadHead) c p.1 (bad_head is))

module _ (n : ℕ) (s : State) (t : MomentValue) (key : CacheKeyValue) (pieces : List (List ℕ)) (c0 : Cache StoreState) (kept : IsSharded n c0.managed) (below : IsBelow (shelf_of c0.store)) where
  -- a put that is judged by its lines
  pub put-taken : (res : Result PutOutcome PutFault) (c : Cache StoreState) → Puts (rules n) (key_of key) (cache.Gives None (kept_by t) (joined pieces)) res c0 c → IsTaken n s t key pieces None c0 kept below res c
  put-taken res c p = elim p [
    | inl early ↦ subst (λ (x : Result PutOutcome PutFault). IsTaken n s t key pieces None c0 kept below x c) (sym early.1)
        (left_so n s t key pieces None c0 kept below (Err early.0) c early.3 (unread n s t key pieces None c0 kept below early.0 early.2))
    | inr known ↦
        let r = known.1.0 in
        by_whole n s t key pieces None c0 kept below r known.1.1 known.0 (subst (λ (w : Given). IsWholeFor w (whole_of t r)) (sym known.1.2) (whole-for t (parsed_of r))) res c known.2
  ]

  -- a put with a given meta
  pub given-taken : (g : GivenMeta) (w : WholeGiven) → IsWholeGiven g (joined pieces) (Ok w) → (res : Result PutOutcome PutFault) (c : Cache StoreState)
      → IsPut (rules n) (key_of key) w.meta w.body res c0 c → IsTaken n s t key pieces (Some g) c0 kept below res c
  given-taken g w known res c p =
      put-kept n s t key pieces (Some g) c0 kept below known.0 known.1 w.meta w.body known.2 res c (subst DatedWhole known.2 (given-dated g known.0)) p
