-- The finish of a request's write is one that the tier may take.
use Rattle.std.proofs.Common.{◌≡◌, ℕ, [], refl, ap, sym, ◌∙◌, Bool, true, false, subst, cond, inl, inr, Some, None, Option, max, length, Ok, Err}
use Rattle.std.specs.Prelude.{Result, is_some, option_map, MatchOption}
use Rattle.std.specs.FinMap.{FinMap, get, insert}
use Rattle.std.specs.Ordering.{nat_cmp}
use Rattle.cache_words.specs.Time.{MomentValue}
use Rattle.cache_words.specs.Key.{CacheKeyValue}
use Rattle.cache_heads.specs.declared.meta.CacheMeta.{CacheMeta}
use Rattle.cache_entries.specs.declared.entry.CacheEntryId.{CacheEntryId}
use Rattle.cache_entries.specs.declared.entry.CacheEntryKey.{CacheEntryKey}
use Rattle.cache_entries.specs.Entry.{key_of}
use Rattle.cache_changes.specs.Store.{Stored, Flying}
use Rattle.cache_changes.specs.Store as store
use Rattle.cache_evict.specs.declared.fault.EvictFault.{EvictFault}
use Rattle.cache_evict.specs.declared.fault.EvictFault.TheVariants as evict
use Rattle.cache_evict.specs.Faults.{evicted_of}
use Rattle.cache_evict.specs.Managed.{IsSharded, pick_by_draws}
use Rattle.cache_store.specs.Answers.{alive_key, left}
use Rattle.cache_store.specs.StoreState.{StoreState}
use Rattle.cache_store.specs.declared.storage.MissFinishType.{MissFinishType}
use Rattle.cache_store.specs.declared.storage.MissFinishType.TheVariants.{Created}
use Rattle.request_store.specs.Admissions.{Cache, was_admitted, IsDone, IsAdmitted, IsTakenBack}
use Rattle.request_store.specs.declared.done.Done.{Done as StoreDone}
use Rattle.request_store.specs.Entries.{entry_at}
use Rattle.request_store.specs.Finishes.{IsToldAs, IsStored, OnlyHolds, NotStoredAnswer, AdmitAnswer, Finishes}
use Rattle.request_store.specs.declared.faults.Finished.{Finished}
use Rattle.request_store.specs.declared.faults.FinishFault.{FinishFault}
use Rattle.request_store.specs.declared.faults.FinishFault.TheVariants as finish
use Rattle.request_cache.specs.Finishes.{finish_status}
use Rattle.cache_lock.specs.declared.status.LockStatus.TheVariants as status
use Rattle.tier_model.specs.Keys.{alone}
use Rattle.tier_model.specs.declared.event.Done.{Done}
use Rattle.tier_model.specs.declared.event.TierFault.{TierFault}
use Rattle.tier_model.specs.declared.event.TierFault.TheVariants as tier
use Rattle.tier_model.specs.Calls.{Outcome, nothing_done}
use Rattle.tier_model.specs.Rows.{FinishedBody, size_of}
use Rattle.tier_model.specs.Shelf as shelf
use Rattle.tier_model.specs.Shelf.{InFlight, landed}
use Rattle.tier_model.specs.State.{Request, State}
use Rattle.tier_model.specs.Answers.{key_for, body_under, flight_of as flight_in, finishing}
use Rattle.tier_requests.specs.Faults.{fault_for}
use Rattle.tier_requests.specs.Finishes.{told_as, told_of, Ends, FinishAnswer}
use Rattle.tier_requests.specs.Rows.{OnOpen}
use Rattle.tier_requests.specs.Shelves.{found_in, flight_of, shelf_of, IsBelow}
use Rattle.tier_requests.proofs.FlightLaws.{flight-at}
use Rattle.tier_requests.proofs.ShelfLaws.{shelf-left}
use Rattle.tier_requests.proofs.BelowLaws.{below-landed}
use Rattle.tier_single.proofs.FinishSteps.{Steps, Steps-none, Steps-wrong, flown, Steps-removed, Steps-memory, Steps-stored}
use Rattle.tier_single.proofs.FlightLaws.{FliesFor}
use Rattle.tier_single.proofs.KeptLaws.{rules, with_cache, IsKept, kept-admitted, kept-back, below-store}
use Rattle.tier_single.proofs.PutLaws.{done-is}
use Rattle.tier_single.proofs.StoredLaws.{held_as, shelf-finished}
use Rattle.tier_single.proofs.TookLaws.{insert-same}

-- ---- refusals after a body was stored

-- a fault of the order of use is reported with what was done
told-finish : (a : Bool) (cause : EvictFault) (fault : FinishFault) → IsToldAs a cause fault → told_as fault ≡ fault_for cause (record { stored = true; admitted = a; evicted = evicted_of cause })
told-finish a (evict.Memory v) (finish.Memory d) t = ap (λ (x : Done). tier.Memory x) (done-is a v.items d t)
told-finish a (evict.Memory v) _ t = absurd t
told-finish a (evict.Weight v) (finish.Weight d) t = ap (λ (x : Done). tier.TooHeavy x) (done-is a v.items d t)
told-finish a (evict.Weight v) _ t = absurd t
told-finish a (evict.Length v) (finish.Length d) t = ap (λ (x : Done). tier.TooLong x) (done-is a v.items d t)
told-finish a (evict.Length v) _ t = absurd t
told-finish a (evict.NumbersSpent v) (finish.NumbersSpent d) t = ap (λ (x : Done). tier.NumbersSpent x) (done-is a v.items d t)
told-finish a (evict.NumbersSpent v) _ t = absurd t
told-finish a (evict.File v) _ t = absurd t

-- and ends the write
ends-write : (a : Bool) (cause : EvictFault) (fault : FinishFault) → IsToldAs a cause fault → is_some (finish_status (Err fault)) ≡ true
ends-write a (evict.Memory v) (finish.Memory d) t = ap (λ (w : Bool). is_some (cond w (Some status.Done) None)) t.stored
ends-write a (evict.Memory v) _ t = absurd t
ends-write a (evict.Weight v) (finish.Weight d) t = refl
ends-write a (evict.Weight v) _ t = absurd t
ends-write a (evict.Length v) (finish.Length d) t = refl
ends-write a (evict.Length v) _ t = absurd t
ends-write a (evict.NumbersSpent v) (finish.NumbersSpent d) t = refl
ends-write a (evict.NumbersSpent v) _ t = absurd t
ends-write a (evict.File v) _ t = absurd t

-- the same number is the write's, and a store gives no ids
abbrev number : ℕ → ℕ
number m = m

abbrev no_id : ℕ → Option CacheEntryId
no_id m = None

module _ (n : ℕ) (s : State) (t : MomentValue) (id : ℕ) (c0 : Cache StoreState) (kept : IsSharded n c0.managed) (below : IsBelow (shelf_of c0.store)) where
  abbrev pub old : State
  old = with_cache s c0

  abbrev pub with_left : Cache StoreState → FinMap nat_cmp Request → State
  with_left c requests = record (with_cache s c) { requests = requests }

  -- what it leaves, and that the tier may take it
  pub record IsTaken (o : Outcome) (c : Cache StoreState) (requests : FinMap nat_cmp Request) : Type 0 where
    pub sharded : IsSharded n c.managed
    pub under : IsBelow (shelf_of c.store)
    pub steps : Steps old c0.words t id o (with_left c requests) c.words

  module _ (q : Request) (m : ℕ) (there : get s.requests id ≡ Some q) (writes : q.write ≡ Some m) (flies : FliesFor old q m) where
    abbrev rest : FinMap nat_cmp Request
    rest = insert s.requests id (record q { write = None })

    abbrev over : Bool → State
    over = flown old c0.words t id q m there writes

    -- the body of the write, stored
    record IsShelved (kind : MissFinishType) (size : ℕ) (mid : StoreState) : Type 0 where
      body : FinishedBody
      finishes : finishing q old.shelf ≡ Some body
      kind_is : kind ≡ Created (size_of body.body)
      size_is : size ≡ length body.body.bytes
      entry : alone body.entry ≡ q.entry
      shelf : shelf_of mid ≡ shelf.stored m body (landed true m old.shelf)

    finishing_by : (o : Option (Flying CacheMeta)) → store.flying_at m c0.store.store ≡ o → finishing q old.shelf ≡ body_under q.entry (option_map flight_of o)
    finishing_by o is = ap (λ (w : Option ℕ). body_under q.entry (flight_in w old.shelf)) writes ∙ ap (body_under q.entry) (flight-at m c0.store.store.flying ∙ ap (option_map flight_of) is)

    -- what a stored write is under the entry of its request
    abbrev body_for : Stored CacheMeta → FinishedBody
    body_for x = record { entry = key_of q.entry; body = (found_in x).body }

    shelved : (kind : MissFinishType) (size : ℕ) (mid : StoreState) → IsStored (rules n).held (rules n).ids number no_id (rules n).told m kind size c0.store mid → IsShelved kind size mid
    shelved kind size mid stores = by_flight (store.flying_at m c0.store.store) refl (sym (flight-at m c0.store.store.flying) ∙ flies.at) stores.alive
      where
        x : Stored CacheMeta
        x = stores.body

        by_removed : (g : Flying CacheMeta) → store.flying_at m c0.store.store ≡ Some g → flight_of g ≡ flies.flight → (v : Bool) → g.removed ≡ v → is_some (cond v None (Some g.stored.write.key)) ≡ true → IsShelved kind size mid
        by_removed g at same true removed alive = absurd cc
        by_removed g at same false removed alive =
            let is : g.stored ≡ x = let both : Some g.stored ≡ Some x = sym (ap (option_map (λ f. f.stored)) at) ∙ stores.finished.shown in cc in
            let key : x.write.key ≡ key_for q = ap (λ (y : Stored CacheMeta). y.write.key) (sym is) ∙ ap (λ (f : InFlight). f.key) same ∙ flies.key in
            let own : x.write.number ≡ m = ap (λ (y : Stored CacheMeta). y.write.number) (sym is) ∙ ap (λ (f : InFlight). f.number) same ∙ flies.number in
            record {
              body = body_for x;
              finishes = finishing_by (Some g) at ∙ ap (λ (v : Bool). cond v None (Some (body_for g.stored))) removed ∙ ap (λ (y : Stored CacheMeta). Some (body_for y)) is;
              kind_is = stores.told_so;
              size_is = stores.sized;
              entry = sym flies.entry;
              shelf = shelf-finished m (body_for x) x c0.store mid stores.finished key (ap (λ k. held_as k (body_for x)) own);
            }

        by_flight : (o : Option (Flying CacheMeta)) → store.flying_at m c0.store.store ≡ o → option_map flight_of o ≡ Some flies.flight → is_some (alive_key o) ≡ true → IsShelved kind size mid
        by_flight None at same alive = absurd cc
        by_flight (Some g) at same alive = by_removed g at (let is : flight_of g ≡ flies.flight = cc in is) g.removed refl alive

    -- ---- nothing is stored

    removed : (c : Cache StoreState) → OnlyHolds (rules n) number no_id (left m c0.store) c0 c → alive_key (store.flying_at m c0.store.store) ≡ None → IsTaken (Err tier.WriteRemoved) c rest
    removed c h none =
        let is : shelf_of c.store ≡ landed false m old.shelf = ap shelf_of h.store ∙ shelf-left m c0.store in
        let gone : with_left c rest ≡ over false = λ i. record s { managed = h.managed i; shelf = is i; requests = rest } in
        record {
          sharded = subst (λ m. IsSharded n m) (sym h.managed) kept;
          under = subst IsBelow (sym is) (below-landed false m old.shelf below);
          steps = subst (λ x. Steps old c0.words t id (Err tier.WriteRemoved) x c.words) (sym gone) (subst (λ w. Steps old c0.words t id (Err tier.WriteRemoved) (over false) w) (sym h.words)
              (Steps-removed old c0.words t id q m there writes (by_flight (store.flying_at m c0.store.store) refl none)));
        }
      where
        by_flight : (o : Option (Flying CacheMeta)) → store.flying_at m c0.store.store ≡ o → alive_key o ≡ None → finishing q old.shelf ≡ None
        by_flight None at none = finishing_by None at
        by_flight (Some g) at none = finishing_by (Some g) at ∙ by_removed g.removed none
          where
            by_removed : (v : Bool) → cond v None (Some g.stored.write.key) ≡ None → cond {A = Option FinishedBody} v None (Some (body_for g.stored)) ≡ None
            by_removed true e = refl
            by_removed false e = absurd cc

    -- a write that no removal met has a body to finish
    alive_body : is_some (alive_key (store.flying_at m c0.store.store)) ≡ true → (b : FinishedBody) × (finishing q old.shelf ≡ Some b)
    alive_body alive = by_flight (store.flying_at m c0.store.store) refl alive
      where
        by_flight : (o : Option (Flying CacheMeta)) → store.flying_at m c0.store.store ≡ o → is_some (alive_key o) ≡ true → (b : FinishedBody) × (finishing q old.shelf ≡ Some b)
        by_flight None at e = absurd cc
        by_flight (Some g) at e = by_removed g.removed refl e
          where
            body : FinishedBody
            body = body_for g.stored

            by_removed : (v : Bool) → g.removed ≡ v → is_some (cond v None (Some g.stored.write.key)) ≡ true → (b : FinishedBody) × (finishing q old.shelf ≡ Some b)
            by_removed true was e = absurd cc
            by_removed false was e = (body, finishing_by (Some g) at ∙ ap (λ (w : Bool). cond {A = Option FinishedBody} w None (Some body)) was)

    unread : (b : FinishedBody) → finishing q old.shelf ≡ Some b → (d : StoreDone) → IsDone false false [] d → (c : Cache StoreState) → OnlyHolds (rules n) number no_id c0.store c0 c → IsTaken (told_of (Err (finish.Memory d))) c (insert s.requests id (cond (is_some (finish_status (Err (finish.Memory d)))) (record q { write = None }) q))
    unread b is d nothing c h =
        rw (nothing.stored, nothing.admitted, nothing.evicted, insert-same s.requests id q there)
        (record {
          sharded = subst (λ m. IsSharded n m) (sym h.managed) kept;
          under = subst (λ x. IsBelow (shelf_of x)) (sym h.store) below;
          steps = subst (λ x. Steps old c0.words t id (Err (tier.Memory nothing_done)) x c.words) (sym same) (subst (λ w. Steps old c0.words t id (Err (tier.Memory nothing_done)) old w) (sym h.words)
              (Steps-memory old c0.words t id q m there writes b is));
        })
      where
        same : with_left c s.requests ≡ old
        same = λ i. record s { managed = h.managed i; shelf = shelf_of (h.store i) }

    -- ---- its body is stored

    kept_so : (o : Outcome) (c : Cache StoreState) (mid : StoreState) (kind : MissFinishType) (size : ℕ) (x : IsShelved kind size mid) → IsKept n (over true) m x.body kept c0.words mid x.shelf o c → IsTaken o c rest
    kept_so o c mid kind size x k = record {
      sharded = k.sharded;
      under = subst (λ (y : State). IsBelow y.shelf) (sym k.stores.after) (below-store (over true) m x.body o (below-landed true m old.shelf below));
      steps = Steps-stored old c0.words t id q m there writes x.body x.finishes o (with_left c rest) c.words k.stores;
    }

    admitted : (came : Result (Option Finished) FinishFault) (key : Option CacheKeyValue) → q.entry ≡ entry_at key None → (mid : StoreState) (kind : MissFinishType) (size : ℕ) (c : Cache StoreState) → IsShelved kind size mid
        → AdmitAnswer (rules n) number no_id true kind size (entry_at key None) came (record c0 { store = mid }) c → (is_some (finish_status came) ≡ true) × IsTaken (told_of came) c rest
    admitted (Ok (Some f)) key entry mid kind size c x a =
        let told : f.length ≡ length x.body.body.bytes = a.1 ∙ x.size_is in
        let b : IsAdmitted (rules n) (Created (size_of x.body.body)) (alone x.body.entry) f.evicted.items (record c0 { store = mid }) c =
        subst (λ (y : MissFinishType). IsAdmitted (rules n) y (alone x.body.entry) f.evicted.items (record c0 { store = mid }) c) x.kind_is
        (subst (λ (e : CacheEntryKey). IsAdmitted (rules n) kind e f.evicted.items (record c0 { store = mid }) c) (sym entry ∙ sym x.entry) a.2) in
        (refl, kept_so (told_of (Ok (Some f))) c mid kind size x (kept-admitted n (over true) m x.body kept c0.words mid x.shelf f.length f.evicted.items c told b))
    admitted (Ok None) key entry mid kind size c x a = absurd a
    admitted (Err fault) key entry mid kind size c x a =
        let b : IsTakenBack (rules n) IsToldAs (Created (size_of x.body.body)) (alone x.body.entry) fault (record c0 { store = mid }) c =
        subst (λ (y : MissFinishType). IsTakenBack (rules n) IsToldAs y (alone x.body.entry) fault (record c0 { store = mid }) c) x.kind_is
        (subst (λ (e : CacheEntryKey). IsTakenBack (rules n) IsToldAs kind e fault (record c0 { store = mid }) c) (sym entry ∙ sym x.entry) a) in
        let was : Bool = was_admitted n (alone x.body.entry) b.cause b.left in (
          ends-write was b.cause fault b.told,
          kept_so (told_of (Err fault)) c mid kind size x (kept-back n (over true) m x.body kept c0.words mid x.shelf IsToldAs fault (told_as fault) c b (told-finish was b.cause fault b.told)),
        )

    -- ---- all of them

    abbrev left_by : Result (Option Finished) FinishFault → FinMap nat_cmp Request
    left_by came = insert s.requests id (cond (is_some (finish_status came)) (record q { write = None }) q)

    not_stored : (came : Result (Option Finished) FinishFault) (c : Cache StoreState) → NotStoredAnswer (rules n) number no_id m came c0 c → IsTaken (told_of came) c (left_by came)
    not_stored (Ok x) c a = absurd a
    not_stored (Err finish.WriteRemoved) c a = removed c a.1 a.0
    not_stored (Err (finish.Memory d)) c a = let same : d ≡ a.0.0 = cc in let b = alive_body a.1 in unread b.0 b.1 d (subst (IsDone false false []) (sym same) a.0.2) c a.2
    not_stored (Err (finish.Weight d)) c a = let clash : finish.Weight d ≡ finish.Memory a.0.0 = a.0.1 in absurd cc
    not_stored (Err (finish.Length d)) c a = let clash : finish.Length d ≡ finish.Memory a.0.0 = a.0.1 in absurd cc
    not_stored (Err (finish.NumbersSpent d)) c a = let clash : finish.NumbersSpent d ≡ finish.Memory a.0.0 = a.0.1 in absurd cc

    by_came : (came : Result (Option Finished) FinishFault) (key : Option CacheKeyValue) (c : Cache StoreState) → q.entry ≡ entry_at key None → Finishes (rules n) number no_id m key true came c0 c
        → IsTaken (told_of came) c (left_by came)
    by_came came key c entry f = elim f [
      | inl nothing ↦ not_stored came c nothing
      | inr stores ↦
          let x = admitted came key entry stores.0 stores.1 stores.2 c (shelved stores.1 stores.2 stores.0 stores.3) stores.4 in
          subst (λ (v : Bool). IsTaken (told_of came) c (insert s.requests id (cond v (record q { write = None }) q))) (sym x.0) x.1
    ]

    finished-so : (o : Outcome) (now : Request) (c : Cache StoreState) → Ends n (λ size. max size 1) (pick_by_draws n) m q c0 o now c → IsTaken o c (insert s.requests id now)
    finished-so o now c e = rw (e.told, e.request) (by_came e.came e.key c e.entry e.ends)

  pub finish-taken : ((q : Request) (m : ℕ) → get s.requests id ≡ Some q → q.write ≡ Some m → FliesFor old q m) → (o : Outcome) (c : Cache StoreState) (requests : FinMap nat_cmp Request)
      → OnOpen id s.requests ((o ≡ Err tier.NoRequest) × (c ≡ c0)) (λ q now. FinishAnswer n (λ size. max size 1) (pick_by_draws n) q.write q c0 o now c) requests → IsTaken o c requests
  finish-taken flies o c requests h = by_open (get s.requests id) refl h
    where
      refused : (f : TierFault) → Steps old c0.words t id (Err f) old c0.words → IsTaken (Err f) c0 s.requests
      refused f steps = record { sharded = kept; under = below; steps = steps }

      by_write : (q : Request) (now : Request) (w : Option ℕ) → get s.requests id ≡ Some q → q.write ≡ w → FinishAnswer n (λ size. max size 1) (pick_by_draws n) w q c0 o now c
          → IsTaken o c (insert s.requests id now)
      by_write q now None there none p = rw (p.0, p.1, p.2, insert-same s.requests id q there) (refused tier.WrongPhase (Steps-wrong old c0.words t id q there none))
      by_write q now (Some m) there writes p = finished-so q m there writes (flies q m there writes) o now c p

      by_open : (x : Option Request) → get s.requests id ≡ x
          → MatchOption x (((o ≡ Err tier.NoRequest) × (c ≡ c0)) × (requests ≡ s.requests))
          (λ q. (now : Request) × FinishAnswer n (λ size. max size 1) (pick_by_draws n) q.write q c0 o now c × (requests ≡ insert s.requests id now))
          → IsTaken o c requests
      by_open None none h = rw (h.0.0, h.0.1, h.1) (refused tier.NoRequest (Steps-none old c0.words t id none))
      by_open (Some q) there h = subst (λ (r : FinMap nat_cmp Request). IsTaken o c r) (sym h.2) (by_write q h.0 q.write there refl h.1)
