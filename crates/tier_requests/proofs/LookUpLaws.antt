-- How a look-up of a request ends, as the plain record has it.
use Rattle.std.proofs.Common.{◌≡◌, ℕ, refl, ap, sym, ◌∙◌, subst, Bool, true, false, inl, Some, None, Option, List}
use Rattle.std.specs.Prelude.{is_some, Ok, Err, MatchResult}
use Rattle.cache_heads.specs.declared.meta.CacheMeta.{CacheMeta}
use Rattle.cache_words.specs.Time.{MomentValue, DurationValue}
use Rattle.cache_evict.specs.Managed.{Managed}
use Rattle.cache_lock.specs.declared.fault.LockFault.{LockFault}
use Rattle.cache_lock.specs.Answers.{to_wait_for, IsRefused}
use Rattle.cache_lock.specs.State.{LockState}
use Rattle.request_phases.specs.declared.request_lock.RequestLock.{RequestLock}
use Rattle.request_phases.specs.Locks.{is_read, held, given_by, asked as asked_lock, now_holding}
use Rattle.cache_store.specs.declared.storage.store.FoundAt.{FoundAt}
use Rattle.cache_store.specs.declared.storage.store.FoundAt.TheVariants.{Fresh, Stale}
use Rattle.cache_store.specs.StoreState.{StoreState}
use Rattle.cache_store.specs.Looks.{shows}
use Rattle.cache_store.specs.Readers.{PartsReader}
use Rattle.store_memory.specs.declared.handlers.MemHitHandler.{MemHitHandler}
use Rattle.store_memory.specs.Readings.{reader_of}
use Rattle.request_cache.specs.Request.{stored_at}
use Rattle.request_cache.specs.Points.{point}
use Rattle.tier_model.specs.declared.event.Answer.{Answer}
use Rattle.tier_model.specs.declared.event.Answer.TheVariants.{Absent}
use Rattle.tier_model.specs.Calls.{Outcome}
use Rattle.tier_model.specs.Shelf.{Look, absent}
use Rattle.tier_model.specs.State.{closed, Request}
use Rattle.tier_model.specs.Checks.{look_refusal}
use Rattle.tier_model.specs.Standings.{phase_absent}
use Rattle.tier_model.specs.Answers.{look_for, asks_now}
use Rattle.tier_model.specs.After.{turned, looked}
use Rattle.tier_requests.specs.Faults.{out_of_memory, lock_fault_for}
use Rattle.tier_requests.specs.Looks.{lent, LooksBy, LookAnswer}
use Rattle.tier_requests.specs.Shelves.{shelf_of}
use Rattle.tier_requests.specs.Plain.{Driven, given_of, reader_in, plain_of, IsDriven}
use Rattle.tier_requests.specs.Finds.{IsFoundBy, hit_told, FoundAnswer, missed_by}
use Rattle.tier_requests.proofs.PlainLaws.{waits-in}
use Rattle.tier_requests.proofs.ShelfLaws.{shelf-same}
use Rattle.tier_requests.proofs.FindLaws.{key-stored, look-none, look-some, FindsOne, finds-one, shelf-counted, shelf-spared}
use Rattle.tier_requests.proofs.LookLaws.{held_by, IsFree, free-of, FindsNone}
use Rattle.tier_requests.proofs.MissedLaws.{missed-lock-same, missed-reader-same, plain-missed}
use Rattle.tier_requests.proofs.ToldLaws.{IsToldAs, FindsAs}
use Rattle.tier_requests.proofs.GivenLaws.{IsGiven, missed-lock, and-yes, lock-refused, lock-left}

-- what is reported of what a look-up found is so of what the state has
told_by : (t : MomentValue) (l : Look) (meta : CacheMeta) (told : FoundAt MemHitHandler) (h mid : StoreState) → IsToldAs t meta told → FindsOne t l meta (hit_told told) h mid → IsFoundBy t l told
told_by t l meta (Fresh until hit) h mid is one = (one.fresh ∙ is, one.reads)
told_by t l meta (Stale told hit) h mid is one = (one.fresh ∙ is.0, one.meta_is ∙ ap Some is.1, one.reads)

module _ (n : ℕ) (weighed : ℕ → ℕ) (t : MomentValue) (r : Driven) (asks : Bool) (wait : Option DurationValue) (gave : Bool) (k : ℕ) (share : Option CacheMeta) (bytes : Option (List ℕ)) where
  abbrev pub plain : Driven → Request
  plain r' = plain_of r' asks wait gave k share bytes

  -- nothing was found, and the lock has answered
  pub look-missed : (h h' left : StoreState) (m m' : Managed) (s s' s1 : LockState) (r' r2 : Driven) (gave' : Bool) (a : Answer) (new : Request) → IsDriven r asks wait gave share bytes → look_refusal (plain r) ≡ None
      → FindsNone t (shows true (stored_at r.key) h.store) r h s (Ok tt) r' h' s' → r2 ≡ missed_by r' → a ≡ Absent (given_of (plain r2).held) → new ≡ record (plain_of r2 asks wait gave' k None bytes) { reader = closed }
      → gave' ≡ is_read (held r'.lock) → shelf_of left ≡ turned (plain r2).reader closed (shelf_of h') → m' ≡ m → s1 ≡ s' → LookAnswer n weighed t (plain r) (lent (shelf_of h) m s) (Ok a) new (lent (shelf_of left) m' s1)
  look-missed h h' left m m' s s' s1 r' r2 gave' a new d e f without told is waits spent same kept =
      rw (e, look-none r.key h f.none) (
        told ∙ ap (λ (x : Driven). Absent (given_of (held_by x.lock))) (without ∙ ap missed_by f.lock.0) ∙ ap (λ (x : RequestLock). Absent (given_of (held_by x))) (missed-lock-same after) ∙ ap Absent lock.told,
        is ∙ ap (λ v. record (plain_of r2 asks wait v k None bytes) { reader = closed }) waits ∙ ap (λ (x : Driven). record (plain_of x asks wait (is_read (held r'.lock)) k None bytes) { reader = closed }) without
            ∙ ap (λ (x : Driven). record (plain_of (missed_by x) asks wait (is_read (held x.lock)) k None bytes) { reader = closed }) f.lock.0 ∙ missed,
        λ i. lent (shelf i) (same i) ((kept ∙ f.lock.1 ∙ lock.left) i),
      )
    where
      free : IsFree r asks wait gave share bytes
      free = free-of r asks wait gave k share bytes d e

      lock : IsGiven t (plain r) absent s r.lock (given_by r.lock (stored_at r.key) s) (asked_lock r.lock (stored_at r.key) false t s)
      lock = missed-lock t (plain r) s r.key r.lock refl free.free free.none free.looking.on

      asked : RequestLock
      asked = now_holding (given_by r.lock (stored_at r.key) s) r.lock

      after : Driven
      after = record r { lock = asked }

      missed : record (plain_of (missed_by after) asks wait (is_read (held asked)) k None bytes) { reader = closed } ≡ looked t (plain r) absent s
      missed =
          ap (λ (q : Request). record q { reader = closed }) (plain-missed after asks wait k share bytes free.looking.phase)
          ∙ (λ i. record (plain r) { phase = phase_absent (lock.told i) (plain r).phase; held = lock.holds i; gave_read = (sym (waits-in (held asked) asked.polled) ∙ lock.waits) i; seen = None; reader = closed })

      reader_same : (plain r2).reader ≡ (plain r).reader
      reader_same = ap (λ (x : Driven). reader_in bytes x.reader) (without ∙ ap missed_by f.lock.0) ∙ ap (reader_in bytes) (missed-reader-same after)

      shelf : shelf_of left ≡ turned (plain r).reader closed (shelf_of h)
      shelf = spent ∙ ap (λ x. turned x closed (shelf_of h')) reader_same ∙ ap (turned (plain r).reader closed) (shelf-same h h' f.held)

  -- nothing was found, and the lock refused
  pub look-unlocked : (h h' : StoreState) (m m' : Managed) (s s' : LockState) (r' : Driven) (f : LockFault) → IsDriven r asks wait gave share bytes → look_refusal (plain r) ≡ None
      → FindsNone t (shows true (stored_at r.key) h.store) r h s (Err f) r' h' s' → m' ≡ m → LookAnswer n weighed t (plain r) (lent (shelf_of h) m s) (Err (lock_fault_for f)) (plain r') (lent (shelf_of h') m' s')
  look-unlocked h h' m m' s s' r' f d e x same =
      let free = free-of r asks wait gave k share bytes d e in
      let asks_it : asks_now t (plain r) absent ≡ true = sym (and-yes asks) ∙ sym free.looking.on ∙ x.lock.0 in
      let refused = subst (λ k. IsRefused s (to_wait_for k s) f) (sym (key-stored r.key)) x.lock.1 in
      rw (e, look-none r.key h x.none) (
        lock-refused n weighed t (plain r) absent m s f asks_it refused,
        ap plain x.lock.2,
        shelf-same h h' x.held,
        same,
        lock-left t (plain r) absent s s' x.lock.3,
      )

  -- the store has no memory to show what it has
  pub look-unshown : (h h' : StoreState) (m m' : Managed) (s s' : LockState) (r' : Driven) → look_refusal (plain r) ≡ None → is_some (shows true (stored_at r.key) h.store) ≡ true → point r' h' s' ≡ point r h s → m' ≡ m
      → LookAnswer n weighed t (plain r) (lent (shelf_of h) m s) (Err out_of_memory) (plain r') (lent (shelf_of h') m' s')
  look-unshown h h' m m' s s' r' e some kept same =
      rw e (
        inl (refl, inl (look-some r.key h some)),
        ap (λ p. plain p.request) kept,
        ap (λ p. shelf_of p.held) kept,
        same,
        lock-left t (plain r) (look_for (plain r) (shelf_of h)) s s' (ap (λ p. p.lock) kept),
      )

  -- something was found, which is fresh or isn't
  pub look-found : (h mid left : StoreState) (m m1 m' : Managed) (s s1 s' : LockState) (r1 : Driven) (told : FoundAt MemHitHandler) (res : Outcome) (new : Request)
      → r.valid_after ≡ None → look_refusal (plain r) ≡ None → FindsAs t (shows true (stored_at r.key) h.store) told r r1 h mid s s1 → m1 ≡ m
      → ((l : Look) → IsFoundBy t l told → FoundAnswer n weighed t (plain r1) l m1 s1 res new m' s')
      → MatchResult res (λ _. shelf_of left ≡ turned (plain r1).reader closed (shelf_of mid)) (λ _. PartsReader (reader_of (hit_told told)) mid left)
      → LookAnswer n weighed t (plain r) (lent (shelf_of h) m s) res new (lent (shelf_of left) m' s')
  look-found h mid left m m1 m' s s1 s' r1 told res new shown e f em answer shelf = rw e (by_result res answered shelf_so)
    where
      hit : MemHitHandler
      hit = hit_told told

      l : Look
      l = look_for (plain r) (shelf_of h)

      one : FindsOne t l f.meta hit h mid
      one = finds-one t r.key r.valid_after f.meta hit h mid shown f.found f.weighs

      answered : FoundAnswer n weighed t (plain r) l m s res new m' s'
      answered =
          subst (λ x. FoundAnswer n weighed t (plain r) l x s res new m' s') em
          (subst (λ x. FoundAnswer n weighed t (plain r) l m1 x res new m' s') f.lock
          (subst (λ (x : Driven). FoundAnswer n weighed t (plain x) l m1 s1 res new m' s') f.request (answer l (told_by t l f.meta told h mid f.told_as one))))

      shelf_so : MatchResult res (λ _. shelf_of left ≡ turned (plain r).reader closed (shelf_of mid)) (λ _. PartsReader (reader_of hit) mid left)
      shelf_so = subst (λ (x : Driven). MatchResult res (λ _. shelf_of left ≡ turned (plain x).reader closed (shelf_of mid)) (λ _. PartsReader (reader_of hit) mid left)) f.request shelf

      by_result : (res : Outcome) → FoundAnswer n weighed t (plain r) l m s res new m' s'
          → MatchResult res (λ _. shelf_of left ≡ turned (plain r).reader closed (shelf_of mid)) (λ _. PartsReader (reader_of hit) mid left)
          → LooksBy n weighed t (plain r) l (lent (shelf_of h) m s) res new (lent (shelf_of left) m' s')
      by_result (Ok a) x spent = (x.0, x.1, λ i. lent ((spent ∙ ap (turned (plain r).reader closed) (shelf-counted l h mid one.counts)) i) (x.2 i) (x.3 i))
      by_result (Err f) x parts = (x.0, x.1, shelf-spared l hit h mid left one.reads one.counts parts, x.2, x.3)
