-- How what a look-up found is taken or refused, as the plain record has it.
use Rattle.std.proofs.Common.{◌≡◌, ℕ, refl, ap, sym, ◌∙◌, subst, Bool, true, false, cond, inl, inr, Some, None, Option, List}
use Rattle.std.specs.Prelude.{◌&&◌, not, is_some, option_map, Ok, Err}
use Rattle.cache_words.specs.Time.{MomentValue, DurationValue}
use Rattle.cache_heads.specs.declared.meta.CacheMeta.{CacheMeta}
use Rattle.cache_entries.specs.Rows.{weight_of as weight_of_entry}
use Rattle.cache_evict.specs.Managed.{Managed, rows_of, use_first}
use Rattle.cache_evict.specs.Faults.{IsPutRefused}
use Rattle.cache_evict.specs.declared.fault.EvictFault.{EvictFault}
use Rattle.cache_lock.specs.declared.fault.LockFault.{LockFault}
use Rattle.cache_lock.specs.declared.tokens.Locked.{Locked}
use Rattle.cache_lock.specs.Answers.{to_wait_for, IsRefused}
use Rattle.cache_lock.specs.State.{LockState}
use Rattle.request_phases.specs.declared.request_lock.RequestLock.{RequestLock}
use Rattle.request_phases.specs.declared.phase.CachePhase.{CachePhase}
use Rattle.request_phases.specs.declared.phase.CachePhase.TheVariants as phases
use Rattle.request_phases.specs.Phases.{is_disabled, is_never_enabled, is_stale_phase}
use Rattle.request_phases.specs.HitStatuses.{is_treated_as_miss}
use Rattle.request_phases.specs.declared.hit.HitStatus.TheVariants.{Expired}
use Rattle.request_phases.specs.Locks.{is_on, is_read, held, now_holding, lock_held}
use Rattle.cache_store.specs.StoreState.{StoreState}
use Rattle.store_memory.specs.declared.handlers.MemHitHandler.{MemHitHandler}
use Rattle.store_memory.specs.declared.handlers.MemHitHandler.TheVariants.{Complete, Partial}
use Rattle.store_memory.specs.Readings.{reader_of, is_complete, weight_of}
use Rattle.request_store.specs.declared.faults.FoundFault.TheVariants.{Evict}
use Rattle.request_store.specs.Spends.{Spends}
use Rattle.request_cache.specs.Founds.{entry_at, found_given, found_asked, given_back, IsTaken, is_counted, UseAnswer}
use Rattle.request_cache.specs.Freshes.{TakesFresh}
use Rattle.request_cache.specs.Request.{stored_at}
use Rattle.request_cache.specs.Points.{point}
use Rattle.tier_model.specs.declared.event.Answer.TheVariants.{Found}
use Rattle.tier_model.specs.declared.event.LockGiven.{LockGiven}
use Rattle.tier_model.specs.declared.event.LockGiven.TheVariants as given
use Rattle.tier_model.specs.Calls.{nothing_done}
use Rattle.tier_model.specs.Shelf.{Look, absent, in_flight, finished, is_there}
use Rattle.tier_model.specs.State.{Phase, Request}
use Rattle.tier_model.specs.Standings.{phase_found}
use Rattle.tier_model.specs.Checks.{can_begin, look_refusal}
use Rattle.tier_model.specs.Answers.{finds_fresh, asks_now, lock_given, look_answer}
use Rattle.tier_model.specs.After as model
use Rattle.tier_model.specs.After.{phase_of, looked}
use Rattle.tier_requests.specs.Faults.{out_of_memory, fault_for, lock_fault_for}
use Rattle.tier_requests.specs.Looks.{used_by, UseRefused}
use Rattle.tier_requests.specs.Plain.{Driven, phase_in, held_in, given_of, without_head, seen_in, plain_of, reads_a_write, IsDriven}
use Rattle.tier_requests.specs.Finds.{TakeAnswer, IsReadBy, FoundAnswer}
use Rattle.tier_requests.proofs.PlainLaws.{waits-in}
use Rattle.tier_requests.proofs.FindLaws.{key-stored, taken-from, is_whole, whole-found, whole-taken, weight-found, found-there}
use Rattle.tier_requests.proofs.SeenLaws.{seen-fresh}
use Rattle.tier_requests.proofs.LookLaws.{held_by, IsLooking, IsFree, free-of, set-held}
use Rattle.tier_requests.proofs.GivenLaws.{status_by, IsGiven, given-lock, IsAsked, asked-by, handed-back, and-yes, lock-left, lock-refused}

-- the phase of a request that took what is fresh or isn't
abbrev fresh_phase : Bool → CachePhase
fresh_phase v = cond v phases.Hit phases.Stale

used_phase : (v : Bool) → is_never_enabled (fresh_phase v) ≡ false
used_phase true = refl
used_phase false = refl

on_phase : (v : Bool) → is_disabled (fresh_phase v) ≡ false
on_phase true = refl
on_phase false = refl

begins_not : (v meta gave : Bool) → gave ≡ true → can_begin (phase_in (fresh_phase v) meta) gave ≡ false
begins_not true meta gave e = refl
begins_not false meta gave e = ap not e

plain_phase : (v meta : Bool) → phase_in (fresh_phase v) meta ≡ phase_found v
plain_phase true meta = refl
plain_phase false meta = refl

-- one that is stale has its meta
sees_phase : (v : Bool) (meta : Option CacheMeta) → (v ≡ false → is_some meta ≡ true) → is_stale_phase (fresh_phase v) ≡ true → is_some meta ≡ true
sees_phase true meta met stale = absurd cc
sees_phase false meta met stale = met refl

-- and its head is held; of what is fresh none is
abbrev pub IsHeldAs : Bool → Option CacheMeta → Option CacheMeta → Type 0
IsHeldAs true meta share = share ≡ None
IsHeldAs false meta share = meta ≡ option_map without_head share

bare_phase : (v : Bool) (meta share : Option CacheMeta) → IsHeldAs v meta share → is_stale_phase (fresh_phase v) ≡ true → meta ≡ option_map without_head share
bare_phase true meta share holds stale = absurd cc
bare_phase false meta share holds stale = holds

unheld_phase : (v : Bool) (meta share : Option CacheMeta) → IsHeldAs v meta share → is_stale_phase (fresh_phase v) ≡ false → share ≡ None
unheld_phase true meta share holds fresh = holds
unheld_phase false meta share holds fresh = absurd cc

phase_looked : (t : MomentValue) (l : Look) (g : LockGiven) (p : Phase) → is_there l ≡ true → phase_of t g l p ≡ phase_found (finds_fresh t l)
phase_looked t absent g p e = absurd cc
phase_looked t (in_flight f) g p e = refl
phase_looked t (finished x) g p e = refl

answer_looked : (t : MomentValue) (l : Look) (g : LockGiven) → is_there l ≡ true → look_answer t g l ≡ Found (finds_fresh t l) (is_whole l) g
answer_looked t absent g e = absurd cc
answer_looked t (in_flight f) g e = refl
answer_looked t (finished x) g e = refl

counted_as : (v evicts c : Bool) → evicts ≡ true → (not (is_treated_as_miss (status_by v)) && (evicts && c)) ≡ c
counted_as true evicts c e = ap (λ x. x && c) e
counted_as false evicts c e = ap (λ x. x && c) e

-- ---- what becomes of a request that took what was found

-- the request with what was found
abbrev pub after_found : Bool → Option CacheMeta → MemHitHandler → Option Locked → Driven → Driven
after_found v meta hit g r = record r { phase = fresh_phase v; meta = meta; reader = Some hit; lock = now_holding g r.lock }

-- the request took it, as fresh or not, and an earlier reader is spent
pub record IsTakenAs (v : Bool) (t : MomentValue) (meta : Option CacheMeta) (hit : MemHitHandler) (r r' : Driven) (h h' : StoreState) (s s' : LockState) : Type 0 where
  pub request : r' ≡ after_found v meta hit (found_given (status_by v) r s) r
  pub lock : s' ≡ lock_held (found_given (status_by v) r s) r.lock (found_asked (status_by v) t r s)
  pub store : Spends reader_of r.reader h h'

pub taken-stale : (t : MomentValue) (meta : CacheMeta) (hit : MemHitHandler) (r r' : Driven) (h h' : StoreState) (s s' : LockState)
    → IsTaken reader_of t meta hit Expired (point r h s) (point r' h' s') → IsTakenAs false t (Some meta) hit r r' h h' s s'
taken-stale t meta hit r r' h h' s s' taken = record {
  request = taken.request;
  lock = taken.lock;
  store = subst (λ (x : StoreState). Spends reader_of r.reader x h') taken.store.1 taken.store.2;
}

pub taken-fresh : (t : MomentValue) (hit : MemHitHandler) (r r' : Driven) (h h' : StoreState) (s s' : LockState)
    → TakesFresh reader_of hit (point r h s) (Ok tt) (point r' h' s') → IsTakenAs true t None hit r r' h h' s s'
taken-fresh t hit r r' h h' s s' taken = record { request = taken.0; lock = taken.2; store = taken.1 }

-- of a write nothing is taken
none_taken : (before hit : MemHitHandler) (took : Option (List ℕ)) → TakeAnswer before (Ok took) hit → reads_a_write (Some hit) ≡ true → took ≡ None
none_taken (Complete h) hit took a e = let no : false ≡ true = sym (ap (λ (x : MemHitHandler). reads_a_write (Some x)) a.1) ∙ e in absurd cc
none_taken (Partial h) hit took a e = let is : Ok took ≡ Ok None = a.0 in cc

-- the request that took it
pub driven-found : (t : MomentValue) (r r' : Driven) (asks : Bool) (wait : Option DurationValue) (gave gave' : Bool) (k : ℕ) (share next : Option CacheMeta) (bytes took : Option (List ℕ)) (meta : Option CacheMeta) (before hit : MemHitHandler) (v : Bool) (h h' : StoreState) (s s' : LockState)
    → IsDriven r asks wait gave share bytes → look_refusal (plain_of r asks wait gave k share bytes) ≡ None → (v ≡ false → is_some meta ≡ true) → IsHeldAs v meta next → gave' ≡ is_read (held r'.lock) → TakeAnswer before (Ok took) hit
    → IsTakenAs v t meta hit r r' h h' s s' → IsDriven r' asks wait gave' next took
driven-found t r r' asks wait gave gave' k share next bytes took meta before hit v h h' s s' d may met holds told take taken =
    subst (λ (x : Driven). IsDriven x asks wait gave' next took) (sym taken.request) (record {
      used = used_phase v;
      key = d.key;
      admits = d.admits;
      shown = d.shown;
      evicts = λ e. d.evicts looking.enabled;
      lock = λ e. set-held asks wait (found_given (status_by v) r s) r.lock.ctx r.lock.polled (d.lock looking.enabled);
      idle = λ e. let never : true ≡ false = sym e ∙ on_phase v in absurd cc;
      writes = λ e. let never : true ≡ false = sym e ∙ looking.writer in absurd cc;
      released = λ e. let never : true ≡ false = sym e ∙ looking.writer in absurd cc;
      waits = λ e. begins_not v (is_some meta) gave' (told ∙ ap (λ (x : Driven). is_read (held x.lock)) taken.request ∙ e);
      sees = λ stale given. sees_phase v meta met stale;
      bare = bare_phase v meta next holds;
      unheld = unheld_phase v meta next holds;
      gone = none_taken before hit took take;
    })
  where
    looking : IsLooking r asks
    looking = (free-of r asks wait gave k share bytes d may).looking

-- ---- what is reported of it

-- what is so where a look-up found l, of which `took` was taken, and it is fresh or isn't
pub record Finding (t : MomentValue) (r : Driven) (asks : Bool) (wait : Option DurationValue) (gave : Bool) (k : ℕ) (share : Option CacheMeta) (bytes : Option (List ℕ)) (l : Look) (before : MemHitHandler) (v : Bool) : Type 0 where
  pub driven : IsDriven r asks wait gave share bytes
  pub may : look_refusal (plain_of r asks wait gave k share bytes) ≡ None
  pub freshness : finds_fresh t l ≡ v
  pub reads : IsReadBy l before

module _ (n : ℕ) (weighed : ℕ → ℕ) (t : MomentValue) (r : Driven) (asks : Bool) (wait : Option DurationValue) (gave : Bool) (k : ℕ) (share : Option CacheMeta) (bytes : Option (List ℕ)) (l : Look) (before : MemHitHandler) (v : Bool)
    (f : Finding t r asks wait gave k share bytes l before v) where
  abbrev pub q : Request
  q = plain_of r asks wait gave k share bytes

  free : IsFree r asks wait gave share bytes
  free = free-of r asks wait gave k share bytes f.driven f.may

  there : is_there l ≡ true
  there = found-there l before f.reads

  fresh : finds_fresh t l ≡ v
  fresh = f.freshness

  asked : (s : LockState) → IsAsked t q l s (found_given (status_by v) r s) (found_asked (status_by v) t r s)
  asked s = asked-by t r q l s v refl free.looking.on fresh there

  given_of_lock : (s : LockState) → IsGiven t q l s r.lock (found_given (status_by v) r s) (found_asked (status_by v) t r s)
  given_of_lock s = given-lock t q l s r.lock (found_given (status_by v) r s) (found_asked (status_by v) t r s) free.free free.none free.looking.on (asked s).gave (asked s).left

  -- a use is counted where all of a body was found
  counted : (hit : MemHitHandler) (took : Option (List ℕ)) → TakeAnswer before (Ok took) hit → is_counted is_complete hit (status_by v) r ≡ is_whole l
  counted hit took take = counted_as v r.evicts (is_complete hit) (f.driven.evicts free.looking.enabled) ∙ whole-taken before hit took take ∙ whole-found l before f.reads

  pub found-taken : (meta next : Option CacheMeta) (hit : MemHitHandler) (took : Option (List ℕ)) (h h' : StoreState) (m m' : Managed) (s s' : LockState) (r' : Driven) (gave' : Bool) (k' : ℕ) → seen_in (fresh_phase v) k' next ≡ model.seen_in t l
      → gave' ≡ is_read (held r'.lock) → TakeAnswer before (Ok took) hit
      → IsTakenAs v t meta hit r r' h h' s s'
      → UseAnswer n (is_counted is_complete hit (status_by v) r) (entry_at r.key None) (weighed (weight_of hit)) m (Ok tt) m'
      → FoundAnswer n weighed t q l m s (Ok (Found v (is_complete before) (given_of (held_by r'.lock))))
      (plain_of r' asks wait gave' k' next took) m' s'
  found-taken meta next hit took h h' m m' s s' r' gave' k' sees told take taken uses = (
    ap (λ (x : Driven). Found v (is_complete before) (given_of (held_by x.lock))) taken.request ∙ answer,
    ap (λ w. plain_of r' asks wait w k' next took) told ∙ ap (λ (x : Driven). plain_of x asks wait (is_read (held x.lock)) k' next took) taken.request ∙ looks_so,
    by_look l f.reads refl (uses ∙ ap (λ x. cond x (use_first n (entry_at r.key None) (weighed (weight_of hit)) m) m) (counted hit took take)),
    taken.lock ∙ lock.left,
  )
    where
      given : Option Locked
      given = found_given (status_by v) r s

      locked : RequestLock
      locked = now_holding given r.lock

      lock : IsGiven t q l s r.lock given (found_asked (status_by v) t r s)
      lock = given_of_lock s

      answer : Found v (is_complete before) (given_of (held_by locked)) ≡ look_answer t (lock_given t q l s) l
      answer = (λ i. Found (sym fresh i) (whole-found l before f.reads i) (lock.told i)) ∙ sym (answer_looked t l (lock_given t q l s) there)

      phase : phase_in (fresh_phase v) (is_some meta) ≡ phase_of t (lock_given t q l s) l q.phase
      phase = plain_phase v (is_some meta) ∙ ap phase_found (sym fresh) ∙ sym (phase_looked t l (lock_given t q l s) q.phase there)

      looks_so : plain_of (after_found v meta hit given r) asks wait (is_read (held locked)) k' next took ≡ looked t q l s
      looks_so = λ i. record q { phase = phase i; held = lock.holds i; gave_read = (sym (waits-in (held locked) locked.polled) ∙ lock.waits) i; seen = sees i; reader = taken-from l before hit took f.reads take i }

      by_look : (at : Look) → IsReadBy at before → at ≡ l → m' ≡ cond (is_whole l) (use_first n (entry_at r.key None) (weighed (weight_of hit)) m) m → m' ≡ used_by n weighed q l m
      by_look absent by e u = absurd by
      by_look (in_flight g) by e u = subst (λ (at : Look). m' ≡ cond (is_whole at) (use_first n (entry_at r.key None) (weighed (weight_of hit)) m) m → m' ≡ used_by n weighed q at m) e (λ x. x) u
      by_look (finished x) by e u =
          subst (λ (at : Look). m' ≡ cond (is_whole at) (use_first n (entry_at r.key None) (weighed (weight_of hit)) m) m → m' ≡ used_by n weighed q at m) e
          (λ same. same ∙ ap (λ w. use_first n (entry_at r.key None) (weighed w) m) (weight-found x before hit took by take)) u

  -- a body has no memory for its bytes: nothing was asked
  pub found-unread : (m : Managed) (s : LockState) → FoundAnswer n weighed t q l m s (Err out_of_memory) q m s
  found-unread m s = (inl (refl, inl there), refl, refl, lock-left t q l s s refl)

  -- the lock refused
  pub found-unlocked : (m m' : Managed) (s s' : LockState) (r' : Driven) (fault : LockFault) → v ≡ false → is_on r.lock ≡ true → IsRefused s (to_wait_for (stored_at r.key) s) fault → r' ≡ r → s' ≡ s → m' ≡ m
      → FoundAnswer n weighed t q l m s (Err (lock_fault_for fault)) (plain_of r' asks wait gave k share bytes) m' s'
  found-unlocked m m' s s' r' fault stale on refused unchanged kept same =
      let asks_it : asks_now t q l ≡ true = ap (λ x. asks && not x) (fresh ∙ stale) ∙ sym (and-yes asks) ∙ sym free.looking.on ∙ on in (
        lock-refused n weighed t q l m s fault asks_it (subst (λ k. IsRefused s (to_wait_for k s) fault) (sym (key-stored r.key)) refused),
        ap (λ (x : Driven). plain_of x asks wait gave k share bytes) unchanged,
        same,
        lock-left t q l s s' kept,
      )

  -- the use can't be counted
  pub found-unused : (hit : MemHitHandler) (took : Option (List ℕ)) (m m' : Managed) (s s' : LockState) (r' : Driven) (fault : EvictFault) → TakeAnswer before (Ok took) hit → r' ≡ r → s' ≡ given_back (status_by v) t r s
      → UseAnswer n (is_counted is_complete hit (status_by v) r) (entry_at r.key None) (weighed (weight_of hit)) m (Err (Evict fault)) m' → weight_of_entry (entry_at r.key None) (rows_of n (entry_at r.key None) m) ≡ None
      → FoundAnswer n weighed t q l m s (Err (fault_for fault nothing_done)) (plain_of r' asks wait gave k share bytes) m' s'
  found-unused hit took m m' s s' r' fault take unchanged back uses untracked = (
    inr (inl (by_look l f.reads refl)),
    ap (λ (x : Driven). plain_of x asks wait gave k share bytes) unchanged,
    uses.3,
    handed-back t q l s (found_given (status_by v) r s) (found_asked (status_by v) t r s) s' (asked s) back,
  )
    where
      whole : is_whole l ≡ true
      whole = sym (counted hit took take) ∙ uses.2

      by_look : (at : Look) → IsReadBy at before → at ≡ l → UseRefused n weighed q l m (fault_for fault nothing_done)
      by_look absent by e = absurd by
      by_look (in_flight g) by e = let never : false ≡ true = ap is_whole e ∙ whole in absurd cc
      by_look (finished x) by e =
          subst (λ (at : Look). UseRefused n weighed q at m (fault_for fault nothing_done)) e
          (untracked, (fault, subst (λ w. IsPutRefused n (entry_at r.key None) (weighed w) m fault) (weight-found x before hit took by take) uses.0, refl))

-- ---- the lock isn't asked for what is fresh

pub none-held : (t : MomentValue) (meta : Option CacheMeta) (hit : MemHitHandler) (r r' : Driven) (h h' : StoreState) (s s' : LockState) → IsTakenAs true t meta hit r r' h h' s s' → held r.lock ≡ None → held r'.lock ≡ None
none-held t meta hit r r' h h' s s' taken none = ap (λ (x : Driven). held x.lock) taken.request ∙ none

pub found-fresh : (n : ℕ) (weighed : ℕ → ℕ) (t : MomentValue) (r : Driven) (asks : Bool) (wait : Option DurationValue) (gave : Bool) (k : ℕ) (share : Option CacheMeta) (bytes : Option (List ℕ)) (l : Look) (before : MemHitHandler) → Finding t r asks wait gave k share bytes l before true
    → (hit : MemHitHandler) (took : Option (List ℕ)) (h h' : StoreState) (m m' : Managed) (s s' : LockState) (r' : Driven) → TakeAnswer before (Ok took) hit → IsTakenAs true t None hit r r' h h' s s'
    → UseAnswer n (is_counted is_complete hit (status_by true) r) (entry_at r.key None) (weighed (weight_of hit)) m (Ok tt) m'
    → FoundAnswer n weighed t (plain_of r asks wait gave k share bytes) l m s (Ok (Found true (is_complete before) given.None)) (plain_of r' asks wait false k None took) m' s'
found-fresh n weighed t r asks wait gave k share bytes l before f hit took h h' m m' s s' r' take taken uses =
    subst (λ g. FoundAnswer n weighed t (plain_of r asks wait gave k share bytes) l m s (Ok (Found true (is_complete before) g)) (plain_of r' asks wait false k None took) m' s')
    (ap (λ x. given_of (held_in x r'.lock.polled)) none)
    (found-taken n weighed t r asks wait gave k share bytes l before true f None None hit took h h' m m' s s' r' false k (seen-fresh t l f.freshness) (sym (ap is_read none)) take taken uses)
  where
    none : held r'.lock ≡ None
    none = none-held t None hit r r' h h' s s' taken (free-of r asks wait gave k share bytes f.driven f.may).none
