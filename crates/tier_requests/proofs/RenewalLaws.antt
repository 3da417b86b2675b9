-- How what a request found past its moment is confirmed, as the plain record has it.
use Rattle.std.proofs.Common.{◌≡◌, ℕ, refl, ap, sym, ◌∙◌, subst, Bool, true, false, cond, Some, None, Option, List}
use Rattle.std.specs.Prelude.{◌==◌, is_some, option_map, IfSome, MatchOption, Result, Vec}
use Rattle.std.specs.declared.alloc.Global.{Global}
use Rattle.rand_core.specs.Stream.{Stream}
use Rattle.cache_words.specs.Time.{DurationValue}
use Rattle.cache_words.specs.Key.{CacheKeyValue, key_of, combined}
use Rattle.head_lines.specs.declared.header.ResponseHeader.{ResponseHeader}
use Rattle.cache_heads.specs.declared.meta.CacheMeta.{CacheMeta}
use Rattle.cache_heads.specs.Merged.{merged, renewed_from}
use Rattle.cache_heads.specs.declared.reason.NoCacheReason.{NoCacheReason}
use Rattle.cache_entries.specs.declared.entry.CacheEntryId.{CacheEntryId}
use Rattle.cache_entries.specs.declared.entry.CacheEntryKey.{CacheEntryKey}
use Rattle.cache_entries.specs.declared.rows.Tracked.{Tracked}
use Rattle.cache_changes.specs.Changes.{StoredKey}
use Rattle.cache_changes.specs.Store.{Stored, body_at}
use Rattle.cache_lock.specs.declared.status.LockStatus.{LockStatus}
use Rattle.cache_lock.specs.declared.status.LockStatus.TheVariants as status
use Rattle.cache_lock.specs.State.{LockState, after_all}
use Rattle.request_store.specs.Admissions.{Cache}
use Rattle.request_phases.specs.declared.phase.CachePhase.{CachePhase}
use Rattle.request_phases.specs.declared.phase.CachePhase.TheVariants as phases
use Rattle.request_phases.specs.Phases.{is_disabled, is_never_enabled, is_stale_phase}
use Rattle.request_phases.specs.Locks as locks
use Rattle.request_phases.specs.Locks.{is_read, let_go}
use Rattle.request_phases.specs.Releases.{released_in, lock_released_for, key_in}
use Rattle.cache_store.specs.StoreState.{StoreState}
use Rattle.store_memory.specs.declared.handlers.MemHitHandler.{MemHitHandler}
use Rattle.request_cache.specs.declared.renew.RevalidateFault.{RevalidateFault}
use Rattle.request_cache.specs.Founds.{entry_at}
use Rattle.request_cache.specs.Request.{stored_at}
use Rattle.request_cache.specs.Revalidations as store
use Rattle.request_cache.specs.Revalidations.{is_confirmed, id_found, RevalidateAnswer}
use Rattle.tier_model.specs.Rows.{Numbered, number_at}
use Rattle.tier_model.specs.State.{revalidated, Seen, Request}
use Rattle.tier_model.specs.Checks.{can_begin, can_revalidate}
use Rattle.tier_model.specs.Answers.{key_for, seen_meta, is_that_write, is_body_seen}
use Rattle.tier_model.specs.After.{release_of, confirmed}
use Rattle.tier_requests.specs.Shelves.{found_in, shelf_of}
use Rattle.tier_requests.specs.Plain.{Driven, phase_in, held_in, without_head, as_seen, seen_in, plain_of, IsDriven}
use Rattle.tier_requests.specs.Finishes.{rules}
use Rattle.tier_requests.specs.Renewals.{IsMerged, is_revalidated, forgotten, left_held, weigh, told_of_renewal, Renews, RenewsNot}
use Rattle.tier_requests.proofs.LockLaws.{let-go-none, set-let-go, key-same, released-as, released-for}
use Rattle.tier_requests.proofs.ShelfLaws.{body-found}
use Rattle.tier_requests.proofs.FindLaws.{key-stored}
use Rattle.tier_requests.proofs.BeginLaws.{is-on, no-writer, not-waiting}

-- ---- which requests are confirmed

-- one that found something past its moment, and got no wait
pub stale-in : (p : CachePhase) (meta gave : Bool) → can_revalidate (phase_in p meta) gave ≡ true → (p ≡ phases.Stale) × (gave ≡ false)
stale-in (phases.Disabled reason) meta gave may = absurd cc
stale-in phases.Uninit meta gave may = absurd cc
stale-in phases.Bypass meta gave may = absurd cc
stale-in phases.CacheKey meta gave may = absurd cc
stale-in phases.Hit meta gave may = absurd cc
stale-in phases.Miss true gave may = absurd cc
stale-in phases.Miss false gave may = absurd cc
stale-in phases.Stale meta true may = absurd cc
stale-in phases.Stale meta false may = (refl, refl)
stale-in phases.StaleUpdating meta gave may = absurd cc
stale-in phases.Expired meta gave may = absurd cc
stale-in phases.Revalidated meta gave may = absurd cc
stale-in (phases.RevalidatedNoCache reason) meta gave may = absurd cc

-- what a stale one has seen is what it has
pub seen-back : (p : CachePhase) (k : ℕ) (meta : Option CacheMeta) → p ≡ phases.Stale → option_map (λ (x : Seen). x.meta) (seen_in p k meta) ≡ meta
seen-back p k meta stale = ap (λ (x : CachePhase). option_map (λ (s : Seen). s.meta) (seen_in x k meta)) stale ∙ by_meta meta
  where
    by_meta : (meta : Option CacheMeta) → option_map (λ (s : Seen). s.meta) (option_map (as_seen k) meta) ≡ meta
    by_meta None = refl
    by_meta (Some m) = refl

-- a meta without the fields of its head renews as the meta does
renewed-bare : (share : Option CacheMeta) (meta : CacheMeta) → renewed_from (option_map without_head share) meta ≡ renewed_from share meta
renewed-bare None meta = refl
renewed-bare (Some old) meta = refl

bare-there : (share : Option CacheMeta) → is_some (option_map without_head share) ≡ is_some share
bare-there None = refl
bare-there (Some old) = refl

-- ---- the body of its key

-- the number of the write whose body a store has
pub number-found : (at : StoredKey) (h : StoreState) → number_at at (shelf_of h).bodies ≡ option_map (λ (x : Stored CacheMeta). x.write.number) (body_at at h.store)
number-found at h = ap (option_map (λ (x : Numbered). x.number)) (body-found at h.store) ∙ by_body (body_at at h.store)
  where
    by_body : (o : Option (Stored CacheMeta)) → option_map (λ (x : Numbered). x.number) (option_map found_in o) ≡ option_map (λ (x : Stored CacheMeta). x.write.number) o
    by_body None = refl
    by_body (Some x) = refl

-- what was seen is that write, where something was seen
pub seen-is : (p : CachePhase) (k n : ℕ) (meta : Option CacheMeta) → is_some (seen_in p k meta) ≡ true → (k == n) ≡ is_that_write (seen_in p k meta) (Some n)
seen-is phases.Stale k n None there = absurd cc
seen-is phases.Stale k n (Some meta) there = refl
seen-is _ k n meta there = absurd cc

pub seen-none : (o : Option Seen) → is_that_write o None ≡ false
seen-none None = refl
seen-none (Some x) = refl

-- whether that is the body of its key, by what the store has
pub body-seen : (d : Driven) (asks : Bool) (wait : Option DurationValue) (gave : Bool) (k : ℕ) (share : Option CacheMeta) (bytes : Option (List ℕ)) (key : CacheKeyValue) (at : StoredKey) (h : StoreState) (found : Option ℕ) → d.key ≡ Some key
    → at ≡ combined (key_of key) → found ≡ option_map (λ (x : Stored CacheMeta). x.write.number) (body_at at h.store) → is_body_seen (plain_of d asks wait gave k share bytes) (shelf_of h) ≡ is_that_write (seen_in d.phase k share) found
body-seen d asks wait gave k share bytes key at h found there same is =
    ap (is_that_write (seen_in d.phase k share)) (ap (λ (x : StoredKey). number_at x (shelf_of h).bodies) (key-stored d.key ∙ ap stored_at there ∙ sym same) ∙ number-found at h ∙ sym is)

-- a store that gives no ids
pub no-id : (reader : Option MemHitHandler) → id_found (λ (hit : MemHitHandler). None) reader ≡ None
no-id None = refl
no-id (Some hit) = refl

module _ (d : Driven) (asks : Bool) (wait : Option DurationValue) (gave : Bool) (k : ℕ) (share : Option CacheMeta) (bytes : Option (List ℕ)) (i : IsDriven d asks wait gave share bytes) (may : can_revalidate (phase_in d.phase (is_some d.meta)) gave ≡ true) where
  pub is-stale : d.phase ≡ phases.Stale
  is-stale = (stale-in d.phase (is_some d.meta) gave may).0

  pub has-meta : is_some d.meta ≡ true
  has-meta = i.sees (ap is_stale_phase is-stale) (stale-in d.phase (is_some d.meta) gave may).1

  -- it may begin a write too
  may-begin : can_begin (phase_in d.phase (is_some d.meta)) gave ≡ true
  may-begin = λ j. let p = (stale-in d.phase (is_some d.meta) gave may) in can_begin (phase_in (p.0 j) (is_some d.meta)) (p.1 j)

  abbrev q : Request
  q = plain_of d asks wait gave k share bytes

  -- what it has seen is the meta that is held
  pub seen-same : seen_meta q ≡ share
  seen-same = seen-back d.phase k share is-stale

  bare : d.meta ≡ option_map without_head share
  bare = i.bare (ap is_stale_phase is-stale)

  pub has-share : is_some share ≡ true
  has-share = sym (bare-there share) ∙ ap is_some (sym bare) ∙ has-meta

  -- ---- the head

  -- the head with the fields that were sent
  pub merged-as : (sent header : ResponseHeader) → IfSome share (λ m. header ≡ merged m.header sent) → IsMerged q sent header
  merged-as sent header is = subst (λ (o : Option CacheMeta). MatchOption o ⊥ (λ m. header ≡ merged m.header sent)) (sym seen-same) (by_meta share has-share is)
    where
      by_meta : (o : Option CacheMeta) → is_some o ≡ true → IfSome o (λ m. header ≡ merged m.header sent) → MatchOption o ⊥ (λ m. header ≡ merged m.header sent)
      by_meta None there is = absurd cc
      by_meta (Some m) there is = is

  -- ---- the request

  -- the meta is let go, and so is the lock
  abbrev pub at : CachePhase → Option (List ℕ) → Driven
  at phase variance = record d { phase = phase; meta = None; stale_variance = variance; lock = let_go d.lock }

  pub plain-at : (phase : CachePhase) (variance : Option (List ℕ)) → phase_in phase false ≡ revalidated → seen_in phase k None ≡ None → plain_of (at phase variance) asks wait gave k None bytes ≡ confirmed q
  plain-at phase variance plain unseen = λ j. record (confirmed q) { phase = plain j; held = held_in (let-go-none d.lock j) None; seen = unseen j }

  pub driven-at : (phase : CachePhase) (variance : Option (List ℕ)) → is_disabled phase ≡ false → is_never_enabled phase ≡ false → is_stale_phase phase ≡ false → IsDriven (at phase variance) asks wait gave None bytes
  driven-at phase variance on used unstale = record {
    used = used;
    key = i.key;
    admits = i.admits;
    shown = i.shown;
    evicts = λ e. i.evicts (is-on d asks wait gave k share bytes i may-begin);
    lock = λ e. set-let-go asks wait d.lock (i.lock (is-on d asks wait gave k share bytes i may-begin));
    idle = λ off. let never : false ≡ true = sym on ∙ off in absurd cc;
    writes = λ there. let never : false ≡ true = sym (ap is_some (no-writer d asks wait gave k share bytes i may-begin)) ∙ there in absurd cc;
    released = λ there. let-go-none d.lock;
    waits = λ reads. let never : false ≡ true = sym (ap is_read (let-go-none d.lock)) ∙ reads in absurd cc;
    sees = λ stale given. let never : false ≡ true = sym unstale ∙ stale in absurd cc;
    bare = λ stale. let never : false ≡ true = sym unstale ∙ stale in absurd cc;
    unheld = λ e. refl;
    gone = i.gone;
  }

  -- the request after a revalidation, by whether it was confirmed
  forgotten-as : (meta : CacheMeta) (t : Bool) → forgotten (cond t (store.confirmed meta d) d) ≡ cond t (at phases.Revalidated None) d
  forgotten-as meta true = refl
  forgotten-as meta false = ap (λ (p : CachePhase). cond (is_revalidated p) (record d { meta = None }) d) is-stale

  -- and the meta that it holds
  left-as : (meta : CacheMeta) (t : Bool) → left_held (cond t (store.confirmed meta d) d) share ≡ cond t None share
  left-as meta true = refl
  left-as meta false = ap (λ (p : CachePhase). cond (is_revalidated p) None share) is-stale

  pub driven-renewed : (meta : CacheMeta) (t : Bool) (new : Driven) (left : Option CacheMeta) → new ≡ forgotten (cond t (store.confirmed meta d) d) → left ≡ left_held (cond t (store.confirmed meta d) d) share
      → IsDriven new asks wait gave left bytes
  driven-renewed meta t new left e l =
      subst (λ (o : Option CacheMeta). IsDriven new asks wait gave o bytes) (sym (l ∙ left-as meta t))
      (subst (λ (r : Driven). IsDriven r asks wait gave (cond t None share) bytes) (sym (e ∙ forgotten-as meta t)) (by_test t))
    where
      by_test : (t : Bool) → IsDriven (cond t (at phases.Revalidated None) d) asks wait gave (cond t None share) bytes
      by_test true = driven-at phases.Revalidated None refl refl refl
      by_test false = i

  plain-renewed : (meta : CacheMeta) (t : Bool) (new : Driven) (left : Option CacheMeta) → new ≡ forgotten (cond t (store.confirmed meta d) d) → left ≡ left_held (cond t (store.confirmed meta d) d) share
      → plain_of new asks wait gave k left bytes ≡ cond t (confirmed q) q
  plain-renewed meta t new left e l = (λ j. plain_of ((e ∙ forgotten-as meta t) j) asks wait gave k ((l ∙ left-as meta t) j) bytes) ∙ by_test t
    where
      by_test : (t : Bool) → plain_of (cond t (at phases.Revalidated None) d) asks wait gave k (cond t None share) bytes ≡ cond t (confirmed q) q
      by_test true = plain-at phases.Revalidated None refl refl
      by_test false = refl

  -- ---- the lock

  pub released : (reason : LockStatus) (s : LockState) → released_in (locks.held d.lock) (stored_at d.key) reason s ≡ after_all (release_of reason q q.held s) s
  released reason s = released-as d.key (locks.held d.lock) d.lock.polled reason q s i.key refl (not-waiting d asks wait gave k share bytes i may-begin)

  -- ---- it may not be kept

  pub driven-refused : (reason : NoCacheReason) (new : Driven) → new ≡ at (phases.RevalidatedNoCache reason) d.stale_variance → IsDriven new asks wait gave None bytes
  driven-refused reason new e = subst (λ (r : Driven). IsDriven r asks wait gave None bytes) (sym e) (driven-at (phases.RevalidatedNoCache reason) d.stale_variance refl refl refl)

  pub refused-as : (reason : NoCacheReason) (s s' : LockState) (new : Driven) → new ≡ at (phases.RevalidatedNoCache reason) d.stale_variance → s' ≡ lock_released_for (key_in d.key) (Some status.GiveUp) d.lock s
      → RenewsNot q s (plain_of new asks wait gave k None bytes) s'
  refused-as reason s s' new e lock = record {
    request = ap (λ (r : Driven). plain_of r asks wait gave k None bytes) e ∙ plain-at (phases.RevalidatedNoCache reason) d.stale_variance refl refl;
    lock = lock ∙ released-for d.key status.GiveUp d.lock s i.key ∙ released status.GiveUp s;
  }

  -- ---- what it came to

  module _ (n : ℕ) (weighed : ℕ → ℕ) (pick : List (List Tracked) → Stream → ℕ × Stream) (meta : CacheMeta) (came : Result (Vec CacheEntryKey Global) RevalidateFault) (old left : Cache StoreState) where
    abbrev Came : StoredKey → CacheEntryKey → Bool → CacheMeta → Type 0
    Came at e evicts renewed = RevalidateAnswer (rules n weighed pick) weigh at e evicts renewed (body_at at old.store.store) came old left

    came-as : (id : Option CacheEntryId) → id ≡ None → Came (stored_at d.key) (entry_at d.key id) d.evicts (renewed_from d.meta meta) → Came (key_for q) q.entry true (renewed_from (seen_meta q) meta)
    came-as id none a =
        subst (λ (m : CacheMeta). Came (key_for q) q.entry true m) (ap (λ (o : Option CacheMeta). renewed_from o meta) bare ∙ renewed-bare share meta ∙ ap (λ (o : Option CacheMeta). renewed_from o meta) (sym seen-same))
        (subst (λ (t : Bool). Came (key_for q) q.entry t (renewed_from d.meta meta)) (i.evicts (is-on d asks wait gave k share bytes i may-begin))
        (subst (λ (at : StoredKey). Came at q.entry d.evicts (renewed_from d.meta meta)) (key-same d.key i.key) (subst (λ (o : Option CacheEntryId). Came (stored_at d.key) (entry_at d.key o) d.evicts (renewed_from d.meta meta)) none a)))

    pub renewed-as : (id : Option CacheEntryId) (s s' : LockState) (new : Driven) (kept : Option CacheMeta) → id ≡ None → Came (stored_at d.key) (entry_at d.key id) d.evicts (renewed_from d.meta meta)
        → new ≡ forgotten (cond (is_confirmed came) (store.confirmed (renewed_from d.meta meta) d) d) → kept ≡ left_held (cond (is_confirmed came) (store.confirmed (renewed_from d.meta meta) d) d) share
        → s' ≡ cond (is_confirmed came) (released_in (locks.held d.lock) (stored_at d.key) status.Done s) s
        → Renews n weighed pick meta q old s (told_of_renewal came) (plain_of new asks wait gave k kept bytes) left s'
    renewed-as id s s' new kept none a request let_go_of lock = record {
      came = came;
      answer = came-as id none a;
      told = refl;
      request = plain-renewed (renewed_from d.meta meta) (is_confirmed came) new kept request let_go_of;
      lock = lock ∙ ap (λ (x : LockState). cond (is_confirmed came) x s) (released status.Done s);
    }
