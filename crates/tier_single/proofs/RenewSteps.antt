-- Revalidations are taken: by what the head gives, and by what came of the body.
use Rattle.std.proofs.Common.{◌≡◌, ◌≢◌, ℕ, refl, ap, sym, ◌∙◌, Bool, true, false, subst, cond, inl, inr, Some, None, Option, List, []}
use Rattle.std.specs.Prelude.{Ok, Err, MatchOption}
use Rattle.std.specs.FinMap.{get, insert}
use Rattle.rand_core.specs.Stream.{Stream}
use Rattle.cache_words.specs.Time.{MomentValue}
use Rattle.cache_heads.specs.declared.given.GivenMeta.{GivenMeta}
use Rattle.cache_heads.specs.declared.meta.CacheMeta.{CacheMeta}
use Rattle.cache_heads.specs.declared.reason.NoCacheReason.{NoCacheReason}
use Rattle.cache_entries.specs.declared.entry.CacheEntryKey.{CacheEntryKey}
use Rattle.cache_entries.specs.Entry.{key_of}
use Rattle.cache_evict.specs.Managed.{Managed, Evicts, pick_by_draws, Fits}
use Rattle.cache_lock.specs.Changes.{Change}
use Rattle.cache_lock.specs.State.{after_all}
use Rattle.cache_lock.specs.declared.status.LockStatus.TheVariants as status
use Rattle.head_parse.specs.Response.{Reading, IsReading}
use Rattle.tier_model.specs.declared.event.Action.TheVariants.{Revalidate}
use Rattle.tier_model.specs.declared.event.Answer.{Answer}
use Rattle.tier_model.specs.declared.event.Answer.TheVariants.{Revalidated, Uncacheable}
use Rattle.tier_model.specs.declared.event.Done.{Done}
use Rattle.tier_model.specs.declared.event.TierFault.{TierFault}
use Rattle.tier_model.specs.declared.event.TierFault.TheVariants.{NoRequest, WrongPhase, BadHead, BeforeEpoch, NotStored, Memory}
use Rattle.tier_model.specs.Evictions.{GoInTurn}
use Rattle.tier_model.specs.Response.{Judged, kept, not_kept, too_early, not_read, confirmed_in}
use Rattle.tier_model.specs.Calls.{Call, Outcome, nothing_done, done_of, evicted_by}
use Rattle.tier_model.specs.State.{Request, State, shards_of}
use Rattle.tier_model.specs.Checks.{refusal, unless, unless_open, can_revalidate}
use Rattle.tier_model.specs.Answers.{seen_meta, is_body_seen, weight_then, reweighed, all_done, IsKeptOut, IsRevalidateAnswer, IsFaultBy, IsRevalidateFault}
use Rattle.tier_model.specs.Step.{RevalidateTakes, AllowsBy}
use Rattle.tier_model.specs.After.{by_request, release_of, emptied, taken, confirmed, renewed_for, after_confirmed, undone_renewal, with_counts}
use Rattle.tier_single.specs.Draws.{weighed_for, AreDrawn}
use Rattle.tier_single.specs.Acts.{StepsBy}

module _ (s : State) (st : Stream) (t : MomentValue) (id : ℕ) (head : List ℕ) (given : Option GivenMeta) where
  abbrev pub Steps : Outcome → State → Stream → Type 0
  Steps o new rest = StepsBy s st (record { moment = t; action = Revalidate id head given }) o new rest

  abbrev call : Option Reading → Outcome → Call
  call r o = record { event = record { moment = t; action = Revalidate id head given }; outcome = o; reading = r; began = false; asked = false }

  abbrev checked : Option Request → Option TierFault
  checked x = unless_open x (λ q. unless (can_revalidate q.phase q.gave_read) WrongPhase)

  -- what the head gives for a request
  abbrev gives : Option Reading → Request → Option Judged
  gives r q = confirmed_in t (seen_meta q) (Revalidate id head given) r

  -- the same without a reading
  gives_none : (q : Request) → gives None q ≡ None
  gives_none q = by_meta (seen_meta q)
    where
      by_meta : (m : Option CacheMeta) → confirmed_in t m (Revalidate id head given) None ≡ None
      by_meta None = refl
      by_meta (Some old) = refl

  -- ---- nothing was read

  abbrev then_unread : Bool → Done → Option Request → State
  then_unread v done x = with_counts s.shelf.writes (after_all (cond v (by_request {X = List Change} [] x (λ q. release_of status.Done q q.held s.lock)) []) s.lock)
      (by_request s x (λ q. undone_renewal s id q (gives None q) done))

  unread_state : (f : TierFault) → (done_of f).stored ≡ false → (x : Option Request) → s ≡ then_unread (done_of f).stored (done_of f) x
  unread_state f quiet x = by_there x ∙ ap (λ (v : Bool). then_unread v (done_of f) x) (sym quiet)
    where
      by_there : (x : Option Request) → s ≡ then_unread false (done_of f) x
      by_there None = refl
      by_there (Some q) = ap (λ (j : Option Judged). with_counts s.shelf.writes s.lock (undone_renewal s id q j (done_of f))) (sym (gives_none q))

  unread_start : (x : Option Request) → by_request {X = Option Managed} None x (λ q. weighed_for s q (gives None q)) ≡ None
  unread_start None = refl
  unread_start (Some q) = ap (weighed_for s q) (gives_none q)

  unread : (f : TierFault) → (done_of f).stored ≡ false → AllowsBy (refusal s (Revalidate id head given)) s t (Revalidate id head given) (call None (Err f)) (Err f) → Steps (Err f) s st
  unread f quiet allowed = (
    call None (Err f),
    refl,
    refl,
    record { read = tt; outcome = allowed; begins = refl; asks = tt },
    unread_state f quiet (get s.requests id),
    subst (λ (m : Option Managed). AreDrawn s m (Err f) st st) (sym (unread_start (get s.requests id))) refl,
  )

  refused_so : (f : TierFault) → (done_of f).stored ≡ false → refusal s (Revalidate id head given) ≡ Some f → Steps (Err f) s st
  refused_so f quiet fails = unread f quiet (subst (λ r. AllowsBy r s t (Revalidate id head given) (call None (Err f)) (Err f)) (sym fails) refl)

  pub Steps-none : get s.requests id ≡ None → Steps (Err NoRequest) s st
  Steps-none none = refused_so NoRequest refl (ap checked none)

  pub Steps-wrong : (q : Request) → get s.requests id ≡ Some q → can_revalidate q.phase q.gave_read ≡ false → Steps (Err WrongPhase) s st
  Steps-wrong q there wrong = refused_so WrongPhase refl (ap checked there ∙ ap (λ v. unless v WrongPhase) wrong)

  -- ---- the head was read

  module _ (q : Request) (there : get s.requests id ≡ Some q) (can : can_revalidate q.phase q.gave_read ≡ true) where
    passed : refusal s (Revalidate id head given) ≡ None
    passed = ap checked there ∙ ap (λ v. unless v WrongPhase) can

    -- memory ran out, and nothing was done
    pub Steps-memory : Steps (Err (Memory nothing_done)) s st
    Steps-memory = unread (Memory nothing_done) refl
        (subst (λ r. AllowsBy r s t (Revalidate id head given) (call None (Err (Memory nothing_done))) (Err (Memory nothing_done))) (sym passed)
        (inl (refl, subst (λ (x : Option Request). MatchOption x ⊥ (λ p. RevalidateTakes p s.shelf (gives None p))) (sym there) (subst (λ (j : Option Judged). RevalidateTakes q s.shelf j) (sym (gives_none q)) tt))))

    module _ (r : Reading) (reads : IsReading head r) (j : Judged) (is : confirmed_in t (seen_meta q) (Revalidate id head given) (Some r) ≡ Some j) where
      drawn_so : (o : Outcome) (rest : Stream) → AreDrawn s (weighed_for s q (Some j)) o st rest → AreDrawn s (by_request None (get s.requests id) (λ p. weighed_for s p (gives (Some r) p))) o st rest
      drawn_so o rest d =
          subst (λ (x : Option Request). AreDrawn s (by_request None x (λ p. weighed_for s p (gives (Some r) p))) o st rest) (sym there)
          (subst (λ (y : Option Judged). AreDrawn s (weighed_for s q y) o st rest) (sym is) d)

      answered_so : (a : Answer) → IsRevalidateAnswer s q (Some j) a → AllowsBy (refusal s (Revalidate id head given)) s t (Revalidate id head given) (call (Some r) (Ok a)) (Ok a)
      answered_so a allowed =
          subst (λ x. AllowsBy x s t (Revalidate id head given) (call (Some r) (Ok a)) (Ok a)) (sym passed)
          (subst (λ (x : Option Request). MatchOption x ⊥ (λ p. IsRevalidateAnswer s p (gives (Some r) p) a)) (sym there)
          (subst (λ (y : Option Judged). IsRevalidateAnswer s q y a) (sym is) allowed))

      abbrev then_renewed : List CacheEntryKey → Option Judged → State
      then_renewed es y = with_counts s.shelf.writes (after_all (release_of status.Done q q.held s.lock) s.lock) (after_confirmed s id q y (Revalidated es))

      answered_renewed : (es : List CacheEntryKey) (new : State) (rest : Stream) → IsRevalidateAnswer s q (Some j) (Revalidated es) → new ≡ then_renewed es (Some j)
          → AreDrawn s (weighed_for s q (Some j)) (Ok (Revalidated es)) st rest → Steps (Ok (Revalidated es)) new rest
      answered_renewed es new rest allowed after d = (
        call (Some r) (Ok (Revalidated es)),
        refl,
        refl,
        record { read = reads; outcome = answered_so (Revalidated es) allowed; begins = refl; asks = tt },
        after ∙ ap (then_renewed es) (sym is)
            ∙ ap (λ (x : Option Request). with_counts s.shelf.writes (after_all (by_request {X = List Change} [] x (λ p. release_of status.Done p p.held s.lock)) s.lock)
            (by_request s x (λ p. after_confirmed s id p (gives (Some r) p) (Revalidated es)))) (sym there),
        drawn_so (Ok (Revalidated es)) rest d,
      )

      abbrev then_given_up : NoCacheReason → Option Judged → State
      then_given_up reason y = with_counts s.shelf.writes (after_all (release_of status.GiveUp q q.held s.lock) s.lock) (after_confirmed s id q y (Uncacheable reason))

      answered_not : (reason : NoCacheReason) (new : State) → IsRevalidateAnswer s q (Some j) (Uncacheable reason) → new ≡ then_given_up reason (Some j)
          → AreDrawn s (weighed_for s q (Some j)) (Ok (Uncacheable reason)) st st → Steps (Ok (Uncacheable reason)) new st
      answered_not reason new allowed after d = (
        call (Some r) (Ok (Uncacheable reason)),
        refl,
        refl,
        record { read = reads; outcome = answered_so (Uncacheable reason) allowed; begins = refl; asks = tt },
        after ∙ ap (then_given_up reason) (sym is)
            ∙ ap (λ (x : Option Request). with_counts s.shelf.writes (after_all (by_request {X = List Change} [] x (λ p. release_of status.GiveUp p p.held s.lock)) s.lock)
            (by_request s x (λ p. after_confirmed s id p (gives (Some r) p) (Uncacheable reason)))) (sym there),
        drawn_so (Ok (Uncacheable reason)) st d,
      )

      abbrev then_refused : Done → Option Judged → State
      then_refused done y = with_counts s.shelf.writes (after_all (cond done.stored (release_of status.Done q q.held s.lock) []) s.lock) (undone_renewal s id q y done)

      refused_after : (f : TierFault) (new : State) (rest : Stream) → IsRevalidateFault s q (Some j) f → new ≡ then_refused (done_of f) (Some j)
          → AreDrawn s (weighed_for s q (Some j)) (Err f) st rest → Steps (Err f) new rest
      refused_after f new rest fault after d = (
        call (Some r) (Err f),
        refl,
        refl,
        record {
          read = reads;
          outcome = subst (λ x. AllowsBy x s t (Revalidate id head given) (call (Some r) (Err f)) (Err f)) (sym passed)
              (inr (subst (λ (x : Option Request). MatchOption x ⊥ (λ p. IsRevalidateFault s p (gives (Some r) p) f)) (sym there)
              (subst (λ (y : Option Judged). IsRevalidateFault s q y f) (sym is) fault)));
          begins = refl;
          asks = tt;
        },
        after ∙ ap (then_refused (done_of f)) (sym is)
            ∙ ap (λ (x : Option Request). with_counts s.shelf.writes (after_all (cond (done_of f).stored (by_request {X = List Change} [] x (λ p. release_of status.Done p p.held s.lock)) []) s.lock)
            (by_request s x (λ p. undone_renewal s id p (gives (Some r) p) (done_of f)))) (sym there),
        drawn_so (Err f) rest d,
      )

    module _ (r : Reading) (reads : IsReading head r) where
      -- what the head gives for the request
      abbrev pub Gives : Judged → Type 0
      Gives j = confirmed_in t (seen_meta q) (Revalidate id head given) (Some r) ≡ Some j

      pub Steps-bad-head : Gives not_read → Steps (Err BadHead) s st
      Steps-bad-head is = refused_after r reads not_read is BadHead s st refl refl refl

      -- ---- what was found is the body of its key no more

      pub Steps-not-stored : is_body_seen q s.shelf ≡ false → (j : Judged) → j ≢ not_read → Gives j → Steps (Err NotStored) s st
      Steps-not-stored gone (kept meta) read is =
          refused_after r reads (kept meta) is NotStored s st (subst (λ (v : Bool). IsFaultBy v s q (kept meta) NotStored) (sym gone) refl) refl
          (subst (λ (v : Bool). AreDrawn s (cond v (Some (reweighed s q meta)) None) (Err NotStored) st st) (sym gone) refl)
      Steps-not-stored gone (not_kept reason) read is =
          refused_after r reads (not_kept reason) is NotStored s st (subst (λ (v : Bool). IsFaultBy v s q (not_kept reason) NotStored) (sym gone) refl) refl refl
      Steps-not-stored gone too_early read is =
          refused_after r reads too_early is NotStored s st (subst (λ (v : Bool). IsFaultBy v s q too_early NotStored) (sym gone) refl) refl refl
      Steps-not-stored gone not_read read is = absurd (read refl)

      -- ---- it is

      module _ (found : is_body_seen q s.shelf ≡ true) where
        pub Steps-too-early : Gives too_early → Steps (Err BeforeEpoch) s st
        Steps-too-early is = refused_after r reads too_early is BeforeEpoch s st (subst (λ (v : Bool). IsFaultBy v s q too_early BeforeEpoch) (sym found) refl) refl refl

        pub Steps-not-kept : (reason : NoCacheReason) → Gives (not_kept reason) → Steps (Ok (Uncacheable reason)) (record s {
          requests = insert s.requests id (confirmed q);
          lock = after_all (release_of status.GiveUp q q.held s.lock) s.lock;
        }) st
        Steps-not-kept reason is = answered_not r reads (not_kept reason) is reason _ (found, refl) refl refl

        module _ (meta : CacheMeta) (is : Gives (kept meta)) where
          drawn_from : (o : Outcome) (rest : Stream) (left : Managed) → Evicts (pick_by_draws (shards_of s)) (reweighed s q meta) (evicted_by o) st left rest → AreDrawn s (weighed_for s q (Some (kept meta))) o st rest
          drawn_from o rest left went = subst (λ (v : Bool). AreDrawn s (cond v (Some (reweighed s q meta)) None) o st rest) (sym found) (left, went)

          -- its entry can't have that weight
          pub Steps-kept-out : (f : TierFault) → IsKeptOut s q.entry (weight_then q meta s.shelf) nothing_done f → done_of f ≡ nothing_done → evicted_by (Err f) ≡ [] → Steps (Err f) s st
          Steps-kept-out f out nothing none =
              refused_after r reads (kept meta) is f s st (subst (λ (v : Bool). IsFaultBy v s q (kept meta) f) (sym found) (inl out))
              (ap (λ (d : Done). then_refused r reads (kept meta) is d (Some (kept meta))) (sym nothing))
              (drawn_from (Err f) st (reweighed s q meta) (subst (λ (es : List CacheEntryKey). Evicts (pick_by_draws (shards_of s)) (reweighed s q meta) es st (reweighed s q meta) st) (sym none) (refl, refl)))

          -- it is renewed
          pub Steps-renewed : (es : List CacheEntryKey) (new : State) (rest : Stream) (left : Managed) → Fits (shards_of s) (reweighed s q meta) → GoInTurn (shards_of s) false es (reweighed s q meta)
              → Evicts (pick_by_draws (shards_of s)) (reweighed s q meta) es st left rest
              → new ≡ record (emptied (shards_of s) es (renewed_for s id q meta)) { lock = after_all (release_of status.Done q q.held s.lock) s.lock } → Steps (Ok (Revalidated es)) new rest
          Steps-renewed es new rest left fits turns went after =
              answered_renewed r reads (kept meta) is es new rest (found, (fits, turns)) after (drawn_from (Ok (Revalidated es)) rest left went)

          -- and taken back
          pub Steps-taken-back : (es : List CacheEntryKey) (new : State) (rest : Stream) (left : Managed) → Fits (shards_of s) (reweighed s q meta) → GoInTurn (shards_of s) true es (reweighed s q meta)
              → Evicts (pick_by_draws (shards_of s)) (reweighed s q meta) es st left rest
              → new ≡ record (taken (shards_of s) (key_of q.entry) (emptied (shards_of s) es (renewed_for s id q meta))) { lock = after_all (release_of status.Done q q.held s.lock) s.lock }
              → Steps (Err (Memory (all_done es))) new rest
          Steps-taken-back es new rest left fits turns went after =
              refused_after r reads (kept meta) is (Memory (all_done es)) new rest (subst (λ (v : Bool). IsFaultBy v s q (kept meta) (Memory (all_done es))) (sym found) (inr (es, refl, fits, turns))) after
              (drawn_from (Err (Memory (all_done es))) rest left went)
