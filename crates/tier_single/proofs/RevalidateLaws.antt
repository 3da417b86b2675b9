-- A revalidation is taken, by what the requests and the head say.
use Rattle.std.proofs.Common.{◌≡◌, ℕ, refl, ap, sym, ◌∙◌, true, false, subst, Some, None, Option, List, max}
use Rattle.std.specs.Prelude.{Result, Ok, Err, MatchOption}
use Rattle.std.specs.FinMap.{FinMap, get, insert}
use Rattle.std.specs.Ordering.{nat_cmp}
use Rattle.rand_core.specs.Stream.{Stream}
use Rattle.cache_words.specs.Time.{MomentValue}
use Rattle.cache_heads.specs.declared.given.GivenMeta.{GivenMeta}
use Rattle.head_lines.specs.declared.header.ResponseHeader.{ResponseHeader}
use Rattle.cache_heads.specs.Merged.{renewed_from}
use Rattle.cache_heads.specs.declared.meta.CacheMeta.{CacheMeta}
use Rattle.cache_heads.specs.declared.reason.NoCacheReason.{NoCacheReason}
use Rattle.cache_entries.specs.Entry.{key_of}
use Rattle.cache_changes.specs.Store.{body_at}
use Rattle.cache_evict.specs.Managed.{IsSharded, pick_by_draws}
use Rattle.cache_lock.specs.State.{LockState}
use Rattle.request_store.specs.Admissions.{Cache}
use Rattle.cache_store.specs.StoreState.{StoreState}
use Rattle.request_cache.specs.Revalidations.{RevalidateAnswer}
use Rattle.head_parse.specs.Response.{Reading, head_of}
use Rattle.tier_model.specs.Keys.{alone}
use Rattle.tier_model.specs.declared.event.Action.TheVariants.{Revalidate}
use Rattle.tier_model.specs.declared.event.Answer.TheVariants.{Uncacheable}
use Rattle.tier_model.specs.declared.event.TierFault.{TierFault}
use Rattle.tier_model.specs.declared.event.TierFault.TheVariants as fault
use Rattle.tier_model.specs.Response.{Judged, confirmed_alone, confirmed_in}
use Rattle.tier_model.specs.Calls.{Outcome, opened_for}
use Rattle.tier_model.specs.Checks.{can_revalidate}
use Rattle.tier_model.specs.State.{Request, State}
use Rattle.tier_model.specs.Answers.{key_for, seen_meta, is_body_seen}
use Rattle.tier_model.specs.Past.{IsRequestOf, HasAPast}
use Rattle.tier_requests.specs.Finishes as finishes
use Rattle.tier_requests.specs.Renewals.{weigh, Renews, RenewsNot}
use Rattle.tier_requests.specs.Rows.{OnOpen}
use Rattle.tier_requests.specs.Shelves.{shelf_of}
use Rattle.tier_single.specs.declared.put.Renewal.{Renewal}
use Rattle.tier_single.specs.declared.put.Renewal.TheVariants.{Renewed, NotRenewed}
use Rattle.tier_single.specs.Confirms.{IsConfirmedBy, IsConfirmedFor}
use Rattle.tier_single.proofs.ConfirmLaws.{may_revalidate, HasSeen, has-seen, of-seen}
use Rattle.tier_single.proofs.DatedLaws.{IsDated, DatedIn, confirmed-dated}
use Rattle.tier_single.proofs.RenewSteps.{Steps, Steps-none, Steps-wrong, Steps-memory, Steps-bad-head, Steps-not-stored, Steps-too-early, Steps-not-kept}
use Rattle.tier_single.proofs.RenewLaws.{old, with_left, renewal-taken}
use Rattle.tier_single.proofs.SeenLaws.{holds-past}

-- ---- what is known of the request

-- it has seen something, and its entry has no id
pub record IsKnown (o : Option Request) : Type 0 where
  pub seen : HasSeen o
  pub entry : seen.q.entry ≡ alone (key_of seen.q.entry)

pub known : (s : State) (id : ℕ) → HasAPast s → may_revalidate (get s.requests id) ≡ Some true → IsKnown (get s.requests id)
known s id past may =
    let seen : HasSeen (get s.requests id) = has-seen (get s.requests id) may (holds-past past.0 s past.1 past.2 id) in
    record {
      seen = seen;
      entry = (subst (λ (o : Option Request). MatchOption o (opened_for id past.1 ≡ None) (λ q. IsRequestOf past.0 id q past.1)) seen.there (past.2.matches.requests id)).entry;
    }

-- what a head gives a state, by another name of it and of the verdict
pub Confirmed-to : (s left : State) (t : MomentValue) (id : ℕ) (head : List ℕ) (given : Option GivenMeta) (r to : Result Renewal TierFault) → s ≡ left → r ≡ to
    → MatchOption (get left.requests id) ⊥ (λ q. IsConfirmedFor given t head q left.shelf r) → MatchOption (get s.requests id) ⊥ (λ q. IsConfirmedFor given t head q s.shelf to)
Confirmed-to s left t id head given r to is same p =
    subst (λ (x : State). MatchOption (get x.requests id) ⊥ (λ q. IsConfirmedFor given t head q x.shelf to)) (sym is)
    (subst (λ (x : Result Renewal TierFault). MatchOption (get left.requests id) ⊥ (λ q. IsConfirmedFor given t head q left.shelf x)) same p)

none_there : (o : Option Request) → may_revalidate o ≡ None → o ≡ None
none_there None e = refl
none_there (Some q) e = absurd cc

wrong_there : (o : Option Request) → may_revalidate o ≡ Some false → (q : Request) × (o ≡ Some q) × (can_revalidate q.phase q.gave_read ≡ false)
wrong_there None e = absurd cc
wrong_there (Some q) e = (q, refl, cc)

module _ (s : State) (st : Stream) (t : MomentValue) (id : ℕ) (head : List ℕ) (given : Option GivenMeta) where
  pub revalidate-none : may_revalidate (get s.requests id) ≡ None → Steps s st t id head given (Err fault.NoRequest) s st
  revalidate-none e = Steps-none s st t id head given (none_there (get s.requests id) e)

  pub revalidate-wrong : may_revalidate (get s.requests id) ≡ Some false → Steps s st t id head given (Err fault.WrongPhase) s st
  revalidate-wrong e = let q = wrong_there (get s.requests id) e in Steps-wrong s st t id head given q.0 q.1 q.2

  module _ (k : IsKnown (get s.requests id)) where
    abbrev h : HasSeen (get s.requests id)
    h = k.seen

    abbrev Confirmed : Result Renewal TierFault → Type 0
    Confirmed r = MatchOption (get s.requests id) ⊥ (λ q. IsConfirmedFor given t head q s.shelf r)

    by_seen : (r : Result Renewal TierFault) → Confirmed r → IsConfirmedBy given t head h.old (is_body_seen h.q s.shelf) r
    by_seen r is = of-seen given t head (get s.requests id) s.shelf h r is

    pub gives-of : (r : Reading) (j : Judged) → confirmed_alone given t h.old (head_of r) ≡ j → confirmed_in t (seen_meta h.q) (Revalidate id head given) (Some r) ≡ Some j
    gives-of r j is = ap (λ (m : Option CacheMeta). confirmed_in t m (Revalidate id head given) (Some r)) h.seen ∙ ap (λ (j : Judged). Some j) is

    -- the head was refused, or no body is confirmed by it
    by_fault : (f : TierFault) → IsConfirmedBy given t head h.old (is_body_seen h.q s.shelf) (Err f) → Steps s st t id head given (Err f) s st
    by_fault fault.BadHead is = Steps-bad-head s st t id head given h.q h.there h.can is.0 is.1 (gives-of is.0 _ is.2)
    by_fault fault.NotStored is = Steps-not-stored s st t id head given h.q h.there h.can is.1.0 is.1.1 is.0 _ is.1.2 (gives-of is.1.0 _ refl)
    by_fault fault.BeforeEpoch is = Steps-too-early s st t id head given h.q h.there h.can is.1.0 is.1.1 is.0 (gives-of is.1.0 _ is.1.2)
    by_fault f is = subst (λ (x : TierFault). Steps s st t id head given (Err x) s st) (sym is) (Steps-memory s st t id head given h.q h.there h.can)

    pub revalidate-fault : (f : TierFault) → Confirmed (Err f) → Steps s st t id head given (Err f) s st
    revalidate-fault f is = by_fault f (by_seen (Err f) is)

    -- it may not be kept
    pub revalidate-not : (reason : NoCacheReason) (sent : ResponseHeader) (requests : FinMap nat_cmp Request) (lock : LockState) → Confirmed (Ok (NotRenewed reason sent))
        → OnOpen id s.requests ⊥ (λ q left. RenewsNot q s.lock left lock) requests → Steps s st t id head given (Ok (Uncacheable reason)) (record s { requests = requests; lock = lock }) st
    revalidate-not reason sent requests lock is event =
        let c = by_seen (Ok (NotRenewed reason sent)) is in
        let o = subst (λ (x : Option Request). MatchOption x (⊥ × (requests ≡ s.requests)) (λ q. (left : Request) × RenewsNot q s.lock left lock × (requests ≡ insert s.requests id left))) h.there event in
        rw (o.2, o.1.request, o.1.lock) (Steps-not-kept s st t id head given h.q h.there h.can c.1.0 c.1.1 c.0 reason (gives-of c.1.0 _ c.1.2))

-- it may be kept
module _ (n : ℕ) (s : State) (t : MomentValue) (id : ℕ) (head : List ℕ) (given : Option GivenMeta) (c0 : Cache StoreState) (sharded : IsSharded n c0.managed) (k : IsKnown (get s.requests id)) where
  abbrev seen : HasSeen (get s.requests id)
  seen = k.seen

  pub revalidate-kept : (meta : CacheMeta) (o : Outcome) (c : Cache StoreState) (requests : FinMap nat_cmp Request) (lock : LockState)
      → MatchOption (get s.requests id) ⊥ (λ q. IsConfirmedFor given t head q (shelf_of c0.store) (Ok (Renewed meta)))
      → OnOpen id s.requests ⊥ (λ q left. Renews n (λ size. max size 1) (pick_by_draws n) meta q c0 s.lock o left c lock) requests
      → Steps (old n s t id head given c0 sharded) c0.words t id head given o (with_left n s t id head given c0 sharded c requests lock) c.words
  revalidate-kept meta o c requests lock is event =
      let y = subst (λ (x : Option Request). MatchOption x (⊥ × (requests ≡ s.requests)) (λ q. (left : Request) × Renews n (λ size. max size 1) (pick_by_draws n) meta q c0 s.lock o left c lock × (requests ≡ insert s.requests id left)))
      seen.there event in
      by_left y.0 y.1 y.2
    where
      by_left : (left : Request) → Renews n (λ size. max size 1) (pick_by_draws n) meta seen.q c0 s.lock o left c lock → requests ≡ insert s.requests id left
          → Steps (old n s t id head given c0 sharded) c0.words t id head given o (with_left n s t id head given c0 sharded c requests lock) c.words
      by_left left r placed =
          let x = of-seen given t head (get s.requests id) (shelf_of c0.store) seen (Ok (Renewed meta)) is in
          let dated : IsDated (renewed_from (Some seen.old) meta) = subst DatedIn x.1.2 (confirmed-dated given t seen.old (head_of x.1.0) seen.dated) in
          let answer : RevalidateAnswer (finishes.rules n (λ size. max size 1) (pick_by_draws n)) weigh (key_for seen.q) seen.q.entry true (renewed_from (Some seen.old) meta) (body_at (key_for seen.q) c0.store.store) r.came c0 c =
          subst (λ (m : Option CacheMeta). RevalidateAnswer (finishes.rules n (λ size. max size 1) (pick_by_draws n)) weigh (key_for seen.q) seen.q.entry true (renewed_from m meta) (body_at (key_for seen.q) c0.store.store) r.came c0 c)
          seen.seen r.answer in
          rw (placed, r.told, r.request, r.lock)
          (renewal-taken n s t id head given c0 sharded seen.q seen.there seen.can k.entry x.1.0 x.1.1 x.0 (renewed_from (Some seen.old) meta) dated
          (gives-of (old n s t id head given c0 sharded) c0.words t id head given k x.1.0 _ x.1.2) r.came c answer)
