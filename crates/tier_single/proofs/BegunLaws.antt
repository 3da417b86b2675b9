-- A begin is taken, by what the requests and the head say.
use Rattle.std.proofs.Common.{◌≡◌, ℕ, refl, sym, ◌∙◌, Bool, true, false, subst, Some, None, Option, List}
use Rattle.std.specs.Prelude.{Ok, Err, option_map, MatchOption}
use Rattle.std.specs.FinMap.{FinMap, get, insert}
use Rattle.std.specs.Ordering.{nat_cmp}
use Rattle.cache_words.specs.Time.{MomentValue}
use Rattle.cache_heads.specs.declared.given.GivenMeta.{GivenMeta}
use Rattle.cache_heads.specs.declared.meta.CacheMeta.{CacheMeta}
use Rattle.cache_heads.specs.declared.reason.NoCacheReason.{NoCacheReason}
use Rattle.cache_lock.specs.State.{LockState}
use Rattle.tier_model.specs.declared.event.Action.TheVariants.{Begin}
use Rattle.tier_model.specs.declared.event.Answer.TheVariants.{Begun, Uncacheable}
use Rattle.tier_model.specs.declared.event.TierFault.{TierFault}
use Rattle.tier_model.specs.declared.event.TierFault.TheVariants as fault
use Rattle.tier_model.specs.Response.{kept, not_kept}
use Rattle.tier_model.specs.Shelf.{Shelf}
use Rattle.tier_model.specs.State.{Request, State}
use Rattle.tier_model.specs.Checks.{can_begin}
use Rattle.tier_requests.specs.Faults.{out_of_memory}
use Rattle.tier_requests.specs.Rows.{Begins, BeginsNot, GivesUp, OnOpen}
use Rattle.tier_single.specs.Acts.{Took}
use Rattle.tier_single.specs.Heads.{JudgesTo, IsJudged}
use Rattle.tier_single.proofs.BeginLaws.{Took-begin-none, Took-begin-wrong, Took-begin-memory, Took-bad-head, Took-too-early, Took-uncacheable, Took-begun, Took-not-begun}

-- whether the request of a number may begin a write, if it is open
abbrev pub may_begin : Option Request → Option Bool
may_begin o = option_map (λ q. can_begin q.phase q.gave_read) o

none-there : (o : Option Request) → may_begin o ≡ None → o ≡ None
none-there None e = refl
none-there (Some q) e = absurd cc

some-there : (o : Option Request) (v : Bool) → may_begin o ≡ Some v → (q : Request) × (o ≡ Some q) × (can_begin q.phase q.gave_read ≡ v)
some-there None v e = absurd cc
some-there (Some q) v e = (q, refl, cc)

module _ (s : State) (t : MomentValue) (id : ℕ) (head : List ℕ) (given : Option GivenMeta) where
  pub begin-none : may_begin (get s.requests id) ≡ None → Took s t (Begin id head given) (Err fault.NoRequest) s
  begin-none e = Took-begin-none s t id head given (none-there (get s.requests id) e)

  pub begin-wrong : may_begin (get s.requests id) ≡ Some false → Took s t (Begin id head given) (Err fault.WrongPhase) s
  begin-wrong e = let q = some-there (get s.requests id) false e in Took-begin-wrong s t id head given q.0 q.1 q.2

  module _ (may : may_begin (get s.requests id) ≡ Some true) where
    no_memory : (f : TierFault) → f ≡ out_of_memory → Took s t (Begin id head given) (Err f) s
    no_memory f is = let q = some-there (get s.requests id) true may in subst (λ (x : TierFault). Took s t (Begin id head given) (Err x) s) (sym is) (Took-begin-memory s t id head given q.0 q.1 q.2)

    -- the head was refused
    pub begin-fault : (f : TierFault) → IsJudged given t head (Err f) → Took s t (Begin id head given) (Err f) s
    begin-fault fault.BadHead j = let q = some-there (get s.requests id) true may in Took-bad-head s t id head given q.0 q.1 q.2 j.0 j.1 j.2
    begin-fault fault.BeforeEpoch j = let q = some-there (get s.requests id) true may in Took-too-early s t id head given q.0 q.1 q.2 j.0 j.1 j.2
    begin-fault _ j = no_memory _ j

    -- or may not be kept
    pub begin-given-up : (reason : NoCacheReason) (requests : FinMap nat_cmp Request) (shelf : Shelf) (lock : LockState) → JudgesTo given t head (not_kept reason)
        → OnOpen id s.requests ⊥ (λ q left. GivesUp q s.shelf s.lock left shelf lock) requests
        → Took s t (Begin id head given) (Ok (Uncacheable reason)) (record s { requests = requests; shelf = shelf; lock = lock })
    begin-given-up reason requests shelf lock j h = by_open (get s.requests id) refl h
      where
        by_open : (x : Option Request) → get s.requests id ≡ x → MatchOption x (⊥ × (requests ≡ s.requests)) (λ q. (left : Request) × GivesUp q s.shelf s.lock left shelf lock × (requests ≡ insert s.requests id left))
            → Took s t (Begin id head given) (Ok (Uncacheable reason)) (record s { requests = requests; shelf = shelf; lock = lock })
        by_open None none h = absurd h.0
        by_open (Some q) there h =
            let p = some-there (get s.requests id) true may in
            let same : p.0 ≡ q = let both : Some p.0 ≡ Some q = sym p.1 ∙ there in cc in
            let can : can_begin q.phase q.gave_read ≡ true = subst (λ (x : Request). can_begin x.phase x.gave_read ≡ true) same p.2 in
            rw (h.2, h.1.request, h.1.shelf, h.1.lock) (Took-uncacheable s t id head given q there can j.0 j.1 reason j.2)

    module _ (meta : CacheMeta) (j : JudgesTo given t head (kept meta)) where
      pub begin-begun : (requests : FinMap nat_cmp Request) (shelf : Shelf) (lock : LockState) → OnOpen id s.requests ⊥ (λ q left. Begins meta q s.shelf s.lock left shelf lock) requests
          → Took s t (Begin id head given) (Ok Begun) (record s { requests = requests; shelf = shelf; lock = lock })
      begin-begun requests shelf lock h = by_open (get s.requests id) refl h
        where
          by_open : (x : Option Request) → get s.requests id ≡ x → MatchOption x (⊥ × (requests ≡ s.requests)) (λ q. (left : Request) × Begins meta q s.shelf s.lock left shelf lock × (requests ≡ insert s.requests id left))
              → Took s t (Begin id head given) (Ok Begun) (record s { requests = requests; shelf = shelf; lock = lock })
          by_open None none h = absurd h.0
          by_open (Some q) there h =
              let p = some-there (get s.requests id) true may in
              let same : p.0 ≡ q = let both : Some p.0 ≡ Some q = sym p.1 ∙ there in cc in
              let can : can_begin q.phase q.gave_read ≡ true = subst (λ (x : Request). can_begin x.phase x.gave_read ≡ true) same p.2 in
              rw h.2 (Took-begun s t id head given q there can j.0 j.1 meta j.2 h.0 shelf lock h.1)

      -- the write began not, or was given up at once
      pub begin-not : (f : TierFault) (shelf : Shelf) → BeginsNot s.shelf f shelf → Took s t (Begin id head given) (Err f) (record s { shelf = shelf })
      begin-not f shelf b = let q = some-there (get s.requests id) true may in Took-not-begun s t id head given q.0 q.1 q.2 j.0 j.1 meta j.2 f shelf b
