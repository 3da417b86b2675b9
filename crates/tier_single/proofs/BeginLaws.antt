-- Begins are taken.
use Rattle.std.proofs.Common.{◌≡◌, ◌≢◌, ℕ, ◌+◌, ◌-◌, ◌^◌, refl, ap, sym, ◌∙◌, Bool, true, false, subst, inl, inr, Some, None, Option, List, []}
use Rattle.std.specs.Prelude.{Ok, Err, ◌&&◌, not, is_some}
use Rattle.std.specs.FinMap.{get, insert}
use Rattle.cache_words.specs.Time.{MomentValue}
use Rattle.cache_heads.specs.declared.given.GivenMeta.{GivenMeta}
use Rattle.cache_heads.specs.declared.meta.CacheMeta.{CacheMeta}
use Rattle.cache_heads.specs.declared.reason.NoCacheReason.{NoCacheReason}
use Rattle.cache_lock.specs.Changes.{Change}
use Rattle.cache_lock.specs.State.{LockState, after_all}
use Rattle.cache_lock.specs.declared.status.LockStatus.TheVariants as status
use Rattle.head_parse.specs.Response.{Reading, IsReading, head_of}
use Rattle.tier_model.specs.declared.event.Action.TheVariants.{Begin}
use Rattle.tier_model.specs.declared.event.Answer.TheVariants.{Begun, Uncacheable}
use Rattle.tier_model.specs.declared.event.TierFault.{TierFault}
use Rattle.tier_model.specs.declared.event.TierFault.TheVariants.{NoRequest, WrongPhase, BadHead, BeforeEpoch, NumbersSpent, Memory}
use Rattle.tier_model.specs.Response.{Judged, kept, not_kept, too_early, not_read, judged_alone}
use Rattle.tier_model.specs.Calls.{Call, Outcome, nothing_done}
use Rattle.tier_model.specs.Shelf.{Shelf}
use Rattle.tier_model.specs.State.{closed, nothing, disabled, Request, State}
use Rattle.tier_model.specs.Checks.{refusal, unless, unless_open, can_begin}
use Rattle.tier_model.specs.Answers.{IsBeginAnswer, IsBeginFault}
use Rattle.tier_model.specs.Step.{AllowsBy, Allows, BeginTakes, BeginsWrite, may_begin, is_kept}
use Rattle.tier_model.specs.After.{by_request, turned, release_of, after_begin, with_counts, after}
use Rattle.tier_requests.specs.Faults.{out_of_memory}
use Rattle.tier_requests.specs.Rows.{Begins, BeginsNot}
use Rattle.tier_single.specs.Acts.{Took}
use Rattle.tier_single.proofs.TookLaws.{plain_call, Took-refused}

module _ (s : State) (t : MomentValue) (id : ℕ) (head : List ℕ) (given : Option GivenMeta) where
  abbrev checked : Option Request → Option TierFault
  checked o = unless_open o (λ q. unless (can_begin q.phase q.gave_read) WrongPhase)

  pub Took-begin-none : get s.requests id ≡ None → Took s t (Begin id head given) (Err NoRequest) s
  Took-begin-none none = Took-refused s t (Begin id head given) NoRequest (ap checked none) tt refl tt refl

  pub Took-begin-wrong : (q : Request) → get s.requests id ≡ Some q → can_begin q.phase q.gave_read ≡ false → Took s t (Begin id head given) (Err WrongPhase) s
  Took-begin-wrong q there wrong = Took-refused s t (Begin id head given) WrongPhase (ap checked there ∙ ap (λ v. unless v WrongPhase) wrong) tt refl tt refl

  module _ (q : Request) (there : get s.requests id ≡ Some q) (can : can_begin q.phase q.gave_read ≡ true) where
    passed : refusal s (Begin id head given) ≡ None
    passed = ap checked there ∙ ap (λ v. unless v WrongPhase) can

    -- memory ran out before the head was read
    pub Took-begin-memory : Took s t (Begin id head given) (Err (Memory nothing_done)) s
    Took-begin-memory = (
      plain_call t (Begin id head given) (Err (Memory nothing_done)) false,
      refl,
      refl,
      record {
        read = tt;
        outcome = subst (λ r. AllowsBy r s t (Begin id head given) (plain_call t (Begin id head given) (Err (Memory nothing_done)) false) (Err (Memory nothing_done))) (sym passed) (inl (refl, tt));
        begins = refl;
        asks = tt;
      },
      refl,
    )

    module _ (r : Reading) (reads : IsReading head r) where
      abbrev call : Outcome → Bool → Call
      call o began = record { event = record { moment = t; action = Begin id head given }; outcome = o; reading = Some r; began = began; asked = false }

      -- a head that is refused, or may not be kept
      told_fault : (f : TierFault) (j : Judged) → judged_alone given t (head_of r) ≡ j → IsBeginFault s (Some j) f → Took s t (Begin id head given) (Err f) s
      told_fault f j judged fault = (
        call (Err f) false,
        refl,
        refl,
        record {
          read = reads;
          outcome = subst (λ x. AllowsBy x s t (Begin id head given) (call (Err f) false) (Err f)) (sym passed) (inr (subst (λ (j : Judged). IsBeginFault s (Some j) f) (sym judged) fault));
          begins = refl;
          asks = tt;
        },
        refl,
      )

      pub Took-bad-head : judged_alone given t (head_of r) ≡ not_read → Took s t (Begin id head given) (Err BadHead) s
      Took-bad-head judged = told_fault BadHead not_read judged refl

      pub Took-too-early : judged_alone given t (head_of r) ≡ too_early → Took s t (Begin id head given) (Err BeforeEpoch) s
      Took-too-early judged = told_fault BeforeEpoch too_early judged refl

      pub Took-uncacheable : (reason : NoCacheReason) → judged_alone given t (head_of r) ≡ not_kept reason → Took s t (Begin id head given) (Ok (Uncacheable reason)) (record s {
        shelf = turned q.reader closed s.shelf;
        requests = insert s.requests id (record q { phase = disabled; held = nothing; seen = None; reader = closed });
        lock = after_all (release_of status.GiveUp q q.held s.lock) s.lock;
      })
      Took-uncacheable reason judged = (
        call (Ok (Uncacheable reason)) false,
        refl,
        refl,
        record {
          read = reads;
          outcome = subst (λ x. AllowsBy x s t (Begin id head given) (call (Ok (Uncacheable reason)) false) (Ok (Uncacheable reason))) (sym passed)
              (subst (λ (j : Judged). IsBeginAnswer (Some j) (Uncacheable reason)) (sym judged) refl);
          begins = refl;
          asks = tt;
        },
        ap (λ (j : Judged). with_counts s.shelf.writes (after_all (release_of status.GiveUp q q.held s.lock) s.lock) (after_begin s id q (Some j))) (sym judged)
            ∙ ap (λ (o : Option Request). with_counts s.shelf.writes (after_all (by_request {X = List Change} [] o (λ p. release_of status.GiveUp p p.held s.lock)) s.lock)
            (by_request s o (λ p. after_begin s id p (Some (judged_alone given t (head_of r)))))) (sym there),
      )

      module _ (meta : CacheMeta) (judged : judged_alone given t (head_of r) ≡ kept meta) where
        may : (is_kept (Some (judged_alone given t (head_of r))) && not (is_some (refusal s (Begin id head given)))) ≡ true
        may = ap (λ (j : Judged). is_kept (Some j) && not (is_some (refusal s (Begin id head given)))) judged ∙ ap (λ (x : Option TierFault). not (is_some x)) passed

        begun_allowed : s.shelf.writes ≢ 2 ^ 64 - 1 → Allows s (call (Ok Begun) true)
        begun_allowed number = record {
          read = reads;
          outcome = subst (λ x. AllowsBy x s t (Begin id head given) (call (Ok Begun) true) (Ok Begun)) (sym passed) (subst (λ (j : Judged). IsBeginAnswer (Some j) Begun) (sym judged) refl);
          begins = (may, number);
          asks = tt;
        }

        pub Took-begun : (left : Request) (shelf : Shelf) (lock : LockState) → Begins meta q s.shelf s.lock left shelf lock
            → Took s t (Begin id head given) (Ok Begun) (record s { requests = insert s.requests id left; shelf = shelf; lock = lock })
        Took-begun left shelf lock b =
            rw (b.request, b.shelf, b.lock) (
              call (Ok Begun) true,
              refl,
              refl,
              begun_allowed b.number,
              ap (λ (j : Judged). with_counts (s.shelf.writes + 1) (after_all (release_of status.Done q q.held s.lock) s.lock) (after_begin s id q (Some j))) (sym judged)
                  ∙ ap (λ (o : Option Request). with_counts (s.shelf.writes + 1) (after_all (by_request {X = List Change} [] o (λ p. release_of status.Done p p.held s.lock)) s.lock)
                  (by_request s o (λ p. after_begin s id p (Some (judged_alone given t (head_of r)))))) (sym there),
            )

        memory_then : (began : Bool) (shelf : Shelf) → s.shelf.writes ≢ 2 ^ 64 - 1 → record s { shelf = shelf } ≡ after s (call (Err out_of_memory) began) → Took s t (Begin id head given) (Err out_of_memory) (record s { shelf = shelf })
        memory_then began shelf number is = (
          call (Err out_of_memory) began,
          refl,
          refl,
          record {
            read = reads;
            outcome = subst (λ x. AllowsBy x s t (Begin id head given) (call (Err out_of_memory) began) (Err out_of_memory)) (sym passed) (inl (refl, subst (λ (j : Judged). BeginTakes s (Some j)) (sym judged) number));
            begins = begins began;
            asks = tt;
          },
          is,
        )
          where
            begins : (v : Bool) → BeginsWrite s (may_begin s (call (Err out_of_memory) v)) false v
            begins true = (may, number)
            begins false = refl

        pub Took-not-begun : (f : TierFault) (shelf : Shelf) → BeginsNot s.shelf f shelf → Took s t (Begin id head given) (Err f) (record s { shelf = shelf })
        Took-not-begun f shelf b = elim b [
          | inl spent ↦ rw (spent.0, spent.2) (told_fault (NumbersSpent nothing_done) (kept meta) judged (refl, spent.1))
          | inr out ↦ rw out.0 (elim out.2 [
            | inl same ↦ rw same (memory_then false s.shelf out.1 refl)
            | inr began ↦ rw began (memory_then true (record s.shelf { writes = s.shelf.writes + 1 }) out.1 refl)
          ])
        ]
