-- Polls are taken.
use Rattle.std.proofs.Common.{◌≡◌, ℕ, refl, ap, sym, ◌∙◌, Bool, true, false, subst, Some, None, Option, List, []}
use Rattle.std.specs.Prelude.{Ok, Err, MatchOption}
use Rattle.std.specs.FinMap.{FinMap, get, insert}
use Rattle.std.specs.Ordering.{nat_cmp}
use Rattle.cache_words.specs.Time.{MomentValue}
use Rattle.cache_lock.specs.Changes.{Change}
use Rattle.cache_lock.specs.State.{LockState, after_all}
use Rattle.tier_model.specs.declared.event.Action.TheVariants.{Poll}
use Rattle.tier_model.specs.declared.event.Answer.TheVariants.{Waited}
use Rattle.tier_model.specs.declared.event.TierFault.{TierFault}
use Rattle.tier_model.specs.declared.event.TierFault.TheVariants.{NoRequest, WrongPhase}
use Rattle.tier_model.specs.Calls.{Outcome}
use Rattle.tier_model.specs.State.{Request, State}
use Rattle.tier_model.specs.Checks.{refusal, unless, unless_open, is_waiting}
use Rattle.tier_model.specs.Answers.{polled}
use Rattle.tier_model.specs.Step.{AllowsBy}
use Rattle.tier_model.specs.After.{by_request, with_request, after_wait, poll_of, with_counts}
use Rattle.tier_requests.specs.Rows.{PollAnswer, OnOpen}
use Rattle.tier_single.specs.Acts.{Took}
use Rattle.tier_single.proofs.TookLaws.{insert-same, plain_call, Took-refused}

module _ (s : State) (t : MomentValue) (id : ℕ) where
  abbrev pub polled_to : FinMap nat_cmp Request → LockState → State
  polled_to requests lock = record s { requests = requests; lock = lock }

  abbrev checked : Option Request → Option TierFault
  checked o = unless_open o (λ q. unless (is_waiting q.held) WrongPhase)

  refused_poll : (f : TierFault) → refusal s (Poll id) ≡ Some f → Took s t (Poll id) (Err f) s
  refused_poll f fails = Took-refused s t (Poll id) f fails tt refl tt refl

  -- a poll of a request that waits
  module _ (q : Request) (there : get s.requests id ≡ Some q) (waiting : is_waiting q.held ≡ true) where
    passed : refusal s (Poll id) ≡ None
    passed = ap checked there ∙ ap (λ v. unless v WrongPhase) waiting

    answered_poll : Took s t (Poll id) (Ok (Waited (polled s.lock t q q.held)))
        (polled_to (insert s.requests id (after_wait t (polled s.lock t q q.held) q.held q)) (after_all (poll_of t q.held (polled s.lock t q q.held) s.lock) s.lock))
    answered_poll = (
      plain_call t (Poll id) (Ok (Waited (polled s.lock t q q.held))) false,
      refl,
      refl,
      record {
        read = tt;
        outcome = subst (λ r. AllowsBy r s t (Poll id) (plain_call t (Poll id) (Ok (Waited (polled s.lock t q q.held))) false) (Ok (Waited (polled s.lock t q q.held)))) (sym passed)
            (subst (λ (o : Option Request). MatchOption o ⊥ (λ p. Waited (polled s.lock t q q.held) ≡ Waited (polled s.lock t p p.held))) (sym there) refl);
        begins = refl;
        asks = tt;
      },
      ap (λ (o : Option Request). with_counts s.shelf.writes (after_all (by_request {X = List Change} [] o (λ p. poll_of t p.held (polled s.lock t q q.held) s.lock)) s.lock)
          (by_request s o (λ p. with_request id (after_wait t (polled s.lock t q q.held) p.held p) s))) (sym there),
    )

  pub Took-poll : (o : Outcome) (requests : FinMap nat_cmp Request) (lock : LockState)
      → OnOpen id s.requests ((o ≡ Err NoRequest) × (lock ≡ s.lock)) (λ q left. PollAnswer (is_waiting q.held) t q s.lock o left lock) requests → Took s t (Poll id) o (polled_to requests lock)
  Took-poll o requests lock h = by_open (get s.requests id) refl h
    where
      by_wait : (q left : Request) (v : Bool) → get s.requests id ≡ Some q → is_waiting q.held ≡ v → PollAnswer v t q s.lock o left lock → requests ≡ insert s.requests id left → Took s t (Poll id) o (polled_to requests lock)
      by_wait q left false there waiting p put =
          rw (p.0, p.2, put, p.1, insert-same s.requests id q there)
          (refused_poll WrongPhase (ap checked there ∙ ap (λ v. unless v WrongPhase) waiting))
      by_wait q left true there waiting p put = rw (p.0, p.2, put, p.1) (answered_poll q there waiting)

      by_open : (x : Option Request) → get s.requests id ≡ x
          → MatchOption x (((o ≡ Err NoRequest) × (lock ≡ s.lock)) × (requests ≡ s.requests)) (λ q. (left : Request) × PollAnswer (is_waiting q.held) t q s.lock o left lock × (requests ≡ insert s.requests id left))
          → Took s t (Poll id) o (polled_to requests lock)
      by_open None none h = rw (h.0.0, h.0.1, h.1) (refused_poll NoRequest (ap checked none))
      by_open (Some q) there h = by_wait q h.0 (is_waiting q.held) there refl h.1 h.2
