-- Finishes are taken: by what came of the write.
use Rattle.std.proofs.Common.{◌≡◌, ℕ, refl, ap, sym, ◌∙◌, Bool, true, false, subst, cond, inl, inr, Some, None, Option}
use Rattle.std.specs.Prelude.{Ok, Err, is_some, option_map, MatchOption, MatchResult}
use Rattle.std.specs.FinMap.{get, insert}
use Rattle.rand_core.specs.Stream.{Stream}
use Rattle.cache_words.specs.Time.{MomentValue}
use Rattle.tier_model.specs.declared.event.Action.TheVariants.{Finish}
use Rattle.tier_model.specs.declared.event.Answer.TheVariants.{Finished}
use Rattle.tier_model.specs.declared.event.TierFault.{TierFault}
use Rattle.tier_model.specs.declared.event.TierFault.TheVariants.{NoRequest, WrongPhase, WriteRemoved, Memory}
use Rattle.tier_model.specs.Calls.{Call, Outcome, nothing_done, done_of, has_stored, is_begun}
use Rattle.tier_model.specs.Histories.{is_landing}
use Rattle.tier_model.specs.Rows.{FinishedBody}
use Rattle.tier_model.specs.Shelf.{landed}
use Rattle.tier_model.specs.State.{Request, State}
use Rattle.tier_model.specs.Checks.{refusal, unless, unless_open}
use Rattle.tier_model.specs.Answers.{admitted, finishing, IsStored, IsFinishFault}
use Rattle.tier_model.specs.Step.{AllowsBy}
use Rattle.tier_model.specs.After.{by_request, on_write, taken_back, after_flight, after_finish, finished_state, with_counts}
use Rattle.tier_model.proofs.StoredLaws.{fault-stored, landing-stored}
use Rattle.tier_single.specs.Draws.{AreDrawn}
use Rattle.tier_single.specs.Acts.{StepsBy}
use Rattle.tier_single.proofs.TookLaws.{plain_call}
use Rattle.tier_single.proofs.StoreLaws.{StoresOver}

module _ (s : State) (st : Stream) (t : MomentValue) (id : ℕ) where
  abbrev pub Steps : Outcome → State → Stream → Type 0
  Steps o new rest = StepsBy s st (record { moment = t; action = Finish id }) o new rest

  abbrev call : Outcome → Call
  call o = plain_call t (Finish id) o false

  abbrev checked : Option Request → Option TierFault
  checked x = unless_open x (λ q. unless (is_some q.write) WrongPhase)

  -- the words of a call that may finish that body
  abbrev Draws : Option FinishedBody → Outcome → Stream → Stream → Type 0
  Draws b o left rest = AreDrawn s (option_map (admitted s) b) o left rest

  abbrev with_body : Option Request → Option FinishedBody
  with_body x = by_request None x (λ q. finishing q s.shelf)

  -- nothing was done, by whatever request
  still : (f : TierFault) (x : Option Request) → is_landing (Err f) ≡ false → with_counts s.shelf.writes s.lock (by_request s x (λ q. finished_state s id q (Err f))) ≡ s
  still f None e = refl
  still f (Some q) e = ap (λ (v : Bool). with_counts s.shelf.writes s.lock (cond v (after_finish (after_flight (has_stored (Err f)) s id q) q.write (finishing q s.shelf) (Err f)) s)) e

  -- ---- a check fails

  refused_so : (f : TierFault) → refusal s (Finish id) ≡ Some f → is_landing (Err f) ≡ false → with_body (get s.requests id) ≡ None → Steps (Err f) s st
  refused_so f fails quiet none = (
    call (Err f),
    refl,
    refl,
    record { read = tt; outcome = subst (λ r. AllowsBy r s t (Finish id) (call (Err f)) (Err f)) (sym fails) refl; begins = refl; asks = tt },
    sym (still f (get s.requests id) quiet),
    subst (λ (b : Option FinishedBody). Draws b (Err f) st st) (sym none) refl,
  )

  pub Steps-none : get s.requests id ≡ None → Steps (Err NoRequest) s st
  Steps-none none = refused_so NoRequest (ap checked none) refl (ap with_body none)

  pub Steps-wrong : (q : Request) → get s.requests id ≡ Some q → q.write ≡ None → Steps (Err WrongPhase) s st
  Steps-wrong q there none =
      refused_so WrongPhase (ap checked there ∙ ap (λ (w : Option ℕ). unless (is_some w) WrongPhase) none) refl (ap with_body there ∙ ap (λ (w : Option ℕ). finishing (record q { write = w }) s.shelf) none)

  -- ---- a write is finished

  module _ (q : Request) (m : ℕ) (there : get s.requests id ≡ Some q) (writes : q.write ≡ Some m) where
    passed : refusal s (Finish id) ≡ None
    passed = ap checked there ∙ ap (λ (w : Option ℕ). unless (is_some w) WrongPhase) writes

    -- the write flies no more, finished or not
    abbrev pub flown : Bool → State
    flown is_finished = record s { shelf = landed is_finished m s.shelf; requests = insert s.requests id (record q { write = None }) }

    flown_is : (is_finished : Bool) → after_flight is_finished s id q ≡ flown is_finished
    flown_is is_finished = ap (λ (w : Option ℕ). record s { shelf = on_write w (landed is_finished) s.shelf; requests = insert s.requests id (record q { write = None }) }) writes

    abbrev then_is : Option FinishedBody → Outcome → State
    then_is b o = with_counts s.shelf.writes s.lock (cond (is_landing o) (after_finish (flown (has_stored o)) (Some m) b o) s)

    record ByBody (b : Option FinishedBody) (o : Outcome) (new : State) (rest : Stream) : Type 0 where
      outcome : MatchResult o (λ a. MatchOption b ⊥ (λ b. IsStored s b a)) (IsFinishFault s b)
      begins : is_begun o ≡ false
      after : new ≡ then_is b o
      drawn : Draws b o st rest

    after_so : (b : Option FinishedBody) (o : Outcome) → finishing q s.shelf ≡ b → then_is b o ≡ with_counts s.shelf.writes s.lock (by_request s (get s.requests id) (λ q. finished_state s id q o))
    after_so b o is =
        ap (λ (x : State). with_counts s.shelf.writes s.lock (cond (is_landing o) (after_finish x (Some m) b o) s)) (sym (flown_is (has_stored o)))
        ∙ ap (λ (w : Option ℕ). with_counts s.shelf.writes s.lock (cond (is_landing o) (after_finish (after_flight (has_stored o) s id q) w b o) s)) (sym writes)
        ∙ ap (λ (y : Option FinishedBody). with_counts s.shelf.writes s.lock (cond (is_landing o) (after_finish (after_flight (has_stored o) s id q) q.write y o) s)) (sym is)
        ∙ ap (λ (x : Option Request). with_counts s.shelf.writes s.lock (by_request s x (λ q. finished_state s id q o))) (sym there)

    drawn_so : (b : Option FinishedBody) (o : Outcome) (rest : Stream) → finishing q s.shelf ≡ b → Draws b o st rest → Draws (with_body (get s.requests id)) o st rest
    drawn_so b o rest is d = subst (λ (y : Option FinishedBody). Draws y o st rest) (sym (ap with_body there ∙ is)) d

    steps_of : (b : Option FinishedBody) (o : Outcome) (new : State) (rest : Stream) → finishing q s.shelf ≡ b → ByBody b o new rest → Steps o new rest
    steps_of b (Ok a) new rest is h = (
      call (Ok a),
      refl,
      refl,
      record {
        read = tt;
        outcome = subst (λ r. AllowsBy r s t (Finish id) (call (Ok a)) (Ok a)) (sym passed)
            (subst (λ (x : Option Request). MatchOption x ⊥ (λ q. MatchOption (finishing q s.shelf) ⊥ (λ b. IsStored s b a))) (sym there)
            (subst (λ (y : Option FinishedBody). MatchOption y ⊥ (λ b. IsStored s b a)) (sym is) h.outcome));
        begins = h.begins;
        asks = tt;
      },
      h.after ∙ after_so b (Ok a) is,
      drawn_so b (Ok a) rest is h.drawn,
    )
    steps_of b (Err f) new rest is h = (
      call (Err f),
      refl,
      refl,
      record {
        read = tt;
        outcome = subst (λ r. AllowsBy r s t (Finish id) (call (Err f)) (Err f)) (sym passed)
            (inr (subst (λ (x : Option Request). MatchOption x ⊥ (λ q. IsFinishFault s (finishing q s.shelf) f)) (sym there) (subst (λ (y : Option FinishedBody). IsFinishFault s y f) (sym is) h.outcome)));
        begins = h.begins;
        asks = tt;
      },
      h.after ∙ after_so b (Err f) is,
      drawn_so b (Err f) rest is h.drawn,
    )

    -- it met a removal, or isn't there
    pub Steps-removed : finishing q s.shelf ≡ None → Steps (Err WriteRemoved) (flown false) st
    Steps-removed is = steps_of None (Err WriteRemoved) (flown false) st is (record { outcome = refl; begins = refl; after = refl; drawn = refl })

    -- memory ran out before anything was done
    pub Steps-memory : (b : FinishedBody) → finishing q s.shelf ≡ Some b → Steps (Err (Memory nothing_done)) s st
    Steps-memory b is = steps_of (Some b) (Err (Memory nothing_done)) s st is (record { outcome = inl refl; begins = refl; after = refl; drawn = (admitted s b, (refl, refl)) })

    -- its body is stored, and admitted or taken back
    pub Steps-stored : (b : FinishedBody) → finishing q s.shelf ≡ Some b → (o : Outcome) (new : State) (rest : Stream) → StoresOver (flown true) st m b o new rest → Steps o new rest
    Steps-stored b is (Ok (Finished size es)) new rest h =
        steps_of (Some b) (Ok (Finished size es)) new rest is (record { outcome = h.allowed; begins = refl; after = h.after; drawn = h.drawn })
    Steps-stored b is (Ok _) new rest h = absurd h.allowed
    Steps-stored b is (Err f) new rest h =
        steps_of (Some b) (Err f) new rest is (record { outcome = inr h.allowed; begins = refl; after = h.after ∙ back (done_of f).stored ∙ sym lands; drawn = h.drawn })
      where
        was_stored : (done_of f).stored ≡ true
        was_stored = fault-stored (flown true) b f h.allowed

        back : (v : Bool) → taken_back v (flown true) b (done_of f) ≡ with_counts s.shelf.writes s.lock (taken_back v (flown true) b (done_of f))
        back true = refl
        back false = refl

        lands : then_is (Some b) (Err f) ≡ with_counts s.shelf.writes s.lock (taken_back (done_of f).stored (flown true) b (done_of f))
        lands =
            ap (λ (v : Bool). with_counts s.shelf.writes s.lock (cond v (after_finish (flown (has_stored (Err f))) (Some m) (Some b) (Err f)) s)) (landing-stored f was_stored)
            ∙ ap (λ (v : Bool). with_counts s.shelf.writes s.lock (after_finish (flown v) (Some m) (Some b) (Err f))) was_stored
