-- Puts are taken: by what a response gives, and by what came of its body.
use Rattle.std.proofs.Common.{◌≡◌, ◌≢◌, ℕ, ◌+◌, ◌-◌, ◌^◌, refl, ap, sym, ◌∙◌, Bool, true, false, subst, cond, inl, inr, Some, None, Option, List}
use Rattle.std.specs.Prelude.{Ok, Err, ◌⊎◌, is_some, option_map, MatchResult}
use Rattle.rand_core.specs.Stream.{Stream}
use Rattle.cache_words.specs.Time.{MomentValue}
use Rattle.cache_words.specs.Key.{CacheKeyValue}
use Rattle.cache_heads.specs.declared.given.GivenMeta.{GivenMeta}
use Rattle.cache_heads.specs.declared.reason.NoCacheReason.{NoCacheReason}
use Rattle.cache_evict.specs.Managed.{Managed}
use Rattle.head_parse.specs.Response.{Reading, IsReading}
use Rattle.tier_model.specs.declared.event.Action.TheVariants.{Put}
use Rattle.tier_model.specs.declared.event.Answer.TheVariants.{Finished, Uncacheable}
use Rattle.tier_model.specs.declared.event.TierFault.{TierFault}
use Rattle.tier_model.specs.declared.event.TierFault.TheVariants as fault
use Rattle.tier_model.specs.declared.whole.PutVerdict.{PutVerdict}
use Rattle.tier_model.specs.declared.whole.PutVerdict.TheVariants as whole
use Rattle.tier_model.specs.declared.state.Body.{Body}
use Rattle.tier_model.specs.Keys.{entry_of}
use Rattle.tier_model.specs.Response.{joined, whole_as}
use Rattle.tier_model.specs.Calls.{Call, Outcome, nothing_done, done_of, finished_in, has_stored, is_begun, writes_after}
use Rattle.tier_model.specs.Rows.{FinishedBody}
use Rattle.tier_model.specs.State.{State, shards_of}
use Rattle.tier_model.specs.Answers.{admitted, IsPutAnswer, IsPutFault}
use Rattle.tier_model.specs.Step.{PutTakes, BeginsWrite}
use Rattle.tier_model.specs.After.{after_put, emptied, taken, until, taken_back, undone, with_counts}
use Rattle.tier_single.specs.Draws.{AreDrawn}
use Rattle.tier_single.specs.Acts.{StepsBy}
use Rattle.tier_single.specs.Given.{IsWholeGiven}
use Rattle.tier_single.proofs.StoreLaws.{StoresOver}

module _ (s : State) (st : Stream) (t : MomentValue) (key : CacheKeyValue) (pieces : List (List ℕ)) (given : Option GivenMeta) where
  abbrev pub Steps : Outcome → State → Stream → Type 0
  Steps o new rest = StepsBy s st (record { moment = t; action = Put key pieces given }) o new rest

  abbrev call : Option Reading → Bool → Outcome → Call
  call r began o = record { event = record { moment = t; action = Put key pieces given }; outcome = o; reading = r; began = began; asked = false }

  -- memory ran out before the response was known
  pub Steps-unread : Steps (Err (fault.Memory nothing_done)) s st
  Steps-unread = (
    call None false (Err (fault.Memory nothing_done)),
    refl,
    refl,
    record { read = tt; outcome = inl (refl, tt); begins = refl; asks = tt },
    refl,
    refl,
  )

  -- the body that a response gives
  abbrev body_in : PutVerdict → Option FinishedBody
  body_in w = finished_in (Put key pieces given) (Some w)

  abbrev IsOutcome : PutVerdict → Outcome → Type 0
  IsOutcome w o = MatchResult o (IsPutAnswer s (body_in w) (Some w)) (λ f. ((f ≡ fault.Memory nothing_done) × PutTakes s (body_in w) (Some w)) ⊎ IsPutFault s (body_in w) (Some w) f)

  abbrev then_is : PutVerdict → Outcome → State
  then_is w (Ok a) = after_put s (Some s.shelf.writes) (body_in w) a
  then_is w (Err f) = undone s (body_in w) (done_of f)

  -- what is reported of a response that gives that, by whether a write began
  record ByWhole (w : PutVerdict) (began : Bool) (o : Outcome) (new : State) (rest : Stream) : Type 0 where
    outcome : IsOutcome w o
    begins : BeginsWrite s (cond (is_some (body_in w)) true false) (cond (is_some (body_in w)) (has_stored o) (is_begun o)) began
    after : new ≡ with_counts (writes_after s.shelf.writes began) s.lock (then_is w o)
    drawn : AreDrawn s (option_map (admitted s) (body_in w)) o st rest

  module _ (r : Reading) (reads : IsReading (joined pieces) r) where
    steps_whole : (began : Bool) (o : Outcome) (new : State) (rest : Stream) → ByWhole (whole_as given t r) began o new rest → Steps o new rest
    steps_whole began (Ok a) new rest h = (call (Some r) began (Ok a), refl, refl, record { read = reads; outcome = h.outcome; begins = h.begins; asks = tt }, h.after, h.drawn)
    steps_whole began (Err f) new rest h = (call (Some r) began (Err f), refl, refl, record { read = reads; outcome = h.outcome; begins = h.begins; asks = tt }, h.after, h.drawn)

    steps_of : (w : PutVerdict) → whole_as given t r ≡ w → (began : Bool) (o : Outcome) (new : State) (rest : Stream) → ByWhole w began o new rest → Steps o new rest
    steps_of w is began o new rest h = steps_whole began o new rest (subst (λ (x : PutVerdict). ByWhole x began o new rest) (sym is) h)

    -- a response of which nothing is kept
    pub Steps-not-kept : (reason : NoCacheReason) → whole_as given t r ≡ whole.Uncacheable reason → Steps (Ok (Uncacheable reason)) s st
    Steps-not-kept reason is = steps_of (whole.Uncacheable reason) is false (Ok (Uncacheable reason)) s st (record { outcome = refl; begins = refl; after = refl; drawn = refl })

    pub Steps-too-early : whole_as given t r ≡ whole.BeforeEpoch → Steps (Err fault.BeforeEpoch) s st
    Steps-too-early is = steps_of whole.BeforeEpoch is false (Err fault.BeforeEpoch) s st (record { outcome = inr refl; begins = refl; after = refl; drawn = refl })

    pub Steps-incomplete : whole_as given t r ≡ whole.Incomplete → Steps (Err fault.Incomplete) s st
    Steps-incomplete is = steps_of whole.Incomplete is false (Err fault.Incomplete) s st (record { outcome = inr refl; begins = refl; after = refl; drawn = refl })

    pub Steps-bad-head : whole_as given t r ≡ whole.BadHead → Steps (Err fault.BadHead) s st
    Steps-bad-head is = steps_of whole.BadHead is false (Err fault.BadHead) s st (record { outcome = inr refl; begins = refl; after = refl; drawn = refl })

    -- a response with a body that may be kept
    module _ (body : Body) (is : whole_as given t r ≡ whole.Stored body) where
      abbrev b : FinishedBody
      b = record { entry = entry_of key; body = body }

      -- nothing is stored of it, where a write may have begun, for which a number was left
      pub Steps-ran-out : s.shelf.writes ≢ 2 ^ 64 - 1 → (began : Bool) → BeginsWrite s true false began → Steps (Err (fault.Memory nothing_done)) (record s { shelf = record s.shelf { writes = writes_after s.shelf.writes began } }) st
      Steps-ran-out number began begins =
          steps_of (whole.Stored body) is began (Err (fault.Memory nothing_done)) (record s { shelf = record s.shelf { writes = writes_after s.shelf.writes began } }) st
          (record { outcome = inl (refl, number); begins = begins; after = refl; drawn = (admitted s b, (refl, refl)) })

      pub Steps-spent : s.shelf.writes ≡ 2 ^ 64 - 1 → Steps (Err (fault.NumbersSpent nothing_done)) s st
      Steps-spent spent =
          steps_of (whole.Stored body) is false (Err (fault.NumbersSpent nothing_done)) s st
          (record { outcome = inr (inl (refl, spent)); begins = refl; after = refl; drawn = (admitted s b, (refl, refl)) })

      -- it is stored, and admitted or taken back, over the state with a write more
      abbrev pub counted : State
      counted = record s { shelf = record s.shelf { writes = s.shelf.writes + 1 } }

      pub Steps-stored : s.shelf.writes ≢ 2 ^ 64 - 1 → (o : Outcome) (new : State) (rest : Stream) → StoresOver counted st s.shelf.writes b o new rest → Steps o new rest
      Steps-stored number (Ok (Finished size es)) new rest h =
          steps_of (whole.Stored body) is true (Ok (Finished size es)) new rest (record { outcome = h.allowed; begins = (refl, number); after = h.after; drawn = h.drawn })
      Steps-stored number (Ok _) new rest h = absurd h.allowed
      Steps-stored number (Err f) new rest h =
          steps_of (whole.Stored body) is true (Err f) new rest (record { outcome = inr (inr h.allowed); begins = (refl, number); after = h.after ∙ back (done_of f).stored; drawn = h.drawn })
        where
          until_same : (v : Bool) → until v counted b ≡ until v s b
          until_same true = refl
          until_same false = refl

          back : (v : Bool) → taken_back v counted b (done_of f) ≡ with_counts (s.shelf.writes + 1) s.lock (taken_back v s b (done_of f))
          back true = ap (λ (m : Managed). taken (shards_of s) b.entry (emptied (shards_of s) (done_of f).evicted (record counted { managed = m }))) (until_same (done_of f).admitted)
          back false = refl

-- a response with a given meta that is refused
module _ (s : State) (st : Stream) (t : MomentValue) (key : CacheKeyValue) (pieces : List (List ℕ)) (g : GivenMeta) where
  pub Steps-not-given : (f : TierFault) → IsWholeGiven g (joined pieces) (Err f) → Steps s st t key pieces (Some g) (Err f) s st
  Steps-not-given fault.Incomplete is = Steps-incomplete s st t key pieces (Some g) is.0 is.1 is.2
  Steps-not-given fault.BadHead is = Steps-bad-head s st t key pieces (Some g) is.0 is.1 is.2
  Steps-not-given fault.BeforeEpoch is = Steps-too-early s st t key pieces (Some g) is.0 is.1 is.2
  Steps-not-given f is = subst (λ (x : TierFault). Steps s st t key pieces (Some g) (Err x) s st) (sym is) (Steps-unread s st t key pieces (Some g))
