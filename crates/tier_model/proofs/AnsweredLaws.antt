-- What an answer that a state allows says of its write: a begin that is answered Begun began one, and a finish that is answered stored it.
use Rattle.std.proofs.Common.{◌≡◌, ℕ, refl, subst}
use Rattle.std.specs.Prelude.{Option, Some, None, Ok, MatchOption}
use Rattle.std.specs.FinMap.{get}
use Rattle.cache_words.specs.Time.{MomentValue}
use Rattle.cache_changes.specs.Changes.{Write}
use Rattle.tier_model.specs.declared.event.Action.{Action}
use Rattle.tier_model.specs.declared.event.Action.TheVariants.{Begin, Finish}
use Rattle.tier_model.specs.declared.event.Answer.{Answer}
use Rattle.tier_model.specs.declared.event.Answer.TheVariants.{Begun, Finished}
use Rattle.tier_model.specs.Response.{Judged, kept, not_kept, too_early, not_read}
use Rattle.tier_model.specs.Calls.{Call, History, Outcome, judged_of}
use Rattle.tier_model.specs.Histories.{Kept, Opening, begun_by}
use Rattle.tier_model.specs.Rows.{FinishedBody}
use Rattle.tier_model.specs.State.{Request, State}
use Rattle.tier_model.specs.Checks.{can_begin, unless, refusal}
use Rattle.tier_model.specs.Answers.{finishing, IsBeginAnswer, IsStored}
use Rattle.tier_model.specs.Step.{IsAnswer}
use Rattle.tier_model.proofs.OpenLaws.{IsOpen, begun-is, passed}
use Rattle.tier_model.proofs.OwnTurns.{OpenFits}
use Rattle.tier_model.specs.declared.event.TierFault.TheVariants.{WrongPhase}

abbrev pub HasBegun : Opening → ℕ → Call → History → Type 0
HasBegun start id c h = (w : Write Kept) × (begun_by start id c h ≡ Some w)

abbrev pub IsFinish : Outcome → Type 0
IsFinish (Ok (Finished told evicted)) = Unit {0}
IsFinish (Ok _) = ⊥
IsFinish _ = Unit {0}

-- what is said of the write of a begin and of a finish
abbrev pub TellsWrite : Opening → Action → Outcome → Call → History → Type 0
TellsWrite start (Begin id head given) (Ok Begun) c h = HasBegun start id c h
TellsWrite start (Finish id) o c h = IsFinish o
TellsWrite start _ _ c h = Unit {0}

module _ (start : Opening) (s : State) (h : History) (fits : (id : ℕ) → OpenFits start id (get s.requests id) h) where
  begin_tells : (r : ℕ) (q : Request) (c : Call) (j : Option Judged) → IsOpen start r q h → judged_of c ≡ j → IsBeginAnswer j Begun → HasBegun start r c h
  begin_tells r q c (Some (kept meta)) opens is p = (_, begun-is start r q h c opens meta is)
  begin_tells r q c (Some (not_kept reason)) opens is p = absurd cc
  begin_tells r q c (Some too_early) opens is p = absurd p
  begin_tells r q c (Some not_read) opens is p = absurd p
  begin_tells r q c None opens is p = absurd p

  stored_tells : (b : FinishedBody) (a : Answer) → IsStored s b a → IsFinish (Ok a)
  stored_tells b (Finished told evicted) p = tt
  stored_tells b _ p = absurd p

  body_tells : (o : Option FinishedBody) (a : Answer) → MatchOption o ⊥ (λ b. IsStored s b a) → IsFinish (Ok a)
  body_tells None a p = absurd p
  body_tells (Some b) a p = stored_tells b a p

  finish_tells : (o : Option Request) (a : Answer) → MatchOption o ⊥ (λ q. MatchOption (finishing q s.shelf) ⊥ (λ b. IsStored s b a)) → IsFinish (Ok a)
  finish_tells None a p = absurd p
  finish_tells (Some q) a p = body_tells (finishing q s.shelf) a p

  pub answer-tells : (t : MomentValue) (action : Action) (c : Call) (a : Answer) → refusal s action ≡ None → IsAnswer s t action c a → TellsWrite start action (Ok a) c h
  answer-tells t (Begin r head given) c Begun n p =
      let q = passed (get s.requests r) (λ q. unless (can_begin q.phase q.gave_read) WrongPhase) n in
      begin_tells r q.0 c (judged_of c) (subst (λ (o : Option Request). OpenFits start r o h) q.1 (fits r)).0 refl p
  answer-tells t (Begin r head given) c _ n p = tt
  answer-tells t (Finish r) c a n p = finish_tells (get s.requests r) a p
  answer-tells t _ c a n p = tt
