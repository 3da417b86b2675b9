-- A refusal that stored nothing had done nothing.
use Rattle.cache_heads.specs.declared.given.GivenMeta.{GivenMeta}
use Rattle.std.proofs.Common.{◌≡◌, ℕ, ap, sym, ◌∙◌, refl, true, false, subst, ◌∷◌, inl, inr}
use Rattle.std.specs.Prelude.{Bool, List, Option, Some, None, Err, MatchOption}
use Rattle.std.specs.FinMap.{get}
use Rattle.cache_words.specs.Time.{MomentValue}
use Rattle.tier_model.specs.declared.event.Action.{Action}
use Rattle.tier_model.specs.declared.event.Action.TheVariants.{Open, LookUp, Poll, Begin, Revalidate, Piece, Finish, Read, Drop, Purge, Put}
use Rattle.tier_model.specs.declared.event.TierFault.{TierFault}
use Rattle.tier_model.specs.declared.whole.PutVerdict.{PutVerdict}
use Rattle.tier_model.specs.declared.whole.PutVerdict.TheVariants as whole
use Rattle.tier_model.specs.Response.{Judged, kept, not_kept, too_early, not_read}
use Rattle.tier_model.specs.Calls.{Call, History, Outcome, nothing_done, done_of, read_by, finished_by}
use Rattle.tier_model.specs.Histories.{Opening}
use Rattle.tier_model.specs.Rows.{FinishedBody}
use Rattle.tier_model.specs.State.{Request, State}
use Rattle.tier_model.specs.Checks.{refusal}
use Rattle.tier_model.specs.Answers.{confirmed_for, finishing, is_body_seen, weight_then, IsPutFault, IsFinishFault, IsRenewalFault, IsFaultBy, IsRevalidateFault}
use Rattle.tier_model.specs.Step.{AllowsBy}
use Rattle.tier_model.specs.Past.{state_of, IsLawful}
use Rattle.tier_model.proofs.OpenLaws.{kept_out-done}
use Rattle.tier_model.proofs.StoredLaws.{fault-stored}
use Rattle.tier_model.proofs.ReportLaws.{refused_nothing, did_nothing}

-- what is said of a refusal
abbrev DidNothing : TierFault → Type 0
DidNothing f = (done_of f).stored ≡ false → done_of f ≡ nothing_done

did-store : (f : TierFault) → (done_of f).stored ≡ true → DidNothing f
did-store f stored none = let clash : true ≡ false = sym stored ∙ none in absurd cc

put_nothing : (s : State) (b : Option FinishedBody) (w : Option PutVerdict) (f : TierFault) → IsPutFault s b w f → DidNothing f
put_nothing s (Some b) w f p none = elim p [
  | inl spent ↦ ap done_of spent.0
  | inr late ↦ did-store f (fault-stored s b f late) none
]
put_nothing s None (Some whole.Incomplete) f p none = ap done_of p
put_nothing s None (Some whole.BadHead) f p none = ap done_of p
put_nothing s None (Some whole.BeforeEpoch) f p none = ap done_of p
put_nothing s None (Some (whole.Uncacheable reason)) f p none = absurd p
put_nothing s None (Some (whole.Stored body)) f p none = absurd p
put_nothing s None None f p none = absurd p

finish_nothing : (s : State) (b : Option FinishedBody) (f : TierFault) → IsFinishFault s b f → DidNothing f
finish_nothing s None f p none = ap done_of p
finish_nothing s (Some b) f p none = elim p [
  | inl memory ↦ ap done_of memory
  | inr late ↦ did-store f (fault-stored s b f late) none
]

finishes_nothing : (s : State) (o : Option Request) (f : TierFault) → MatchOption o ⊥ (λ q. IsFinishFault s (finishing q s.shelf) f) → DidNothing f
finishes_nothing s None f p none = absurd p
finishes_nothing s (Some q) f p none = finish_nothing s (finishing q s.shelf) f p none

renewal_nothing : (s : State) (q : Request) (j : Judged) (f : TierFault) → IsRenewalFault s q j f → DidNothing f
renewal_nothing s q (kept meta) f p none = elim p [
  | inl out ↦ kept_out-done s q.entry (weight_then q meta s.shelf) nothing_done f out
  | inr short ↦ did-store f (ap (λ (x : TierFault). (done_of x).stored) short.1) none
]
renewal_nothing s q too_early f p none = ap done_of p
renewal_nothing s q (not_kept reason) f p none = absurd p
renewal_nothing s q not_read f p none = absurd p

fault_nothing : (s : State) (q : Request) (j : Judged) (f : TierFault) (v : Bool) → IsFaultBy v s q j f → DidNothing f
fault_nothing s q j f true p none = renewal_nothing s q j f p none
fault_nothing s q j f false p none = ap done_of p

revalidation_nothing : (s : State) (q : Request) (j : Option Judged) (f : TierFault) → IsRevalidateFault s q j f → DidNothing f
revalidation_nothing s q (Some not_read) f p none = ap done_of p
revalidation_nothing s q (Some (kept meta)) f p none = fault_nothing s q (kept meta) f (is_body_seen q s.shelf) p none
revalidation_nothing s q (Some (not_kept reason)) f p none = fault_nothing s q (not_kept reason) f (is_body_seen q s.shelf) p none
revalidation_nothing s q (Some too_early) f p none = fault_nothing s q too_early f (is_body_seen q s.shelf) p none
revalidation_nothing s q None f p none = absurd p

revalidations_nothing : (s : State) (o : Option Request) (c : Call) (f : TierFault) → MatchOption o ⊥ (λ q. IsRevalidateFault s q (confirmed_for q c) f) → DidNothing f
revalidations_nothing s None c f p none = absurd p
revalidations_nothing s (Some q) c f p none = revalidation_nothing s q (confirmed_for q c) f p none

-- a check that fails comes first, then memory with nothing done
module _ (s : State) (t : MomentValue) (c : Call) (f : TierFault) where
  finish_refused : (r : ℕ) (o : Option TierFault) → refusal s (Finish r) ≡ o → AllowsBy o s t (Finish r) c (Err f) → DidNothing f
  finish_refused r (Some g) e p none = let same : f ≡ g = cc in ap done_of same ∙ refused_nothing s (Finish r) g e
  finish_refused r None e p none = elim p [
    | inl memory ↦ ap done_of memory.0
    | inr late ↦ finishes_nothing s (get s.requests r) f late none
  ]

  revalidation_refused : (r : ℕ) (head : List ℕ) (given : Option GivenMeta) (o : Option TierFault) → refusal s (Revalidate r head given) ≡ o → AllowsBy o s t (Revalidate r head given) c (Err f) → DidNothing f
  revalidation_refused r head given (Some g) e p none = let same : f ≡ g = cc in ap done_of same ∙ refused_nothing s (Revalidate r head given) g e
  revalidation_refused r head given None e p none = elim p [
    | inl memory ↦ ap done_of memory.0
    | inr late ↦ revalidations_nothing s (get s.requests r) c f late none
  ]

  by_action : (action : Action) → AllowsBy (refusal s action) s t action c (Err f) → DidNothing f
  by_action (Finish r) p none = finish_refused r (refusal s (Finish r)) refl p none
  by_action (Revalidate r head given) p none = revalidation_refused r head given (refusal s (Revalidate r head given)) refl p none
  by_action (Put key pieces given) p none = elim p [
    | inl memory ↦ ap done_of memory.0
    | inr late ↦ put_nothing s (finished_by c) (read_by c) f late none
  ]
  by_action (Open r key asks) p none = did_nothing s t (Open r key asks) c f (refusal s (Open r key asks)) refl p refl
  by_action (LookUp r) p none = did_nothing s t (LookUp r) c f (refusal s (LookUp r)) refl p refl
  by_action (Poll r) p none = did_nothing s t (Poll r) c f (refusal s (Poll r)) refl p refl
  by_action (Begin r head given) p none = did_nothing s t (Begin r head given) c f (refusal s (Begin r head given)) refl p refl
  by_action (Piece r bytes last) p none = did_nothing s t (Piece r bytes last) c f (refusal s (Piece r bytes last)) refl p refl
  by_action (Read r) p none = did_nothing s t (Read r) c f (refusal s (Read r)) refl p refl
  by_action (Drop r) p none = did_nothing s t (Drop r) c f (refusal s (Drop r)) refl p refl
  by_action (Purge key) p none = did_nothing s t (Purge key) c f (refusal s (Purge key)) refl p refl

pub refused-nothing : (start : Opening) (c : Call) (h : History) (f : TierFault) → IsLawful start (c ∷ h) → c.outcome ≡ Err f → DidNothing f
refused-nothing start c h f l e none =
    by_action (state_of start h) c.event.moment c f c.event.action
    (subst (λ (o : Outcome). AllowsBy (refusal (state_of start h) c.event.action) (state_of start h) c.event.moment c.event.action c o) e l.0.outcome) none
