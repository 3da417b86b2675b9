-- What a revalidation that is refused did before: it renewed the body of a request whose check passed, or nothing.
use Rattle.cache_heads.specs.declared.given.GivenMeta.{GivenMeta}
use Rattle.std.proofs.Common.{◌≡◌, ℕ, refl, ap, sym, ◌∙◌, true, false, subst, cond, inl, inr}
use Rattle.std.specs.Prelude.{Bool, List, Option, Some, None, Err, MatchOption}
use Rattle.std.specs.FinMap.{get}
use Rattle.cache_words.specs.Time.{MomentValue}
use Rattle.cache_heads.specs.declared.meta.CacheMeta.{CacheMeta}
use Rattle.tier_model.specs.declared.event.Action.TheVariants.{Revalidate}
use Rattle.tier_model.specs.declared.event.TierFault.{TierFault}
use Rattle.tier_model.specs.declared.event.TierFault.TheVariants.{NoRequest, WrongPhase}
use Rattle.tier_model.specs.Response.{Judged, kept, not_kept, too_early, not_read}
use Rattle.tier_model.specs.Calls.{Call, done_of}
use Rattle.tier_model.specs.State.{Request, State}
use Rattle.tier_model.specs.Checks.{can_revalidate, unless, unless_open, refusal}
use Rattle.tier_model.specs.Answers.{confirmed_for, is_body_seen, IsFaultBy, IsRevalidateFault}
use Rattle.tier_model.specs.Step.{AllowsBy}
use Rattle.tier_model.specs.After.{by_request, confirmed}
use Rattle.tier_model.proofs.CallLaws.{back_turn, judged_at}
use Rattle.tier_model.proofs.OpenLaws.{passed, test_passed}

-- a revalidation of an open request that may be confirmed, with a head that is kept
pub record Renewed (s : State) (r : ℕ) (c : Call) : Type 0 where
  pub request : Request
  pub there : get s.requests r ≡ Some request
  pub can : can_revalidate request.phase request.gave_read ≡ true
  pub meta : CacheMeta
  pub judged : confirmed_for request c ≡ Some (kept meta)

-- what a check refuses stored nothing
check_stores : (o : Option Request) (g : TierFault) → unless_open o (λ q. unless (can_revalidate q.phase q.gave_read) WrongPhase) ≡ Some g → (done_of g).stored ≡ false
check_stores None g e = let same : NoRequest ≡ g = cc in ap (λ (x : TierFault). (done_of x).stored) (sym same)
check_stores (Some q) g e = by_test (can_revalidate q.phase q.gave_read) e
  where
    by_test : (v : Bool) → unless v WrongPhase ≡ Some g → (done_of g).stored ≡ false
    by_test true e = absurd cc
    by_test false e = let same : WrongPhase ≡ g = cc in ap (λ (x : TierFault). (done_of x).stored) (sym same)

module _ (s : State) (t : MomentValue) (r : ℕ) (head : List ℕ) (given : Option GivenMeta) (c : Call) (f : TierFault) where
  -- a fault that says that nothing was stored
  apart : (g : TierFault) → (done_of f).stored ≡ true → f ≡ g → (done_of g).stored ≡ false → ⊥
  apart g stored same none = let clash : true ≡ false = sym stored ∙ ap (λ (x : TierFault). (done_of x).stored) same ∙ none in absurd cc

  late_head : (q : Request) (j : Option Judged) → (done_of f).stored ≡ true → IsRevalidateFault s q j f → (meta : CacheMeta) × (j ≡ Some (kept meta))
  late_head q None stored p = absurd p
  late_head q (Some not_read) stored p = absurd (apart _ stored p refl)
  late_head q (Some (kept meta)) stored p = (meta, refl)
  late_head q (Some (not_kept reason)) stored p = absurd (by_body (is_body_seen q s.shelf) p)
    where
      by_body : (v : Bool) → IsFaultBy v s q (not_kept reason) f → ⊥
      by_body true p = p
      by_body false p = apart _ stored p refl
  late_head q (Some too_early) stored p = absurd (by_body (is_body_seen q s.shelf) p)
    where
      by_body : (v : Bool) → IsFaultBy v s q too_early f → ⊥
      by_body true p = apart _ stored p refl
      by_body false p = apart _ stored p refl

  by_refusal : (o : Option TierFault) → refusal s (Revalidate r head given) ≡ o → AllowsBy o s t (Revalidate r head given) c (Err f) → (done_of f).stored ≡ true → Renewed s r c
  by_refusal (Some g) n p stored = let same : f ≡ g = cc in absurd (apart g stored same (check_stores (get s.requests r) g n))
  by_refusal None n p stored =
      let q = passed (get s.requests r) (λ q. unless (can_revalidate q.phase q.gave_read) WrongPhase) n in
      elim p [
        | inl m ↦ absurd (apart _ stored m.0 refl)
        | inr late ↦
            let x = late_head q.0 (confirmed_for q.0 c) stored (subst (λ (o : Option Request). MatchOption o ⊥ (λ q. IsRevalidateFault s q (confirmed_for q c) f)) q.1 late) in
            record { request = q.0; there = q.1; can = test_passed (can_revalidate q.0.phase q.0.gave_read) WrongPhase q.2; meta = x.0; judged = x.1 }
      ]

  module _ (allowed : AllowsBy (refusal s (Revalidate r head given)) s t (Revalidate r head given) c (Err f)) where
    pub renewal-told : (done_of f).stored ≡ true → Renewed s r c
    renewal-told stored = by_refusal (refusal s (Revalidate r head given)) refl allowed stored

    -- what it makes of a request, by whether it had renewed the body
    pub back-turned : (q : Request) → back_turn (judged_at s (Revalidate r head given) c) (done_of f).stored q ≡ cond (done_of f).stored (confirmed q) q
    back-turned q = by_stored (done_of f).stored refl
      where
        stays : (j : Option Judged) → back_turn j false q ≡ q
        stays (Some (kept meta)) = refl
        stays (Some _) = refl
        stays None = refl

        by_stored : (v : Bool) → (done_of f).stored ≡ v → back_turn (judged_at s (Revalidate r head given) c) v q ≡ cond v (confirmed q) q
        by_stored true e =
            let x = renewal-told e in
            ap (λ (o : Option Request). back_turn (by_request None o (λ q. confirmed_for q c)) true q) x.there ∙ ap (λ (j : Option Judged). back_turn j true q) x.judged
        by_stored false e = stays (judged_at s (Revalidate r head given) c)
