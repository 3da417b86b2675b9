-- An open request is what its own calls say.
use Rattle.cache_heads.specs.declared.given.GivenMeta.{GivenMeta}
use Rattle.std.proofs.Common.{◌≡◌, ℕ, refl, ap, sym, true, false, subst, cond, ◌∷◌}
use Rattle.std.specs.Prelude.{Bool, List, Option, Some, None, option_map, is_some, Ok, Err, not, MatchOption}
use Rattle.std.specs.FinMap.{get}
use Rattle.std.proofs.lemmas.Bool.{eqb-true}
use Rattle.cache_words.specs.Time.{MomentValue}
use Rattle.tier_model.specs.declared.event.Action.{Action}
use Rattle.tier_model.specs.declared.event.Action.TheVariants.{Open, LookUp, Poll, Begin, Revalidate, Piece, Finish, Read, Drop, Purge, Put}
use Rattle.tier_model.specs.declared.event.Answer.{Answer}
use Rattle.tier_model.specs.declared.event.Answer.TheVariants.{Opened}
use Rattle.tier_model.specs.declared.event.TierFault.{TierFault}
use Rattle.tier_model.specs.Keys.{entry_of}
use Rattle.tier_model.specs.Calls.{Call, History, Outcome, done_of, is_confirmation, judged_of, opened_for}
use Rattle.tier_model.specs.Histories.{Opening, writes_begun, is_landing}
use Rattle.tier_model.specs.State.{Request, State}
use Rattle.tier_model.specs.Checks.{refusal, unless}
use Rattle.tier_model.specs.declared.event.TierFault.TheVariants.{IdInUse}
use Rattle.tier_model.specs.Answers.{look_for, lock_given, look_answer, IsBeginAnswer}
use Rattle.tier_model.specs.Step.{UseFits, IsAnswer, AllowsBy, Allows}
use Rattle.tier_model.specs.After.{looked, opened_request, confirmed, after}
use Rattle.tier_model.proofs.OtherLaws.{other-call, quiet-call, quiet-renewal}
use Rattle.tier_model.proofs.CallLaws.{Inside, call_at, named_by, is_named, begin_turn, back_turn, land_turn, read_turn, judged_at, judged_for, turn, requests-after}
use Rattle.tier_model.proofs.WriteLaws.{WritesFit}
use Rattle.tier_model.proofs.OpenLaws.{Holds, unrefused}
use Rattle.tier_model.proofs.ConfirmLaws.{back-turned}
use Rattle.tier_model.proofs.OwnTurns.{OpenFits, kept_fits, look_fits, begin_fits, confirm_fits, finish_fits, open_fits, poll_fits, read_fits}

module _ (start : Opening) where
  module _ (t : MomentValue) (i : Inside) (h : History) where
    module _ (s : State) (holds : Holds start s h) (count : s.shelf.writes ≡ writes_begun start h) (writes : WritesFit start h) where
      request_fits : (k : ℕ) (x : Option Request) (a : Answer)
          → MatchOption x ⊥ (λ q. (a ≡ look_answer t (lock_given t q (look_for q s.shelf) s.lock) (look_for q s.shelf)) × UseFits s q (look_for q s.shelf)) → OpenFits start k x h
          → OpenFits start k (option_map (λ q. looked t q (look_for q s.shelf) s.lock) x) (call_at t (LookUp k) i (Ok a) ∷ h)
      request_fits k None a p fits = absurd p
      request_fits k (Some q) a p fits = look_fits start t i h s holds count writes k q (look_for q s.shelf) a refl p.0 fits

      begun_fits : (k : ℕ) (head : List ℕ) (given : Option GivenMeta) (x : Option Request) (a : Answer) → IsBeginAnswer (judged_of (call_at t (Begin k head given) i (Ok a))) a → OpenFits start k x h
          → OpenFits start k (option_map (begin_turn s (judged_of (call_at t (Begin k head given) i (Ok a)))) x) (call_at t (Begin k head given) i (Ok a) ∷ h)
      begun_fits k head given None a p fits = fits
      begun_fits k head given (Some q) a p fits = begin_fits start t i h s holds count writes k head given q a (judged_of (call_at t (Begin k head given) i (Ok a))) refl p fits

      confirmed_fits : (k : ℕ) (head : List ℕ) (given : Option GivenMeta) (o : Outcome) (x : Option Request) → is_confirmation o ≡ true → OpenFits start k x h
          → OpenFits start k (option_map (λ q. confirmed q) x) (call_at t (Revalidate k head given) i o ∷ h)
      confirmed_fits k head given o None e fits = fits
      confirmed_fits k head given o (Some q) e fits = confirm_fits start t i h s holds count writes k head given o q e fits

      -- a revalidation that is refused
      renewal_fits : (k : ℕ) (head : List ℕ) (given : Option GivenMeta) (f : TierFault) → AllowsBy (refusal s (Revalidate k head given)) s t (Revalidate k head given) (call_at t (Revalidate k head given) i (Err f)) (Err f) → (x : Option Request)
          → OpenFits start k x h
          → OpenFits start k (option_map (back_turn (judged_at s (Revalidate k head given) (call_at t (Revalidate k head given) i (Err f))) (done_of f).stored) x) (call_at t (Revalidate k head given) i (Err f) ∷ h)
      renewal_fits k head given f p None fits = fits
      renewal_fits k head given f p (Some q) fits =
          subst (λ (y : Request). OpenFits start k (Some y) (call_at t (Revalidate k head given) i (Err f) ∷ h)) (sym (back-turned s t k head given (call_at t (Revalidate k head given) i (Err f)) f p q))
          (by_stored (done_of f).stored refl)
        where
          by_stored : (v : Bool) → (done_of f).stored ≡ v → OpenFits start k (Some (cond v (confirmed q) q)) (call_at t (Revalidate k head given) i (Err f) ∷ h)
          by_stored true e = confirm_fits start t i h s holds count writes k head given (Err f) q e fits
          by_stored false e = kept_fits start t i h (Revalidate k head given) (Err f) k (quiet-renewal t k head given f k e) (Some q) fits

      was_closed : (o : Option Request) → unless (not (is_some o)) IdInUse ≡ None → o ≡ None
      was_closed None e = refl
      was_closed (Some q) e = absurd cc

      module _ (fits : (id : ℕ) → OpenFits start id (get s.requests id) h) where
        -- the request that an answered event names
        answer_fits : (action : Action) (a : Answer) → refusal s action ≡ None → IsAnswer s t action (call_at t action i (Ok a)) a → (id : ℕ) → is_named id (named_by action) ≡ true
            → OpenFits start id (turn s t action (judged_for s (call_at t action i (Ok a))) (Ok a) (get s.requests id)) (call_at t action i (Ok a) ∷ h)
        answer_fits (Open k key asks) a n p id e =
            subst (λ (y : Answer). OpenFits start id (Some (opened_request s.wait (entry_of key) asks)) (call_at t (Open k key asks) i (Ok y) ∷ h)) (sym p)
            (subst (λ (x : ℕ). OpenFits start x (Some (opened_request s.wait (entry_of key) asks)) (call_at t (Open k key asks) i (Ok Opened) ∷ h)) (eqb-true k id e)
            (open_fits start t i h s holds count writes k key asks (subst (λ (o : Option Request). OpenFits start k o h) (was_closed (get s.requests k) n) (fits k))))
        answer_fits (LookUp k) a n p id e =
            subst (λ (x : ℕ). OpenFits start x (option_map (λ q. looked t q (look_for q s.shelf) s.lock) (get s.requests x)) (call_at t (LookUp k) i (Ok a) ∷ h)) (eqb-true k id e) (request_fits k (get s.requests k) a p (fits k))
        answer_fits (Poll k) a n p id e =
            subst (λ (x : ℕ). OpenFits start x (turn s t (Poll k) None (Ok a) (get s.requests x)) (call_at t (Poll k) i (Ok a) ∷ h)) (eqb-true k id e) (poll_fits start t i h s holds count writes k (get s.requests k) a p (fits k))
        answer_fits (Begin k head given) a n p id e =
            subst (λ (x : ℕ). OpenFits start x (option_map (begin_turn s (judged_of (call_at t (Begin k head given) i (Ok a)))) (get s.requests x)) (call_at t (Begin k head given) i (Ok a) ∷ h)) (eqb-true k id e)
            (begun_fits k head given (get s.requests k) a p (fits k))
        answer_fits (Revalidate k head given) a n p id e =
            subst (λ (x : ℕ). OpenFits start x (option_map (λ q. confirmed q) (get s.requests x)) (call_at t (Revalidate k head given) i (Ok a) ∷ h)) (eqb-true k id e)
            (confirmed_fits k head given (Ok a) (get s.requests k) refl (fits k))
        answer_fits (Piece k bytes last) a n p id e =
            kept_fits start t i h (Piece k bytes last) (Ok a) id (record { key = λ old. refl; asks = λ old. refl; write = λ new old. refl; seen = λ shown old. refl; own = λ old. refl; wait = λ old. refl; reader = refl; bytes = refl }) (get s.requests id) (fits id)
        answer_fits (Finish k) a n p id e =
            subst (λ (x : ℕ). OpenFits start x (option_map (land_turn true) (get s.requests x)) (call_at t (Finish k) i (Ok a) ∷ h)) (eqb-true k id e) (finish_fits start t i h s holds count writes k (Ok a) (get s.requests k) (fits k))
        answer_fits (Read k) a n p id e =
            subst (λ (x : ℕ). OpenFits start x (option_map (read_turn a) (get s.requests x)) (call_at t (Read k) i (Ok a) ∷ h)) (eqb-true k id e) (read_fits start t i h s holds count writes k (get s.requests k) a (fits k))
        answer_fits (Drop k) a n p id e =
            subst (λ (y : Answer). OpenFits start id None (call_at t (Drop k) i (Ok y) ∷ h)) (sym p) (ap (λ v. cond v None (opened_for id h)) e)
        answer_fits (Purge key) a n p id e = absurd cc
        answer_fits (Put key pieces given) a n p id e = absurd cc

        fault_fits : (action : Action) (f : TierFault) → AllowsBy (refusal s action) s t action (call_at t action i (Err f)) (Err f) → (id : ℕ) → is_named id (named_by action) ≡ true
            → OpenFits start id (turn s t action (judged_for s (call_at t action i (Err f))) (Err f) (get s.requests id)) (call_at t action i (Err f) ∷ h)
        fault_fits (Finish k) f p id e =
            subst (λ (x : ℕ). OpenFits start x (option_map (land_turn (is_landing (Err f))) (get s.requests x)) (call_at t (Finish k) i (Err f) ∷ h)) (eqb-true k id e) (finish_fits start t i h s holds count writes k (Err f) (get s.requests k) (fits k))
        fault_fits (Revalidate k head given) f p id e =
            let j = judged_at s (Revalidate k head given) (call_at t (Revalidate k head given) i (Err f)) in
            subst (λ (x : ℕ). OpenFits start x (option_map (back_turn j (done_of f).stored) (get s.requests x)) (call_at t (Revalidate k head given) i (Err f) ∷ h)) (eqb-true k id e)
            (renewal_fits k head given f p (get s.requests k) (fits k))
        fault_fits (Open k key asks) f p id e = kept_fits start t i h (Open k key asks) (Err f) id (quiet-call t (Open k key asks) f id refl) (get s.requests id) (fits id)
        fault_fits (LookUp k) f p id e = kept_fits start t i h (LookUp k) (Err f) id (quiet-call t (LookUp k) f id refl) (get s.requests id) (fits id)
        fault_fits (Poll k) f p id e = kept_fits start t i h (Poll k) (Err f) id (quiet-call t (Poll k) f id refl) (get s.requests id) (fits id)
        fault_fits (Begin k head given) f p id e = kept_fits start t i h (Begin k head given) (Err f) id (quiet-call t (Begin k head given) f id refl) (get s.requests id) (fits id)
        fault_fits (Piece k bytes last) f p id e = kept_fits start t i h (Piece k bytes last) (Err f) id (quiet-call t (Piece k bytes last) f id refl) (get s.requests id) (fits id)
        fault_fits (Read k) f p id e = kept_fits start t i h (Read k) (Err f) id (quiet-call t (Read k) f id refl) (get s.requests id) (fits id)
        fault_fits (Drop k) f p id e = kept_fits start t i h (Drop k) (Err f) id (quiet-call t (Drop k) f id refl) (get s.requests id) (fits id)
        fault_fits (Purge key) f p id e = absurd cc
        fault_fits (Put key pieces given) f p id e = absurd cc

        -- each request after a call is what its calls say
        module _ (action : Action) where
          by_outcome : (o : Outcome) → AllowsBy (refusal s action) s t action (call_at t action i o) o → (id : ℕ) → is_named id (named_by action) ≡ true
              → OpenFits start id (turn s t action (judged_for s (call_at t action i o)) o (get s.requests id)) (call_at t action i o ∷ h)
          by_outcome (Ok a) p id e =
              let q = unrefused s (refusal s action) t action (call_at t action i (Ok a)) a refl p in
              answer_fits action a q.0 q.1 id e
          by_outcome (Err f) p id e = fault_fits action f p id e

          pub OpenFits-next : (o : Outcome) → AllowsBy (refusal s action) s t action (call_at t action i o) o → (id : ℕ)
              → OpenFits start id (get (after s (call_at t action i o)).requests id) (call_at t action i o ∷ h)
          OpenFits-next o p id = subst (λ (x : Option Request). OpenFits start id x (call_at t action i o ∷ h)) (sym (requests-after s (call_at t action i o) id)) (by_name (is_named id (named_by action)) refl)
            where
              by_name : (v : Bool) → is_named id (named_by action) ≡ v
                  → OpenFits start id (cond v (turn s t action (judged_for s (call_at t action i o)) o (get s.requests id)) (get s.requests id)) (call_at t action i o ∷ h)
              by_name true e = by_outcome o p id e
              by_name false e = kept_fits start t i h action o id (other-call id t action o e) (get s.requests id) (fits id)

  pub OpenFits-after : (s : State) (c : Call) (h : History) → Holds start s h → s.shelf.writes ≡ writes_begun start h → WritesFit start h → ((id : ℕ) → OpenFits start id (get s.requests id) h) → Allows s c
      → (id : ℕ) → OpenFits start id (get (after s c).requests id) (c ∷ h)
  OpenFits-after s c h holds count writes fits p = OpenFits-next c.event.moment (record { reading = c.reading; began = c.began; asked = c.asked }) h s holds count writes fits c.event.action c.outcome p.outcome
