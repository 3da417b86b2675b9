-- What holds of each open request, whatever call comes, where each event of a request keeps it.
use Rattle.cache_heads.specs.declared.given.GivenMeta.{GivenMeta}
use Rattle.std.proofs.Common.{◌≡◌, ℕ, refl, ap, sym, ◌∙◌, true, false, subst, cond}
use Rattle.std.specs.Prelude.{Bool, List, Option, Some, None, option_map, Ok, Err}
use Rattle.std.specs.FinMap.{get}
use Rattle.std.proofs.lemmas.Bool.{eqb-true}
use Rattle.cache_words.specs.Time.{MomentValue}
use Rattle.cache_lock.specs.declared.status.LockStatus.{LockStatus}
use Rattle.tier_model.specs.declared.event.Action.{Action}
use Rattle.tier_model.specs.declared.event.Action.TheVariants.{Open, LookUp, Poll, Begin, Revalidate, Piece, Finish, Read, Drop, Purge, Put}
use Rattle.tier_model.specs.declared.event.Answer.{Answer}
use Rattle.tier_model.specs.declared.event.Answer.TheVariants.{Waited}
use Rattle.tier_model.specs.declared.event.TierFault.{TierFault}
use Rattle.tier_model.specs.declared.event.TierFault.TheVariants.{WrongPhase}
use Rattle.tier_model.specs.Keys.{Entry, entry_of}
use Rattle.tier_model.specs.Response.{Judged}
use Rattle.tier_model.specs.Calls.{Call, Outcome, done_of}
use Rattle.tier_model.specs.Histories.{is_landing}
use Rattle.tier_model.specs.Shelf.{Look}
use Rattle.tier_model.specs.State.{Request, State}
use Rattle.tier_model.specs.Checks.{can_begin, can_revalidate, unless, look_refusal, refusal}
use Rattle.tier_model.specs.Answers.{look_for}
use Rattle.tier_model.specs.Step.{AllowsBy, Allows}
use Rattle.tier_model.specs.After.{opened_request, looked, after_wait, confirmed, after}
use Rattle.tier_model.proofs.CallLaws.{Inside, call_at, named_by, is_named, begin_turn, back_turn, land_turn, read_turn, judged_at, judged_for, turn, requests-after}
use Rattle.tier_model.proofs.OpenLaws.{passed, test_passed, unrefused}
use Rattle.tier_model.proofs.ConfirmLaws.{renewal-told, back-turned}

abbrev pub AllOf : (Request → Type 0) → Option Request → Type 0
AllOf P None = Unit {0}
AllOf P (Some q) = P q

-- each event of a request keeps P
pub record Turns (s : State) (t : MomentValue) (P : Request → Type 0) : Type 0 where
  pub opens : (entry : Entry) (asks : Bool) → P (opened_request s.wait entry asks)
  pub looks : (q : Request) (l : Look) → look_refusal q ≡ None → P q → P (looked t q l s.lock)
  pub waited : (q : Request) (outcome : Option LockStatus) → P q → P (after_wait t outcome q.held q)
  pub begins : (q : Request) (j : Option Judged) → can_begin q.phase q.gave_read ≡ true → P q → P (begin_turn s j q)
  pub confirms : (q : Request) → can_revalidate q.phase q.gave_read ≡ true → P q → P (confirmed q)
  pub lands : (q : Request) (v : Bool) → P q → P (land_turn v q)
  pub reads : (q : Request) (a : Answer) → P q → P (read_turn a q)

module _ (s : State) (t : MomentValue) (P : Request → Type 0) (turns : Turns s t P) where
  mapped : (f : Request → Request) (o : Option Request) → AllOf P o → ((q : Request) → o ≡ Some q → P q → P (f q)) → AllOf P (option_map f o)
  mapped f None all h = tt
  mapped f (Some q) all h = h q refl all

  -- one that passed a check
  passes : (r id : ℕ) (check : Request → Option TierFault) (p : (q : Request) × (get s.requests r ≡ Some q) × (check q ≡ None)) (q : Request) → r ≡ id → get s.requests id ≡ Some q → check q ≡ None
  passes r id check p q e there =
      let same : Some p.0 ≡ Some q = sym p.1 ∙ ap (get s.requests) e ∙ there in
      let one : p.0 ≡ q = cc in
      subst (λ (y : Request). check y ≡ None) one p.2

  answer_turned : (action : Action) (j : Option Judged) (a : Answer) (id : ℕ) → is_named id (named_by action) ≡ true → refusal s action ≡ None → AllOf P (get s.requests id)
      → AllOf P (turn s t action j (Ok a) (get s.requests id))
  answer_turned (Open r key asks) j a id e n all = turns.opens (entry_of key) asks
  answer_turned (LookUp r) j a id e n all =
      mapped (λ q. looked t q (look_for q s.shelf) s.lock) (get s.requests id) all
      (λ q there x. turns.looks q (look_for q s.shelf) (passes r id look_refusal (passed (get s.requests r) look_refusal n) q (eqb-true r id e) there) x)
  answer_turned (Poll r) j (Waited outcome) id e n all = mapped (λ q. after_wait t outcome q.held q) (get s.requests id) all (λ q there x. turns.waited q outcome x)
  answer_turned (Poll r) j _ id e n all = all
  answer_turned (Begin r head given) j a id e n all =
      mapped (begin_turn s j) (get s.requests id) all
      (λ q there x. turns.begins q j
      (test_passed (can_begin q.phase q.gave_read) WrongPhase
      (passes r id (λ q. unless (can_begin q.phase q.gave_read) WrongPhase) (passed (get s.requests r) (λ q. unless (can_begin q.phase q.gave_read) WrongPhase) n) q (eqb-true r id e) there)) x)
  answer_turned (Revalidate r head given) j a id e n all =
      mapped (λ q. confirmed q) (get s.requests id) all
      (λ q there x. turns.confirms q
      (test_passed (can_revalidate q.phase q.gave_read) WrongPhase
      (passes r id (λ q. unless (can_revalidate q.phase q.gave_read) WrongPhase) (passed (get s.requests r) (λ q. unless (can_revalidate q.phase q.gave_read) WrongPhase) n) q (eqb-true r id e) there)) x)
  answer_turned (Piece r bytes last) j a id e n all = all
  answer_turned (Finish r) j a id e n all = mapped (land_turn true) (get s.requests id) all (λ q there x. turns.lands q true x)
  answer_turned (Read r) j a id e n all = mapped (read_turn a) (get s.requests id) all (λ q there x. turns.reads q a x)
  answer_turned (Drop r) j a id e n all = tt
  answer_turned (Purge key) j a id e n all = absurd cc
  answer_turned (Put key pieces given) j a id e n all = absurd cc

  -- a revalidation that is refused
  renewal_turned : (r : ℕ) (head : List ℕ) (given : Option GivenMeta) (c : Call) (f : TierFault) → AllowsBy (refusal s (Revalidate r head given)) s t (Revalidate r head given) c (Err f) → (id : ℕ) → r ≡ id → AllOf P (get s.requests id)
      → AllOf P (option_map (back_turn (judged_at s (Revalidate r head given) c) (done_of f).stored) (get s.requests id))
  renewal_turned r head given c f p id e all =
      mapped (back_turn (judged_at s (Revalidate r head given) c) (done_of f).stored) (get s.requests id) all
      (λ q there x. subst P (sym (back-turned s t r head given c f p q)) (by_stored q there x (done_of f).stored refl))
    where
      by_stored : (q : Request) → get s.requests id ≡ Some q → P q → (v : Bool) → (done_of f).stored ≡ v → P (cond v (confirmed q) q)
      by_stored q there x false is = x
      by_stored q there x true is =
          let y = renewal-told s t r head given c f p is in
          let same : Some y.request ≡ Some q = sym y.there ∙ ap (get s.requests) e ∙ there in
          let one : y.request ≡ q = cc in
          turns.confirms q (subst (λ (z : Request). can_revalidate z.phase z.gave_read ≡ true) one y.can) x

  fault_turned : (action : Action) (c : Call) (f : TierFault) → AllowsBy (refusal s action) s t action c (Err f) → (id : ℕ) → is_named id (named_by action) ≡ true → AllOf P (get s.requests id)
      → AllOf P (turn s t action (judged_at s action c) (Err f) (get s.requests id))
  fault_turned (Finish r) c f p id e all = mapped (land_turn (is_landing (Err f))) (get s.requests id) all (λ q there x. turns.lands q (is_landing (Err f)) x)
  fault_turned (Revalidate r head given) c f p id e all = renewal_turned r head given c f p id (eqb-true r id e) all
  fault_turned (Open r key asks) c f p id e all = all
  fault_turned (LookUp r) c f p id e all = all
  fault_turned (Poll r) c f p id e all = all
  fault_turned (Begin r head given) c f p id e all = all
  fault_turned (Piece r bytes last) c f p id e all = all
  fault_turned (Read r) c f p id e all = all
  fault_turned (Drop r) c f p id e all = all
  fault_turned (Purge key) c f p id e all = all
  fault_turned (Put key pieces given) c f p id e all = all

-- it holds of each request after an allowed call
pub all-turned : (s : State) (c : Call) (P : Request → Type 0) → Turns s c.event.moment P → ((id : ℕ) → AllOf P (get s.requests id)) → Allows s c → (id : ℕ) → AllOf P (get (after s c).requests id)
all-turned s c P turns all p id = subst (AllOf P) (sym (requests-after s c id)) (by_name (is_named id (named_by c.event.action)) refl)
  where
    i : Inside
    i = record { reading = c.reading; began = c.began; asked = c.asked }

    by_outcome : (o : Outcome) → AllowsBy (refusal s c.event.action) s c.event.moment c.event.action (call_at c.event.moment c.event.action i o) o → is_named id (named_by c.event.action) ≡ true
        → AllOf P (turn s c.event.moment c.event.action (judged_for s (call_at c.event.moment c.event.action i o)) o (get s.requests id))
    by_outcome (Ok a) p e =
        let q = unrefused s (refusal s c.event.action) c.event.moment c.event.action (call_at c.event.moment c.event.action i (Ok a)) a refl p in
        answer_turned s c.event.moment P turns c.event.action (judged_for s (call_at c.event.moment c.event.action i (Ok a))) a id e q.0 (all id)
    by_outcome (Err f) p e = fault_turned s c.event.moment P turns c.event.action (call_at c.event.moment c.event.action i (Err f)) f p id e (all id)

    by_name : (v : Bool) → is_named id (named_by c.event.action) ≡ v → AllOf P (cond v (turn s c.event.moment c.event.action (judged_for s c) c.outcome (get s.requests id)) (get s.requests id))
    by_name true e = by_outcome c.outcome p.outcome e
    by_name false e = all id
