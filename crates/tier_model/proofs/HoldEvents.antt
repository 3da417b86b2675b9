-- The events that end what a request holds of the lock, and all others: each does one thing at most.
use Rattle.cache_heads.specs.declared.given.GivenMeta.{GivenMeta}
use Rattle.std.proofs.Common.{◌≡◌, ℕ, refl, ap, sym, ◌∙◌, true, false, subst, cond, inr, [], ◌==◌}
use Rattle.std.specs.Prelude.{Bool, ◌&&◌, not, List, Option, Some, None, is_some, option_map, Ok, Err, MatchOption}
use Rattle.std.specs.FinMap.{get}
use Rattle.std.proofs.lemmas.Bool.{eqb-true}
use Rattle.cache_words.specs.Time.{MomentValue}
use Rattle.cache_lock.specs.Answers.{to_wait_for, wait_outcome}
use Rattle.cache_lock.specs.State.{status_of}
use Rattle.cache_lock.specs.Status.{is_end}
use Rattle.cache_lock.specs.declared.status.LockStatus.{LockStatus}
use Rattle.cache_lock.specs.declared.status.LockStatus.TheVariants as status
use Rattle.tier_model.specs.declared.event.Action.{Action}
use Rattle.tier_model.specs.declared.event.Action.TheVariants.{Open, LookUp, Poll, Begin, Revalidate, Piece, Finish, Read, Drop, Purge, Put}
use Rattle.tier_model.specs.declared.event.Answer.{Answer}
use Rattle.tier_model.specs.declared.event.Answer.TheVariants.{Waited, Begun, Revalidated}
use Rattle.tier_model.specs.declared.event.Answer.TheVariants as answer
use Rattle.tier_model.specs.declared.event.LockGiven.{LockGiven}
use Rattle.tier_model.specs.declared.event.LockGiven.TheVariants as lock
use Rattle.tier_model.specs.declared.event.TierFault.{TierFault}
use Rattle.tier_model.specs.declared.event.TierFault.TheVariants.{IdInUse, WrongPhase}
use Rattle.tier_model.specs.Response.{Judged, kept, not_kept, too_early, not_read}
use Rattle.tier_model.specs.Calls.{Call, Outcome, done_of, judged_of}
use Rattle.tier_model.specs.Histories.{is_landing}
use Rattle.tier_model.specs.Locks.{is_permit}
use Rattle.tier_model.specs.Standings.{time_waited}
use Rattle.tier_model.specs.State.{Phase, stale, LockHold, nothing, permit, waits, Request, State}
use Rattle.tier_model.specs.Checks.{can_begin, can_revalidate, is_waiting, unless, look_refusal, refusal}
use Rattle.tier_model.specs.Answers.{key_for, look_for, asks_now, lock_given, look_answer, ended_by, is_past, polled, IsBeginAnswer, confirmed_for, IsConfirmed, IsRevalidateAnswer}
use Rattle.tier_model.specs.Step.{UseFits, IsAnswer, AllowsBy, Allows}
use Rattle.tier_model.specs.After.{by_request, after_wait, confirmed, release_of, leave_of, poll_of, lock_changes_in, lock_changes, after}
use Rattle.tier_model.proofs.CallLaws.{Inside, call_at, named_by, begin_turn, land_turn, read_turn, requests-after}
use Rattle.tier_model.proofs.OpenLaws.{passed, test_passed, unrefused}
use Rattle.tier_model.proofs.ConfirmLaws.{renewal-told, back-turned}
use Rattle.tier_model.proofs.GripLaws.{free, grips}
use Rattle.tier_model.proofs.EffectLaws as effect
use Rattle.tier_model.proofs.EffectLaws.{grip_in, grip_of, grip_at, same-all, SaysEnded, Effect}
use Rattle.tier_model.proofs.HoldSteps.{WaitsFit, look-passed, next, Does, turning, quiet_named, moves_named, look_does, look_refused}

was_closed : (o : Option Request) → unless (not (is_some o)) IdInUse ≡ None → o ≡ None
was_closed None e = refl
was_closed (Some q) e = absurd cc

land_grip : (v : Bool) (o : Option Request) → grip_of (option_map (land_turn v) o) ≡ grip_of o
land_grip v None = refl
land_grip true (Some q) = refl
land_grip false (Some q) = refl

read_grip : (a : Answer) (o : Option Request) → grip_of (option_map (read_turn a) o) ≡ grip_of o
read_grip a None = refl
read_grip a (Some q) = refl

module _ (s : State) (t : MomentValue) (i : Inside) (fits : (id : ℕ) → WaitsFit (get s.requests id)) where
  begun_free : (j : Option Judged) (q : Request) → grip_of (Some (begin_turn s j q)) ≡ free
  begun_free (Some (kept meta)) q = refl
  begun_free (Some (not_kept reason)) q = refl
  begun_free (Some too_early) q = refl
  begun_free (Some not_read) q = refl
  begun_free None q = refl

  module _ (r : ℕ) (q : Request) (there : get s.requests r ≡ Some q) where
    grip_there : (held : LockHold) → q.held ≡ held → grip_of (get s.requests r) ≡ grip_in (key_for q) held
    grip_there held is = ap grip_of there ∙ ap (grip_in (key_for q)) is

    -- ---- polls

    poll_does : (held : LockHold) → q.held ≡ held → is_waiting held ≡ true → Does s t i fits (Poll r) (Ok (Waited (polled s.lock t q held)))
    poll_does nothing held e = absurd cc
    poll_does (permit n) held e = absurd cc
    poll_does (waits n first) held e = by_outcome (ended_by (wait_outcome n [] t s.lock) (status_of n s.lock) over) refl
      where
        over : Bool
        over = is_past q.wait q.waited (time_waited first t)

        wait_grip : (outcome : Option LockStatus) → grip_of (turning s t i fits (Poll r) (Ok (Waited outcome)) (get s.requests r)) ≡ grip_of (Some (after_wait t outcome (waits n first) q))
        wait_grip outcome =
            ap (λ (x : Option Request). grip_of (turning s t i fits (Poll r) (Ok (Waited outcome)) x)) there ∙ ap (λ (x : LockHold). grip_of (Some (after_wait t outcome x q))) held

        wait_changes : (outcome : Option LockStatus) → lock_changes_in s t (Poll r) (Ok (Waited outcome)) i.asked ≡ poll_of t (waits n first) outcome s.lock
        wait_changes outcome = ap (λ (x : Option Request). by_request [] x (λ q. poll_of t q.held outcome s.lock)) there ∙ ap (λ (x : LockHold). poll_of t x outcome s.lock) held

        by_outcome : (outcome : Option LockStatus) → ended_by (wait_outcome n [] t s.lock) (status_of n s.lock) over ≡ outcome → Does s t i fits (Poll r) (Ok (Waited outcome))
        by_outcome None is =
            quiet_named s t i fits (Poll r) r (Ok (Waited None)) refl (wait_grip None ∙ sym (grip_there (waits n first) held)) (wait_changes None)
            (record { ends = λ id e. absurd cc; gives = λ id. refl; given = λ id old. inr refl; aged = λ k since before. refl })
        by_outcome (Some outcome) is =
            effect.polled r n (key_for q) over outcome (moves_named s t i fits (Poll r) r (Ok (Waited (Some outcome))) (grips false n (key_for q)) free refl (grip_there (waits n first) held) (wait_grip (Some outcome)))
            (wait_changes (Some outcome)) refl refl is

    -- ---- what ends a permit: a begin, and a revalidation that confirms

    module _ (action : Action) (o : Outcome) (named : named_by action ≡ Some r) (reason : LockStatus) (ends : is_end reason ≡ true) (says : SaysEnded r action o)
        (turned_free : grip_of (turning s t i fits action o (get s.requests r)) ≡ free)
        (releases : lock_changes_in s t action o i.asked ≡ by_request [] (get s.requests r) (λ q. release_of reason q q.held s.lock)) where
      end_changes : (held : LockHold) → q.held ≡ held → lock_changes_in s t action o i.asked ≡ release_of reason q held s.lock
      end_changes held is = releases ∙ ap (λ (x : Option Request). by_request [] x (λ q. release_of reason q q.held s.lock)) there ∙ ap (λ (x : LockHold). release_of reason q x s.lock) is

      end_does : (held : LockHold) → q.held ≡ held → can_begin q.phase q.gave_read ≡ true → Does s t i fits action o
      end_does nothing held can =
          quiet_named s t i fits action r o named (turned_free ∙ sym (grip_there nothing held)) (end_changes nothing held) (record {
            ends = λ id e. ap (grip_at s) (sym (eqb-true r id (sym (says.ends id) ∙ e))) ∙ grip_there nothing held;
            gives = λ id. ap (λ (x : LockGiven). is_permit x) (says.given id lock.None);
            given = λ id old. inr (says.given id old);
            aged = says.aged;
          })
      end_does (permit n) held can =
          effect.released r n (key_for q) reason ends (moves_named s t i fits action r o (grips true n (key_for q)) free named (grip_there (permit n) held) turned_free) (end_changes (permit n) held) says
      end_does (waits n first) held can =
          let fit : WaitsFit (Some q) = subst WaitsFit there (fits r) in
          let clash : true ≡ false = sym can ∙ fit n first held in
          absurd cc

    begin_does : (head : List ℕ) (given : Option GivenMeta) (a : Answer) (reason : LockStatus) → is_end reason ≡ true
        → lock_changes_in s t (Begin r head given) (Ok a) i.asked ≡ by_request [] (get s.requests r) (λ q. release_of reason q q.held s.lock) → can_begin q.phase q.gave_read ≡ true
        → Does s t i fits (Begin r head given) (Ok a)
    begin_does head given a reason ends releases can =
        end_does (Begin r head given) (Ok a) refl reason ends (record { ends = λ id. refl; given = λ id old. refl; aged = λ k since before. refl })
        (ap (λ (x : Option Request). grip_of (turning s t i fits (Begin r head given) (Ok a) x)) there ∙ begun_free (judged_of (call_at t (Begin r head given) i (Ok a))) q) releases q.held refl can

    begin_answer : (head : List ℕ) (given : Option GivenMeta) (a : Answer) (j : Option Judged) → IsBeginAnswer j a → can_begin q.phase q.gave_read ≡ true → Does s t i fits (Begin r head given) (Ok a)
    begin_answer head given a (Some (kept meta)) p can = subst (λ (y : Answer). Does s t i fits (Begin r head given) (Ok y)) (sym p) (begin_does head given Begun status.Done refl refl can)
    begin_answer head given a (Some (not_kept reason)) p can =
        subst (λ (y : Answer). Does s t i fits (Begin r head given) (Ok y)) (sym p) (begin_does head given (answer.Uncacheable reason) status.GiveUp refl refl can)
    begin_answer head given a (Some too_early) p can = absurd p
    begin_answer head given a (Some not_read) p can = absurd p
    begin_answer head given a None p can = absurd p

    may_begin : (p : Phase) (gave_read : Bool) → can_revalidate p gave_read ≡ true → can_begin p gave_read ≡ true
    may_begin stale gave_read e = e
    may_begin _ gave_read e = absurd cc

    confirm_does : (head : List ℕ) (given : Option GivenMeta) (a : Answer) (reason : LockStatus) → is_end reason ≡ true
        → lock_changes_in s t (Revalidate r head given) (Ok a) i.asked ≡ by_request [] (get s.requests r) (λ q. release_of reason q q.held s.lock) → can_revalidate q.phase q.gave_read ≡ true
        → Does s t i fits (Revalidate r head given) (Ok a)
    confirm_does head given a reason ends releases can =
        end_does (Revalidate r head given) (Ok a) refl reason ends (record { ends = λ id. refl; given = λ id old. refl; aged = λ k since before. refl })
        (ap (λ (x : Option Request). grip_of (turning s t i fits (Revalidate r head given) (Ok a) x)) there) releases q.held refl (may_begin q.phase q.gave_read can)

    confirm_answer : (head : List ℕ) (given : Option GivenMeta) (a : Answer) (j : Option Judged) → IsConfirmed s q j a → can_revalidate q.phase q.gave_read ≡ true → Does s t i fits (Revalidate r head given) (Ok a)
    confirm_answer head given (Revalidated evicted) (Some (kept meta)) p can = confirm_does head given (Revalidated evicted) status.Done refl refl can
    confirm_answer head given _ (Some (kept meta)) p can = absurd p
    confirm_answer head given a (Some (not_kept reason)) p can =
        subst (λ (y : Answer). Does s t i fits (Revalidate r head given) (Ok y)) (sym p) (confirm_does head given (answer.Uncacheable reason) status.GiveUp refl refl can)
    confirm_answer head given a (Some too_early) p can = absurd p
    confirm_answer head given a (Some not_read) p can = absurd p
    confirm_answer head given a None p can = absurd p

    -- one that is refused after the new meta was stored ends the permit too
    stored_does : (head : List ℕ) (given : Option GivenMeta) (f : TierFault) → AllowsBy (refusal s (Revalidate r head given)) s t (Revalidate r head given) (call_at t (Revalidate r head given) i (Err f)) (Err f) → (done_of f).stored ≡ true
        → can_revalidate q.phase q.gave_read ≡ true → Does s t i fits (Revalidate r head given) (Err f)
    stored_does head given f p stored can =
        end_does (Revalidate r head given) (Err f) refl status.Done refl
        (record { ends = λ id. one id (r == id); given = λ id old. refl; aged = λ k since before. refl })
        (ap (λ (x : Option Request). grip_of (turning s t i fits (Revalidate r head given) (Err f) x)) there
        ∙ ap (λ (x : Request). grip_of (Some x)) (back-turned s t r head given (call_at t (Revalidate r head given) i (Err f)) f p q) ∙ ap (λ (v : Bool). grip_of (Some (cond v (confirmed q) q))) stored)
        (ap (λ (v : Bool). cond v (by_request [] (get s.requests r) (λ q. release_of status.Done q q.held s.lock)) []) stored) q.held refl (may_begin q.phase q.gave_read can)
      where
        one : (id : ℕ) (v : Bool) → (v && (done_of f).stored) ≡ v
        one id true = stored
        one id false = refl

    -- ---- drops

    drop_changes : (a : Answer) (held : LockHold) → q.held ≡ held → lock_changes_in s t (Drop r) (Ok a) i.asked ≡ leave_of held
    drop_changes a held is = ap (λ (x : Option Request). by_request [] x (λ q. leave_of q.held)) there ∙ ap leave_of is

    drop_says : (a : Answer) → SaysEnded r (Drop r) (Ok a)
    drop_says a = record { ends = λ id. refl; given = λ id old. refl; aged = λ k since before. refl }

    drop_does : (a : Answer) (held : LockHold) → q.held ≡ held → Does s t i fits (Drop r) (Ok a)
    drop_does a nothing held =
        quiet_named s t i fits (Drop r) r (Ok a) refl (sym (grip_there nothing held)) (drop_changes a nothing held) (record {
          ends = λ id e. ap (grip_at s) (sym (eqb-true r id e)) ∙ grip_there nothing held;
          gives = λ id. refl;
          given = λ id old. inr refl;
          aged = λ k since before. refl;
        })
    drop_does a (permit n) held =
        effect.dropped r n (key_for q) (moves_named s t i fits (Drop r) r (Ok a) (grips true n (key_for q)) free refl (grip_there (permit n) held) refl) (drop_changes a (permit n) held) (drop_says a)
    drop_does a (waits n first) held =
        effect.left r n (key_for q) (moves_named s t i fits (Drop r) r (Ok a) (grips false n (key_for q)) free refl (grip_there (waits n first) held) refl) (drop_changes a (waits n first) held) (drop_says a)

  -- ---- all events

  poll_answer : (r : ℕ) (a : Answer) (o : Option Request) → get s.requests r ≡ o → MatchOption o ⊥ (λ q. a ≡ Waited (polled s.lock t q q.held))
      → ((q : Request) → o ≡ Some q → is_waiting q.held ≡ true) → Does s t i fits (Poll r) (Ok a)
  poll_answer r a None there p waiting = absurd p
  poll_answer r a (Some q) there p waiting = subst (λ (y : Answer). Does s t i fits (Poll r) (Ok y)) (sym p) (poll_does r q there q.held refl (waiting q refl))

  look_up_answer : (r : ℕ) (a : Answer) (q : Request) → get s.requests r ≡ Some q → look_refusal q ≡ None
      → MatchOption (get s.requests r) ⊥ (λ q. (a ≡ look_answer t (lock_given t q (look_for q s.shelf) s.lock) (look_for q s.shelf)) × UseFits s q (look_for q s.shelf))
      → Does s t i fits (LookUp r) (Ok a)
  look_up_answer r a q there passes p =
      let is = subst (λ (o : Option Request). MatchOption o ⊥ (λ q. (a ≡ look_answer t (lock_given t q (look_for q s.shelf) s.lock) (look_for q s.shelf)) × UseFits s q (look_for q s.shelf))) there p in
      subst (λ (y : Answer). Does s t i fits (LookUp r) (Ok y)) (sym is.0)
      (look_does s t i fits r q there (look-passed q passes).1 (asks_now t q (look_for q s.shelf)) (to_wait_for (key_for q) s.lock) refl refl)

  answer_does : (action : Action) (a : Answer) → refusal s action ≡ None → IsAnswer s t action (call_at t action i (Ok a)) a → Does s t i fits action (Ok a)
  answer_does (Open r key asks) a n p =
      quiet_named s t i fits (Open r key asks) r (Ok a) refl (sym (ap grip_of (was_closed (get s.requests r) n))) refl (record { ends = λ id e. absurd cc; gives = λ id. refl; given = λ id old. inr refl; aged = λ k since before. refl })
  answer_does (LookUp r) a n p = let q = passed (get s.requests r) look_refusal n in look_up_answer r a q.0 q.1 q.2 p
  answer_does (Poll r) a n p =
      let q = passed (get s.requests r) (λ q. unless (is_waiting q.held) WrongPhase) n in
      poll_answer r a (get s.requests r) refl p (λ x e. let same : Some q.0 ≡ Some x = sym q.1 ∙ e in let one : q.0 ≡ x = cc in subst (λ (y : Request). is_waiting y.held ≡ true) one (test_passed (is_waiting q.0.held) WrongPhase q.2))
  answer_does (Begin r head given) a n p =
      let q = passed (get s.requests r) (λ q. unless (can_begin q.phase q.gave_read) WrongPhase) n in
      begin_answer r q.0 q.1 head given a (judged_of (call_at t (Begin r head given) i (Ok a))) p (test_passed (can_begin q.0.phase q.0.gave_read) WrongPhase q.2)
  answer_does (Revalidate r head given) a n p =
      let q = passed (get s.requests r) (λ q. unless (can_revalidate q.phase q.gave_read) WrongPhase) n in
      let c = call_at t (Revalidate r head given) i (Ok a) in
      confirm_answer r q.0 q.1 head given a (confirmed_for q.0 c) (subst (λ (o : Option Request). MatchOption o ⊥ (λ q. IsRevalidateAnswer s q (confirmed_for q c) a)) q.1 p).1
      (test_passed (can_revalidate q.0.phase q.0.gave_read) WrongPhase q.2)
  answer_does (Piece r bytes last) a n p =
      quiet_named s t i fits (Piece r bytes last) r (Ok a) refl refl refl (record { ends = λ id e. absurd cc; gives = λ id. refl; given = λ id old. inr refl; aged = λ k since before. refl })
  answer_does (Finish r) a n p =
      quiet_named s t i fits (Finish r) r (Ok a) refl (land_grip true (get s.requests r)) refl (record { ends = λ id e. absurd cc; gives = λ id. refl; given = λ id old. inr refl; aged = λ k since before. refl })
  answer_does (Read r) a n p =
      quiet_named s t i fits (Read r) r (Ok a) refl (read_grip a (get s.requests r)) refl (record { ends = λ id e. absurd cc; gives = λ id. refl; given = λ id old. inr refl; aged = λ k since before. refl })
  answer_does (Drop r) a n p = let q = passed (get s.requests r) (λ q. None) n in drop_does r q.0 q.1 a q.0.held refl
  answer_does (Purge key) a n p =
      effect.quiet (same-all s (next s t i fits (Purge key) (Ok a)) (λ id. requests-after s (call_at t (Purge key) i (Ok a)) id)) refl
      (record { ends = λ id e. absurd cc; gives = λ id. refl; given = λ id old. inr refl; aged = λ k since before. refl })
  answer_does (Put key pieces given) a n p =
      effect.quiet (same-all s (next s t i fits (Put key pieces given) (Ok a)) (λ id. requests-after s (call_at t (Put key pieces given) i (Ok a)) id)) refl
      (record { ends = λ id e. absurd cc; gives = λ id. refl; given = λ id old. inr refl; aged = λ k since before. refl })

  renewal_does : (r : ℕ) (head : List ℕ) (given : Option GivenMeta) (f : TierFault) → AllowsBy (refusal s (Revalidate r head given)) s t (Revalidate r head given) (call_at t (Revalidate r head given) i (Err f)) (Err f)
      → Does s t i fits (Revalidate r head given) (Err f)
  renewal_does r head given f p = by_stored (done_of f).stored refl
    where
      c : Call
      c = call_at t (Revalidate r head given) i (Err f)

      by_stored : (v : Bool) → (done_of f).stored ≡ v → Does s t i fits (Revalidate r head given) (Err f)
      by_stored true e = let x = renewal-told s t r head given c f p e in stored_does r x.request x.there head given f p e x.can
      by_stored false e =
          quiet_named s t i fits (Revalidate r head given) r (Err f) refl (same_grip (get s.requests r)) (ap (λ (v : Bool). cond v (by_request [] (get s.requests r) (λ q. release_of status.Done q q.held s.lock)) []) e)
          (record { ends = λ id is. absurd (none (r == id) is); gives = λ id. refl; given = λ id old. inr refl; aged = λ k since before. refl })
        where
          none : (v : Bool) → (v && (done_of f).stored) ≡ true → ⊥
          none true is = let clash : true ≡ false = sym is ∙ e in absurd cc
          none false is = absurd cc

          same_grip : (o : Option Request) → grip_of (turning s t i fits (Revalidate r head given) (Err f) o) ≡ grip_of o
          same_grip None = refl
          same_grip (Some q) = ap (λ (x : Request). grip_of (Some x)) (back-turned s t r head given c f p q) ∙ ap (λ (v : Bool). grip_of (Some (cond v (confirmed q) q))) e

  fault_does : (action : Action) (f : TierFault) → AllowsBy (refusal s action) s t action (call_at t action i (Err f)) (Err f) → Does s t i fits action (Err f)
  fault_does (Revalidate r head given) f p = renewal_does r head given f p
  fault_does (LookUp r) f p = look_refused s t i fits r f
  fault_does (Open r key asks) f p =
      quiet_named s t i fits (Open r key asks) r (Err f) refl refl refl (record { ends = λ id e. absurd cc; gives = λ id. refl; given = λ id old. inr refl; aged = λ k since before. refl })
  fault_does (Poll r) f p = quiet_named s t i fits (Poll r) r (Err f) refl refl refl (record { ends = λ id e. absurd cc; gives = λ id. refl; given = λ id old. inr refl; aged = λ k since before. refl })
  fault_does (Begin r head given) f p = quiet_named s t i fits (Begin r head given) r (Err f) refl refl refl (record { ends = λ id e. absurd cc; gives = λ id. refl; given = λ id old. inr refl; aged = λ k since before. refl })
  fault_does (Piece r bytes last) f p =
      quiet_named s t i fits (Piece r bytes last) r (Err f) refl refl refl (record { ends = λ id e. absurd cc; gives = λ id. refl; given = λ id old. inr refl; aged = λ k since before. refl })
  fault_does (Finish r) f p =
      quiet_named s t i fits (Finish r) r (Err f) refl (land_grip (is_landing (Err f)) (get s.requests r)) refl (record { ends = λ id e. absurd cc; gives = λ id. refl; given = λ id old. inr refl; aged = λ k since before. refl })
  fault_does (Read r) f p = quiet_named s t i fits (Read r) r (Err f) refl refl refl (record { ends = λ id e. absurd cc; gives = λ id. refl; given = λ id old. inr refl; aged = λ k since before. refl })
  fault_does (Drop r) f p = quiet_named s t i fits (Drop r) r (Err f) refl refl refl (record { ends = λ id e. absurd cc; gives = λ id. refl; given = λ id old. inr refl; aged = λ k since before. refl })
  fault_does (Purge key) f p =
      effect.quiet (same-all s (next s t i fits (Purge key) (Err f)) (λ id. requests-after s (call_at t (Purge key) i (Err f)) id)) refl
      (record { ends = λ id e. absurd cc; gives = λ id. refl; given = λ id old. inr refl; aged = λ k since before. refl })
  fault_does (Put key pieces given) f p =
      effect.quiet (same-all s (next s t i fits (Put key pieces given) (Err f)) (λ id. requests-after s (call_at t (Put key pieces given) i (Err f)) id)) refl
      (record { ends = λ id e. absurd cc; gives = λ id. refl; given = λ id old. inr refl; aged = λ k since before. refl })

-- what an allowed call does
pub effect-of : (s : State) (c : Call) → ((id : ℕ) → WaitsFit (get s.requests id)) → Allows s c → Effect s (after s c) c.event.moment c.event.action c.outcome (lock_changes s c)
effect-of s c fits p = by_outcome c.outcome p.outcome
  where
    i : Inside
    i = record { reading = c.reading; began = c.began; asked = c.asked }

    by_outcome : (o : Outcome) → AllowsBy (refusal s c.event.action) s c.event.moment c.event.action (call_at c.event.moment c.event.action i o) o → Does s c.event.moment i fits c.event.action o
    by_outcome (Ok a) p =
        let q = unrefused s (refusal s c.event.action) c.event.moment c.event.action (call_at c.event.moment c.event.action i (Ok a)) a refl p in
        answer_does s c.event.moment i fits c.event.action a q.0 q.1
    by_outcome (Err f) p = fault_does s c.event.moment i fits c.event.action f p
