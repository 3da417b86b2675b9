-- Lawful histories change the lock in an orderly way, and each core is named by the requests that hold it.
use Rattle.std.proofs.Common.{◌≡◌, ℕ, refl, ap, sym, ◌∙◌, true, subst, [], ◌∷◌, ◌++◌}
use Rattle.std.specs.Prelude.{Bool, List, map}
use Rattle.std.specs.List.{sum_by}
use Rattle.std.specs.FinMap.{get, get-empty, empty, entries, len-entries, len-empty}
use Rattle.std.specs.Ordering.{nat_cmp}
use Rattle.std.proofs.lemmas.List.{nil_from_length}
use Rattle.cache_words.specs.Time.{MomentValue}
use Rattle.cache_lock.specs.Changes.{Changes}
use Rattle.cache_lock.specs.Answers.{to_wait_for, wait_outcome}
use Rattle.cache_lock.specs.State.{IsSound, after_all}
use Rattle.cache_lock.specs.Waits.{IsOrderly}
use Rattle.cache_lock.proofs.WaitLaws.{state_of-is}
use Rattle.tier_model.specs.declared.event.Action.{Action}
use Rattle.tier_model.specs.Calls.{Call, History, Outcome}
use Rattle.tier_model.specs.Histories.{Opening}
use Rattle.tier_model.specs.State.{Request, State}
use Rattle.tier_model.specs.Answers.{key_for}
use Rattle.tier_model.specs.Step.{Allows}
use Rattle.tier_model.specs.After.{lock_changes}
use Rattle.tier_model.specs.Past.{state_of, lock_changes_of, IsLawful, holds, holders}
use Rattle.tier_model.proofs.LockLaws.{IsSound-of}
use Rattle.tier_model.proofs.GripLaws.{free, grips}
use Rattle.tier_model.proofs.GrantSteps.{Granted, same-granted, given-step}
use Rattle.tier_model.proofs.GrantEnds.{lent-step, back-step, left-step, polled-step, dropped-step, released-step}
use Rattle.tier_model.proofs.EffectLaws.{grip_of, grip_at, hold_at, table-of, end-not-waiting, Effect, quiet, given, lent, back, polled, left, dropped, released}
use Rattle.tier_model.proofs.TurnLaws.{all-turned}
use Rattle.tier_model.proofs.PhaseLaws.{waits-turn}
use Rattle.tier_model.proofs.HoldSteps.{WaitsWell, WaitsFit}
use Rattle.tier_model.proofs.HoldEvents.{effect-of}

-- ---- after each call

granted-by : (s new : State) (t : MomentValue) (action : Action) (o : Outcome) (cs changes : Changes) → Granted s.lock (grip_at s) (hold_at s) changes → IsSound s.lock → Effect s new t action o cs
    → Granted (after_all cs s.lock) (grip_at new) (hold_at new) (cs ++ changes)
granted-by s new t action o cs changes x sound e = by_effect e
  where
    Now : Changes → Type 0
    Now cs = Granted (after_all cs s.lock) (grip_at new) (hold_at new) (cs ++ changes)

    by_effect : Effect s new t action o cs → Now cs
    by_effect (quiet same none says) = subst Now (sym none) (same-granted s.lock (grip_at s) (grip_at new) (hold_at s) (hold_at new) changes same x)
    by_effect (given r q past there moves none is says) = subst Now (sym is) (given-step s.lock (grip_at s) (hold_at s) changes x (key_for q) none (grip_at new) (hold_at new) r past t sound moves)
    by_effect (lent r n key moves there is says) = subst Now (sym is) (lent-step s.lock (grip_at s) (hold_at s) changes x (grip_at new) (hold_at new) r n key there moves)
    by_effect (back key past same is says) =
        subst Now (sym is) (same-granted _ (grip_at s) (grip_at new) (hold_at s) (hold_at new) _ same (back-step s.lock (grip_at s) (hold_at s) changes x (table-of s) sound key past t (to_wait_for key s.lock) refl))
    by_effect (polled r n key over outcome moves is act out ended) =
        subst Now (sym is) (polled-step s.lock (grip_at s) (hold_at s) changes x (grip_at new) (hold_at new) r n key (table-of s) moves (wait_outcome n [] t s.lock))
    by_effect (left r n key moves is says) = subst Now (sym is) (left-step s.lock (grip_at s) (hold_at s) changes x (grip_at new) (hold_at new) r n key (table-of s) moves)
    by_effect (dropped r n key moves is says) = subst Now (sym is) (dropped-step s.lock (grip_at s) (hold_at s) changes x (grip_at new) (hold_at new) r n key (table-of s) moves)
    by_effect (released r n key reason ends moves is says) =
        subst Now (sym is) (released-step s.lock (grip_at s) (hold_at s) changes x (grip_at new) (hold_at new) r n key (table-of s) moves reason (end-not-waiting reason ends))

-- what a lawful history leaves of the lock and of those that hold its cores
pub record LocksFit (start : Opening) (h : History) : Type 0 where
  pub fits : (id : ℕ) → WaitsFit (get (state_of start h).requests id)
  pub granted : Granted (state_of start h).lock (grip_at (state_of start h)) (hold_at (state_of start h)) (lock_changes_of start h)

pub effect-lawful : (start : Opening) (c : Call) (h : History) → LocksFit start h → Allows (state_of start h) c
    → Effect (state_of start h) (state_of start (c ∷ h)) c.event.moment c.event.action c.outcome (lock_changes (state_of start h) c)
effect-lawful start c h x p = effect-of (state_of start h) c x.fits p

pub none_holds : (n : ℕ) → holders n (empty {X = Request} {R = nat_cmp}) ≡ 0
none_holds n = ap (λ (l : List (ℕ × Request)). sum_by (holds n) (map (λ e. e.1) l)) (nil_from_length (entries (empty {X = Request} {R = nat_cmp})) (sym (len-entries (empty {X = Request} {R = nat_cmp})) ∙ len-empty nat_cmp Request))

pub LocksFit-lawful : (start : Opening) (h : History) → IsLawful start h → LocksFit start h
LocksFit-lawful start [] l = record {
  fits = λ id. subst WaitsFit (sym (get-empty nat_cmp id)) tt;
  granted = record {
    grants = record {
      orderly = tt;
      state = let empty = state_of-is start.settings.age [] tt in
          record { names = empty.names; status = empty.status; current = empty.current; waits = empty.waits; replaced = empty.replaced };
      names = λ n. sym (none_holds n);
      unused = λ n l. refl;
      there = λ i n p k e. absurd (none i p n k e);
      keyed = λ j k n e is. absurd cc;
      given = λ j n e. absurd cc;
      apart = λ i j n a b e f. absurd (none i true n a e);
      holder = λ j n e w. absurd cc;
    };
    permits = λ i n k e. absurd (none i true n k e);
  };
}
  where
    none : (i : ℕ) (p : Bool) (n : ℕ) (k : List ℕ) → grip_at (state_of start []) i ≡ grips p n k → ⊥
    none i p n k e = let clash : free ≡ grips p n k = sym (ap grip_of (get-empty nat_cmp i)) ∙ e in absurd cc
LocksFit-lawful start (c ∷ h) l =
    let x : LocksFit start h = LocksFit-lawful start h l.1 in
    record {
      fits = all-turned (state_of start h) c WaitsWell (waits-turn (state_of start h) c.event.moment) x.fits l.0;
      granted = granted-by (state_of start h) (state_of start (c ∷ h)) c.event.moment c.event.action c.outcome (lock_changes (state_of start h) c) (lock_changes_of start h) x.granted (IsSound-of start h) (effect-lawful start c h x l.0);
    }

-- what lawful histories change in the lock is orderly
pub IsOrderly-locks : (start : Opening) (h : History) → IsLawful start h → IsOrderly (lock_changes_of start h)
IsOrderly-locks start h l = (LocksFit-lawful start h l).granted.grants.orderly
