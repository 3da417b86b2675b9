-- A finish is answered by its row, and leaves what the promise says then.
use Rattle.std.proofs.Common.{◌≡◌, ℕ, refl, sym, true, subst, cond, inl, inr}
use Rattle.std.specs.Prelude.{Option, Some, None, is_some, Ok, Err, MatchOption}
use Rattle.std.specs.FinMap.{get}
use Rattle.cache_words.specs.Time.{MomentValue}
use Rattle.cache_lock.specs.Changes.{Changes as LockChanges}
use Rattle.tier_model.specs.declared.event.Action.TheVariants.{Finish}
use Rattle.tier_model.specs.declared.event.TierFault.{TierFault}
use Rattle.tier_model.specs.declared.event.TierFault.TheVariants.{NoRequest, WrongPhase}
use Rattle.tier_model.specs.Calls.{Outcome, writes_after}
use Rattle.tier_model.specs.State.{Settings, streaming, State, shards_of}
use Rattle.tier_model.specs.State as state
use Rattle.tier_model.specs.Checks.{unless, unless_open}
use Rattle.tier_model.specs.Answers.{finishing, IsStored, IsFinishFault}
use Rattle.tier_model.specs.Step.{AllowsBy, Allows, tells_of_write}
use Rattle.tier_model.specs.After.{with_counts, by_request, on_request, finished_state}
use Rattle.tier_promise.specs.Promise.{Write, Changes, Request, EventRow, Now, finish_by, far_of, ran_out, refused, row_of, came}
use Rattle.tier_model.proofs.CallLaws.{Inside, call_at}
use Rattle.tier_promise.proofs.NowRows.{row_closed, Answered}
use Rattle.tier_promise.proofs.NowFits.{WriteFits, RequestFits, OpenFits, NowFits}
use Rattle.tier_promise.proofs.NowRequests.{IsSound}
use Rattle.tier_promise.proofs.NowSteps.{Step, of-open, same-count, refused-fits, closed-fits, counted-fits}
use Rattle.tier_promise.proofs.NowFinishSteps.{finish-leaves}

module _ (x : Settings) (s : State) (locks : LockChanges) (now : Now) (fits : NowFits x s locks now) (sound : IsSound s) (used : ℕ) (t : MomentValue) (i : Inside) where
  abbrev c : Changes
  c = now.changes

  abbrev row_for : Outcome → Option Request → EventRow
  row_for o v = row_of v (λ r. finish_by r.write (far_of o) r c)

  abbrev FinishComes : ℕ → Outcome → ℕ → Option Request → Type 0
  FinishComes id o k v =
      Answered x used o (row_for o v) c
      × NowFits x (with_counts k s.lock (on_request s id (λ q. finished_state s id q o))) locks (cond (ran_out o) now (came id (row_for o v) now).now)

  abbrev RowComes : ℕ → Outcome → ℕ → Request → Option Write → State → Type 0
  RowComes id o k r v new =
      Answered x used o (finish_by v (far_of o) r c) c
      × NowFits x (with_counts k s.lock new) locks (cond (ran_out o) now (came id (finish_by v (far_of o) r c) now).now)

  -- a refusal by a check changes nothing
  check_state : (id : ℕ) (o : Option state.Request) → by_request s o (λ q. finished_state s id q (Err WrongPhase)) ≡ s
  check_state id None = refl
  check_state id (Some q) = refl

  closed_state : (id : ℕ) (o : Option state.Request) → by_request s o (λ q. finished_state s id q (Err NoRequest)) ≡ s
  closed_state id None = refl
  closed_state id (Some q) = refl

  finish_write : (id : ℕ) (q : state.Request) (r : Request) (is : get s.requests id ≡ Some q) (at : now.request id ≡ Some r) (f : RequestFits x fits.numbers fits.permits s.shelf c q r) (o : Outcome) (k : ℕ) → k ≡ s.shelf.writes
      → (u : Option ℕ) (v : Option Write) → q.write ≡ u → r.write ≡ v → WriteFits fits.numbers s.shelf.flying r.entry u v → AllowsBy (unless (is_some u) WrongPhase) s t (Finish id) (call_at t (Finish id) i o) o
      → RowComes id o k r v (on_request s id (λ q. finished_state s id q o))
  finish_write id q r is at f (Ok a) k same None None held has h p = absurd cc
  finish_write id q r is at f (Err e) k same None None held has h p =
      subst (λ (y : TierFault). RowComes id (Err y) k r None (on_request s id (λ q. finished_state s id q (Err y)))) (let one : WrongPhase ≡ e = cc in one) (
        (refl, tt),
        subst (λ (new : State). NowFits x (with_counts k s.lock new) locks (came id (refused r WrongPhase) now).now) (sym (check_state id (get s.requests id)))
            (counted-fits x s locks (came id (refused r WrongPhase) now).now k s.lock same refl (refused-fits x s locks now fits id r WrongPhase at)),
      )
  finish_write id q r is at f (Ok a) k same (Some n) (Some w) held has h p =
      subst (λ (y : Option state.Request). RowComes id (Ok a) k r (Some w) (by_request s y (λ q. finished_state s id q (Ok a)))) (sym is)
      (finish-leaves x s locks now fits sound used t i id q r is at f n w held has h (Ok a) k same (of-open s id q (λ q. MatchOption (finishing q s.shelf) ⊥ (λ y. IsStored s y a)) is p))
  finish_write id q r is at f (Err e) k same (Some n) (Some w) held has h p =
      subst (λ (y : Option state.Request). RowComes id (Err e) k r (Some w) (by_request s y (λ q. finished_state s id q (Err e)))) (sym is)
      (finish-leaves x s locks now fits sound used t i id q r is at f n w held has h (Err e) k same (elim p [
        | inl m ↦ absurd m.1
        | inr late ↦ of-open s id q (λ q. IsFinishFault s (finishing q s.shelf) e) is late
      ]))
  finish_write id q r is at f o k same (Some n) None held has h p = absurd h
  finish_write id q r is at f o k same None (Some w) held has h p = absurd h

  finish_open : (id : ℕ) (o : Outcome) (q : Option state.Request) (v : Option Request) (k : ℕ) → get s.requests id ≡ q → now.request id ≡ v → OpenFits x fits.numbers fits.permits s.shelf c q v → k ≡ s.shelf.writes
      → AllowsBy (unless_open q (λ q. unless (is_some q.write) WrongPhase)) s t (Finish id) (call_at t (Finish id) i o) o → FinishComes id o k v
  finish_open id o (Some q) None k is at f same p = absurd f
  finish_open id o None (Some r) k is at f same p = absurd f
  finish_open id (Ok a) None None k is at f same p = absurd cc
  finish_open id (Err e) None None k is at f same p =
      subst (λ (y : TierFault). FinishComes id (Err y) k None) (let one : NoRequest ≡ e = cc in one) (
        (refl, tt),
        subst (λ (new : State). NowFits x (with_counts k s.lock new) locks (came id row_closed now).now) (sym (closed_state id (get s.requests id)))
            (counted-fits x s locks (came id row_closed now).now k s.lock same refl (closed-fits x s locks now fits id at)),
      )
  finish_open id o (Some q) (Some r) k is at f same p = finish_write id q r is at f o k same q.write r.write refl refl f.write p

  pub finish-step : (id : ℕ) (o : Outcome) → Allows s (call_at t (Finish id) i o) → Step x used s locks (call_at t (Finish id) i o) now
  finish-step id (Ok a) p =
      let all = finish_open id (Ok a) (get s.requests id) (now.request id) (writes_after s.shelf.writes i.began) refl refl (fits.requests id) (same-count s (tells_of_write (call_at t (Finish id) i (Ok a))) i.began p.begins) p.outcome in
      record { right = record { read = p.read; outcome = all.0 }; fits = all.1 }
  finish-step id (Err e) p =
      let all = finish_open id (Err e) (get s.requests id) (now.request id) (writes_after s.shelf.writes i.began) refl refl (fits.requests id) (same-count s (tells_of_write (call_at t (Finish id) i (Err e))) i.began p.begins) p.outcome in
      record { right = record { read = p.read; outcome = all.0 }; fits = all.1 }
