-- Each call of a lawful history is answered by its row, and the state after it is what the promise says.
use Rattle.std.proofs.Common.{ℕ, ◌+◌, ◌≤◌, [], ◌∷◌, length, arith}
use Rattle.cache_lock.specs.Changes.{Changes as LockChanges}
use Rattle.tier_model.specs.declared.event.Action.{Action}
use Rattle.tier_model.specs.declared.event.Action.TheVariants.{Open, LookUp, Poll, Begin, Revalidate, Piece, Finish, Read, Drop, Purge, Put}
use Rattle.tier_model.specs.Calls.{Call, History}
use Rattle.tier_model.specs.Histories.{Opening}
use Rattle.tier_model.specs.State.{Settings, State}
use Rattle.tier_model.specs.Step.{Allows}
use Rattle.tier_model.specs.After.{after}
use Rattle.tier_model.specs.Past.{state_of, lock_changes_of, IsLawful}
use Rattle.tier_promise.specs.Promise.{Now, now_of, AreRight}
use Rattle.tier_model.proofs.CallLaws.{Inside, call_at}
use Rattle.tier_model.proofs.StandLaws.{Stands, Stands-lawful}
use Rattle.tier_promise.proofs.LockNames.{IsFew, few-by-calls}
use Rattle.tier_promise.proofs.Room.{writes-by-calls}
use Rattle.tier_promise.proofs.NowFits.{NowFits}
use Rattle.tier_promise.proofs.NowRequests.{IsSound}
use Rattle.tier_promise.proofs.NowSteps.{Step}
use Rattle.tier_promise.proofs.NowEvents.{open-step, purge-step}
use Rattle.tier_promise.proofs.NowReads.{read-step}
use Rattle.tier_promise.proofs.NowPieces.{piece-step}
use Rattle.tier_promise.proofs.NowPuts.{put-step}
use Rattle.tier_promise.proofs.NowQuiet.{IsLocked}
use Rattle.tier_promise.proofs.NowPolls.{poll-step}
use Rattle.tier_promise.proofs.NowDrops.{drop-step}
use Rattle.tier_promise.proofs.NowLookEvents.{look-step}
use Rattle.tier_promise.proofs.NowBeginEvents.{begin-step}
use Rattle.tier_promise.proofs.NowFinishEvents.{finish-step}
use Rattle.tier_promise.proofs.NowRenewEvents.{revalidate-step}
use Rattle.tier_promise.proofs.NowOrder.{IsOrderly}
use Rattle.tier_promise.proofs.NowCalls.{keeps-all}
use Rattle.tier_promise.proofs.NowSound.{IsSound-stands}
use Rattle.tier_promise.proofs.NowStart.{start-fits, IsLocked-lawful}

pub step-of : (x : Settings) (used : ℕ) (s : State) (locks : LockChanges) (now : Now) → NowFits x s locks now → IsLocked x.age s locks → IsOrderly now.changes → IsSound s → IsFew used s.lock → s.shelf.writes ≤ used
    → (c : Call) → Allows s c → IsSound (after s c) → Step x used s locks c now
step-of x used s locks now fits locked order sound few_locks few c p new = by_action c.event.action p new
  where
    i : Inside
    i = record { reading = c.reading; began = c.began; asked = c.asked }

    by_action : (action : Action) → Allows s (call_at c.event.moment action i c.outcome) → IsSound (after s (call_at c.event.moment action i c.outcome)) → Step x used s locks (call_at c.event.moment action i c.outcome) now
    by_action (Open id key asks) p new = open-step x s locks now fits used c.event.moment i id key asks c.outcome p
    by_action (LookUp id) p new = look-step x s locks now fits locked sound used few_locks c.event.moment i id c.outcome p new
    by_action (Poll id) p new = poll-step x s locks now fits locked used c.event.moment i id c.outcome p
    by_action (Begin id head given) p new = begin-step x s locks now fits locked used few c.event.moment i id head given c.outcome p new
    by_action (Revalidate id head given) p new = revalidate-step x s locks now fits locked order used c.event.moment i id head given c.outcome p
    by_action (Piece id bytes last) p new = piece-step x s locks now fits used c.event.moment i id bytes last c.outcome p
    by_action (Finish id) p new = finish-step x s locks now fits sound used c.event.moment i id c.outcome p
    by_action (Read id) p new = read-step x s locks now fits used c.event.moment i id c.outcome p
    by_action (Drop id) p new = drop-step x s locks now fits sound used c.event.moment i id c.outcome p new
    by_action (Purge key) p new = purge-step x s locks now fits used c.event.moment i key c.outcome p
    by_action (Put key pieces given) p new = put-step x s locks now fits sound used few c.event.moment i key pieces given c.outcome p

-- how many numbers were used up before the first call
abbrev pub used_by : Opening → ℕ
used_by start = start.first + start.first_core

abbrev pub AreRightFrom : Opening → History → Type 0
AreRightFrom start h = AreRight start.settings (used_by start) start.loaded h

abbrev pub FitsFrom : Opening → History → Type 0
FitsFrom start h = NowFits start.settings (state_of start h) (lock_changes_of start h) (now_of start.settings start.loaded h)

step-lawful : (start : Opening) (c : Call) (h : History) → IsLawful start (c ∷ h) → AreRightFrom start h → FitsFrom start h
    → Step start.settings (used_by start + length h) (state_of start h) (lock_changes_of start h) c (now_of start.settings start.loaded h)
step-lawful start c h l right fits =
    let past : Stands start (state_of start h) h = Stands-lawful start h l.1 in
    step-of start.settings (used_by start + length h) (state_of start h) (lock_changes_of start h) (now_of start.settings start.loaded h) fits (IsLocked-lawful start h l.1)
    (keeps-all start.settings (used_by start) start.loaded h right).order (IsSound-stands start (state_of start h) h past) (few-by-calls start h)
    (let count = past.count in let many = writes-by-calls start h in omega (arith, count, many)) c l.0
    (IsSound-stands start (state_of start (c ∷ h)) (c ∷ h) (Stands-lawful start (c ∷ h) l))

both-lawful : (start : Opening) (h : History) → IsLawful start h → AreRightFrom start h × FitsFrom start h
both-lawful start [] l = (tt, start-fits start l)
both-lawful start (c ∷ h) l =
    let before = both-lawful start h l.1 in
    let one = step-lawful start c h l before.0 before.1 in
    ((one.right, before.0), one.fits)

-- the state after a lawful history is what the promise says
pub NowFits-lawful : (start : Opening) (h : History) → IsLawful start h → FitsFrom start h
NowFits-lawful start h l = (both-lawful start h l).1

-- each call is right
pub AreRight-lawful : (start : Opening) (h : History) → IsLawful start h → AreRightFrom start h
AreRight-lawful start h l = (both-lawful start h l).0
