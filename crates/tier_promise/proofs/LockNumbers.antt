-- The lock's numbers are used up by calls alone: a call gives one at most.
use Rattle.std.proofs.Common.{◌≡◌, ℕ, ◌+◌, ◌≤◌, refl, ap, sym, ◌∙◌, true, false, subst, cond, [], ◌∷◌, ◌++◌, length, arith}
use Rattle.std.specs.Prelude.{Bool, List, Option, Some, None, Ok, Err}
use Rattle.std.specs.List.{AllByRecursion}
use Rattle.std.specs.FinMap.{get}
use Rattle.cache_words.specs.Time.{MomentValue}
use Rattle.cache_lock.specs.Changes.{Change, gives, lends, stores, takes_out, publishes, spends}
use Rattle.cache_lock.specs.Answers.{to_wait_for, locked_by, lock_change, leave_changes, released_by, release_changes, wait_outcome, poll_changes}
use Rattle.cache_lock.specs.Status.{is_aged}
use Rattle.cache_lock.specs.State.{LockState, named, with_status, after_all, status_of, is_number}
use Rattle.cache_lock.specs.State as lock_state
use Rattle.cache_lock.specs.declared.status.LockStatus.{LockStatus}
use Rattle.cache_lock.specs.declared.status.LockStatus.TheVariants as status
use Rattle.cache_lock.specs.declared.fills.WaitOutcome.{WaitOutcome}
use Rattle.cache_lock.specs.declared.fills.WaitOutcome.TheVariants as wait
use Rattle.cache_lock.specs.declared.lock_core.HeldCore.{HeldCore}
use Rattle.tier_model.specs.declared.event.Action.{Action}
use Rattle.tier_model.specs.declared.event.Action.TheVariants.{Open, LookUp, Poll, Begin, Revalidate, Piece, Finish, Read, Drop, Purge, Put}
use Rattle.tier_model.specs.declared.event.Answer.{Answer}
use Rattle.tier_model.specs.Calls.{Call, History}
use Rattle.tier_model.specs.Histories.{Opening}
use Rattle.tier_model.specs.Shelf.{Look, is_there}
use Rattle.tier_model.specs.State.{LockHold, nothing, permit, waits, Request, State}
use Rattle.tier_model.specs.Answers.{key_for, look_for, asks_now}
use Rattle.tier_model.specs.declared.event.Answer.TheVariants.{Begun, Waited, Revalidated}
use Rattle.tier_model.specs.declared.event.Answer.TheVariants as answer
use Rattle.tier_model.specs.Calls.{Outcome, done_of}
use Rattle.tier_model.specs.Past.{state_of}
use Rattle.tier_model.specs.After.{by_request, lock_changes_in, given_changes, back_changes, release_of, leave_of, poll_of}
use Rattle.tier_model.proofs.GripLaws.{next-kept, next-spent}

-- the change gives no number from the bound on
abbrev pub GivesBelow : ℕ → Change → Type 0
GivesBelow b (gives n key stale moment) = n + 1 ≤ b
GivesBelow b _ = Unit {0}

told-next : (n : ℕ) (tokens : List ℕ) (o : Option HeldCore) (s : LockState) → (lock_state.told n tokens o s).next ≡ s.next
told-next n tokens None s = refl
told-next n tokens (Some c) s = refl

next-below : (b : ℕ) (c : Change) (s : LockState) → GivesBelow b c → s.next ≤ b → (lock_state.after c s).next ≤ b
next-below b (gives n key stale moment) s h l = h
next-below b (lends n) s h l = let same = next-kept n named (get s.cores n) s in omega (arith, same, l)
next-below b (stores n status) s h l = let same = next-kept n (with_status status) (get s.cores n) s in omega (arith, same, l)
next-below b (takes_out key) s h l = l
next-below b (publishes n tokens) s h l = let same = told-next n tokens (get s.cores n) s in omega (arith, same, l)
next-below b (spends n) s h l = let same = next-spent n (get s.cores n) s in omega (arith, same, l)

pub all-below : (b : ℕ) (cs : List Change) (s : LockState) → AllByRecursion (GivesBelow b) cs → s.next ≤ b → (after_all cs s).next ≤ b
all-below b [] s h l = l
all-below b (c ∷ cs) s h l = next-below b c (after_all cs s) h.0 (all-below b cs s h.1 l)

module _ (s : LockState) where
  abbrev b : ℕ
  b = s.next + 1

  locks-below : (key : List ℕ) (stale : Bool) (t : MomentValue) (o : Option ℕ) → AllByRecursion (GivesBelow b) (lock_change key stale t s o ∷ [])
  locks-below key stale t None = (omega arith, tt)
  locks-below key stale t (Some n) = (tt, tt)

  backs-below : (key : List ℕ) (stale : Bool) (t : MomentValue) (o : Option ℕ) → AllByRecursion (GivesBelow b) (leave_changes (locked_by s o) ++ lock_change key stale t s o ∷ [])
  backs-below key stale t None = (tt, (tt, (omega arith, tt)))
  backs-below key stale t (Some n) = (tt, (tt, tt))

  releases-below : (v own : Bool) (key : List ℕ) (n : ℕ) (reason : LockStatus) → AllByRecursion (GivesBelow b) (released_by v own key n reason)
  releases-below true own key n reason = (tt, tt)
  releases-below false true key n reason = (tt, (tt, (tt, tt)))
  releases-below false false key n reason = (tt, (tt, tt))

  -- what a look-up is given, and what a refused one hands back
  pub given-below : (t : MomentValue) (q : Request) (l : Look) → AllByRecursion (GivesBelow b) (given_changes t q l s)
  given-below t q l = by_test (asks_now t q l)
    where
      by_test : (v : Bool) → AllByRecursion (GivesBelow b) (cond v (lock_change (key_for q) (is_there l) t s (to_wait_for (key_for q) s) ∷ []) [])
      by_test true = locks-below (key_for q) (is_there l) t (to_wait_for (key_for q) s)
      by_test false = tt

  pub back-below : (t : MomentValue) (q : Request) (l : Look) → AllByRecursion (GivesBelow b) (back_changes t q l s)
  back-below t q l = backs-below (key_for q) (is_there l) t (to_wait_for (key_for q) s)

  pub release-below : (reason : LockStatus) (q : Request) (h : LockHold) → AllByRecursion (GivesBelow b) (release_of reason q h s)
  release-below reason q nothing = tt
  release-below reason q (permit n) = releases-below (is_aged (status_of n s)) (is_number n (get s.current (key_for q))) (key_for q) n reason
  release-below reason q (waits n first) = tt

  pub leave-below : (h : LockHold) → AllByRecursion (GivesBelow b) (leave_of h)
  leave-below nothing = tt
  leave-below (permit n) = (tt, (tt, tt))
  leave-below (waits n first) = (tt, tt)

  polls-below : (n : ℕ) (o : Option WaitOutcome) → AllByRecursion (GivesBelow b) (poll_changes n o)
  polls-below n (Some wait.AgeTimeout) = (tt, tt)
  polls-below n (Some wait.Released) = tt
  polls-below n (Some (wait.Abandoned x)) = tt
  polls-below n None = tt

  pub poll-below : (t : MomentValue) (h : LockHold) (o : Option LockStatus) → AllByRecursion (GivesBelow b) (poll_of t h o s)
  poll-below t (waits n first) (Some how) = (tt, polls-below n (wait_outcome n [] t s))
  poll-below t (waits n first) None = tt
  poll-below t nothing o = tt
  poll-below t (permit n) o = tt

request-below : (n : ℕ) (o : Option Request) (f : Request → List Change) → ((q : Request) → AllByRecursion (GivesBelow n) (f q)) → AllByRecursion (GivesBelow n) (by_request [] o f)
request-below n None f h = tt
request-below n (Some q) f h = h q

-- a call gives one number at most
changes-below : (s : State) (t : MomentValue) (action : Action) (o : Outcome) (asked : Bool) → AllByRecursion (GivesBelow (s.lock.next + 1)) (lock_changes_in s t action o asked)
changes-below s t (LookUp id) (Ok a) asked = request-below (s.lock.next + 1) (get s.requests id) _ (λ q. given-below s.lock t q (look_for q s.shelf))
changes-below s t (LookUp id) (Err f) true = request-below (s.lock.next + 1) (get s.requests id) _ (λ q. back-below s.lock t q (look_for q s.shelf))
changes-below s t (LookUp id) (Err f) false = tt
changes-below s t (Poll id) (Ok (Waited how)) asked = request-below (s.lock.next + 1) (get s.requests id) _ (λ q. poll-below s.lock t q.held how)
changes-below s t (Begin id head given) (Ok Begun) asked = request-below (s.lock.next + 1) (get s.requests id) _ (λ q. release-below s.lock _ q q.held)
changes-below s t (Begin id head given) (Ok (answer.Uncacheable reason)) asked = request-below (s.lock.next + 1) (get s.requests id) _ (λ q. release-below s.lock _ q q.held)
changes-below s t (Revalidate id head given) (Ok (Revalidated evicted)) asked = request-below (s.lock.next + 1) (get s.requests id) _ (λ q. release-below s.lock _ q q.held)
changes-below s t (Revalidate id head given) (Ok (answer.Uncacheable reason)) asked = request-below (s.lock.next + 1) (get s.requests id) _ (λ q. release-below s.lock _ q q.held)
changes-below s t (Revalidate id head given) (Err f) asked = by_test (done_of f).stored
  where
    by_test : (v : Bool) → AllByRecursion (GivesBelow (s.lock.next + 1)) (cond v (by_request [] (get s.requests id) (λ q. release_of status.Done q q.held s.lock)) [])
    by_test true = request-below (s.lock.next + 1) (get s.requests id) _ (λ q. release-below s.lock _ q q.held)
    by_test false = tt
changes-below s t (Drop id) (Ok a) asked = request-below (s.lock.next + 1) (get s.requests id) _ (λ q. leave-below s.lock q.held)
changes-below s t _ _ asked = tt

-- no more numbers of the lock are used up than calls were made, beside those before
pub locks-by-calls : (start : Opening) (h : History) → (state_of start h).lock.next ≤ start.first_core + length h
locks-by-calls start [] = omega arith
locks-by-calls start (c ∷ h) =
    let s : State = state_of start h in
    let one = all-below (s.lock.next + 1) (lock_changes_in s c.event.moment c.event.action c.outcome c.asked) s.lock (changes-below s c.event.moment c.event.action c.outcome c.asked) (omega arith) in
    let ih = locks-by-calls start h in
    omega (arith, one, ih)
