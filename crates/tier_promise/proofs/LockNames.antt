-- No core of the lock is named more often than calls were made: a call names one core once at most.
use Rattle.std.proofs.Common.{◌≡◌, ℕ, ◌+◌, ◌≤◌, ◌==◌, refl, ap, sym, ◌∙◌, true, false, cond, [], ◌∷◌, ◌++◌, length, arith}
use Rattle.std.specs.Prelude.{Bool, List, Option, Some, None, Ok, Err, ◌-◌, ◌^◌, nat_le}
use Rattle.std.specs.FinMap.{get, get-empty, insert}
use Rattle.std.specs.Ordering.{nat_cmp}
use Rattle.cache_words.specs.Time.{MomentValue}
use Rattle.cache_lock.specs.Changes.{Change, gives, lends, stores, takes_out, publishes, spends}
use Rattle.cache_lock.specs.Answers.{to_wait_for, locked_by, lock_change, leave_changes, released_by, wait_outcome, poll_changes, IsSpent}
use Rattle.cache_lock.specs.Status.{is_aged}
use Rattle.cache_lock.specs.State.{LockState, given_core, named, unnamed, with_status, with_core, spent, after_all, status_of, is_number}
use Rattle.cache_lock.specs.State as lock_state
use Rattle.cache_lock.specs.declared.status.LockStatus.{LockStatus}
use Rattle.cache_lock.specs.declared.status.LockStatus.TheVariants as status
use Rattle.cache_lock.specs.declared.fills.WaitOutcome.{WaitOutcome}
use Rattle.cache_lock.specs.declared.fills.WaitOutcome.TheVariants as wait
use Rattle.cache_lock.specs.declared.lock_core.HeldCore.{HeldCore}
use Rattle.cache_lock.proofs.ChangeLaws.{get-put, get-out}
use Rattle.tier_model.specs.declared.event.Action.{Action}
use Rattle.tier_model.specs.declared.event.Action.TheVariants.{LookUp, Poll, Begin, Revalidate, Drop}
use Rattle.tier_model.specs.declared.event.Answer.TheVariants.{Begun, Waited, Revalidated}
use Rattle.tier_model.specs.declared.event.Answer.TheVariants as answer
use Rattle.tier_model.specs.Calls.{Call, History, Outcome, done_of}
use Rattle.tier_model.specs.Histories.{Opening}
use Rattle.tier_model.specs.Past.{state_of}
use Rattle.tier_model.specs.Shelf.{Look, is_there}
use Rattle.tier_model.specs.State.{LockHold, nothing, permit, waits, Request, State}
use Rattle.tier_model.specs.Answers.{key_for, look_for, asks_now}
use Rattle.tier_model.specs.After.{by_request, lock_changes_in, given_changes, back_changes, release_of, leave_of, poll_of}
use Rattle.tier_promise.proofs.LockNumbers.{locks-by-calls}

-- each core is named no more often than that
abbrev pub AreNamed : ℕ → LockState → Type 0
AreNamed b s = (n : ℕ) (c : HeldCore) → get s.cores n ≡ Some c → c.names ≤ b

-- how often a change names a core
abbrev names_more : Change → ℕ
names_more (gives n key stale t) = 1
names_more (lends n) = 1
names_more _ = 0

abbrev names_in : List Change → ℕ
names_in [] = 0
names_in (c ∷ cs) = names_more c + names_in cs

module _ (b : ℕ) (s : LockState) (all : AreNamed b s) where
  -- a core in the place of another
  put-named : (n m d : ℕ) (x c : HeldCore) → x.names ≤ b + d → get (insert s.cores n x) m ≡ Some c → c.names ≤ b + d
  put-named n m d x c l e = by_number (m == n) (sym (get-put s.cores n m x) ∙ e)
    where
      by_number : (v : Bool) → cond v (Some x) (get s.cores m) ≡ Some c → c.names ≤ b + d
      by_number true e = let same : x ≡ c = cc in let names : x.names ≡ c.names = ap (λ (y : HeldCore). y.names) same in omega (arith, names, l)
      by_number false e = let old = all m c e in omega (arith, old)

  later : (d m : ℕ) (c : HeldCore) → get s.cores m ≡ Some c → c.names ≤ b + d
  later d m c e = let old = all m c e in omega (arith, old)

  changed : (n d : ℕ) (f : HeldCore → HeldCore) → ((c : HeldCore) → (f c).names ≤ c.names + d) → (o : Option HeldCore) → get s.cores n ≡ o → AreNamed (b + d) (with_core n f o s)
  changed n d f no_more None is m c e = later d m c e
  changed n d f no_more (Some y) is m c e = put-named n m d (f y) c (let old = all n y is in let new = no_more y in omega (arith, old, new)) e

  let_go : (n : ℕ) (o : Option HeldCore) → get s.cores n ≡ o → AreNamed (b + 0) (spent n o s)
  let_go n None is m c e = later 0 m c e
  let_go n (Some y) is m c e = by_count (nat_le y.names 1) m c e
    where
      gone : (m : ℕ) (c : HeldCore) (v : Bool) → cond v None (get s.cores m) ≡ Some c → c.names ≤ b + 0
      gone m c true e = absurd cc
      gone m c false e = later 0 m c e

      by_count : (v : Bool) → AreNamed (b + 0) (cond v (lock_state.without_core n y.key s) (record s { cores = insert s.cores n (unnamed y) }))
      by_count true m c e = gone m c (m == n) (sym (get-out s.cores n m) ∙ e)
      by_count false m c e = put-named n m 0 (unnamed y) c (let old = all n y is in omega (arith, old)) e

  told_of : (n : ℕ) (tokens : List ℕ) (o : Option HeldCore) → AreNamed (b + 0) (lock_state.told n tokens o s)
  told_of n tokens None m c e = later 0 m c e
  told_of n tokens (Some y) m c e = later 0 m c e

  named-more : (x : Change) → AreNamed (b + names_more x) (lock_state.after x s)
  named-more (gives n key stale t) m c e = put-named n m 1 (given_core key stale t s.age) c (omega arith) e
  named-more (lends n) m c e = changed n 1 named (λ c. omega arith) (get s.cores n) refl m c e
  named-more (stores n how) m c e = changed n 0 (with_status how) (λ c. omega arith) (get s.cores n) refl m c e
  named-more (takes_out key) m c e = later 0 m c e
  named-more (publishes n tokens) m c e = told_of n tokens (get s.cores n) m c e
  named-more (spends n) m c e = let_go n (get s.cores n) refl m c e

all-named : (b : ℕ) (cs : List Change) (s : LockState) → AreNamed b s → AreNamed (b + names_in cs) (after_all cs s)
all-named b [] s all m c e = let old = all m c e in omega (arith, old)
all-named b (x ∷ cs) s all m c e =
    let new = named-more (b + names_in cs) (after_all cs s) (all-named b cs s all) x m c e in
    omega (arith, new)

-- ---- a call names one once at most

module _ (s : LockState) where
  locks-once : (key : List ℕ) (stale : Bool) (t : MomentValue) (o : Option ℕ) → names_in (lock_change key stale t s o ∷ []) ≤ 1
  locks-once key stale t None = omega arith
  locks-once key stale t (Some n) = omega arith

  backs-once : (key : List ℕ) (stale : Bool) (t : MomentValue) (o : Option ℕ) → names_in (leave_changes (locked_by s o) ++ lock_change key stale t s o ∷ []) ≤ 1
  backs-once key stale t None = omega arith
  backs-once key stale t (Some n) = omega arith

  releases-none : (v own : Bool) (key : List ℕ) (n : ℕ) (reason : LockStatus) → names_in (released_by v own key n reason) ≤ 1
  releases-none true own key n reason = omega arith
  releases-none false true key n reason = omega arith
  releases-none false false key n reason = omega arith

  given-once : (t : MomentValue) (q : Request) (l : Look) → names_in (given_changes t q l s) ≤ 1
  given-once t q l = by_test (asks_now t q l)
    where
      by_test : (v : Bool) → names_in (cond v (lock_change (key_for q) (is_there l) t s (to_wait_for (key_for q) s) ∷ []) []) ≤ 1
      by_test true = locks-once (key_for q) (is_there l) t (to_wait_for (key_for q) s)
      by_test false = omega arith

  back-once : (t : MomentValue) (q : Request) (l : Look) → names_in (back_changes t q l s) ≤ 1
  back-once t q l = backs-once (key_for q) (is_there l) t (to_wait_for (key_for q) s)

  release-none : (reason : LockStatus) (q : Request) (h : LockHold) → names_in (release_of reason q h s) ≤ 1
  release-none reason q nothing = omega arith
  release-none reason q (permit n) = releases-none (is_aged (status_of n s)) (is_number n (get s.current (key_for q))) (key_for q) n reason
  release-none reason q (waits n first) = omega arith

  leave-none : (h : LockHold) → names_in (leave_of h) ≤ 1
  leave-none nothing = omega arith
  leave-none (permit n) = omega arith
  leave-none (waits n first) = omega arith

  polls-none : (n : ℕ) (o : Option WaitOutcome) → names_in (spends n ∷ poll_changes n o) ≤ 1
  polls-none n (Some wait.AgeTimeout) = omega arith
  polls-none n (Some wait.Released) = omega arith
  polls-none n (Some (wait.Abandoned x)) = omega arith
  polls-none n None = omega arith

  poll-none : (t : MomentValue) (h : LockHold) (o : Option LockStatus) → names_in (poll_of t h o s) ≤ 1
  poll-none t (waits n first) (Some how) = polls-none n (wait_outcome n [] t s)
  poll-none t (waits n first) None = omega arith
  poll-none t nothing o = omega arith
  poll-none t (permit n) o = omega arith

request-once : (o : Option Request) (f : Request → List Change) → ((q : Request) → names_in (f q) ≤ 1) → names_in (by_request [] o f) ≤ 1
request-once None f h = omega arith
request-once (Some q) f h = h q

changes-once : (s : State) (t : MomentValue) (action : Action) (o : Outcome) (asked : Bool) → names_in (lock_changes_in s t action o asked) ≤ 1
changes-once s t (LookUp id) (Ok a) asked = request-once (get s.requests id) _ (λ q. given-once s.lock t q (look_for q s.shelf))
changes-once s t (LookUp id) (Err f) true = request-once (get s.requests id) _ (λ q. back-once s.lock t q (look_for q s.shelf))
changes-once s t (LookUp id) (Err f) false = omega arith
changes-once s t (Poll id) (Ok (Waited how)) asked = request-once (get s.requests id) _ (λ q. poll-none s.lock t q.held how)
changes-once s t (Begin id head given) (Ok Begun) asked = request-once (get s.requests id) _ (λ q. release-none s.lock _ q q.held)
changes-once s t (Begin id head given) (Ok (answer.Uncacheable reason)) asked = request-once (get s.requests id) _ (λ q. release-none s.lock _ q q.held)
changes-once s t (Revalidate id head given) (Ok (Revalidated evicted)) asked = request-once (get s.requests id) _ (λ q. release-none s.lock _ q q.held)
changes-once s t (Revalidate id head given) (Ok (answer.Uncacheable reason)) asked = request-once (get s.requests id) _ (λ q. release-none s.lock _ q q.held)
changes-once s t (Revalidate id head given) (Err f) asked = by_test (done_of f).stored
  where
    by_test : (v : Bool) → names_in (cond v (by_request [] (get s.requests id) (λ q. release_of status.Done q q.held s.lock)) []) ≤ 1
    by_test true = request-once (get s.requests id) _ (λ q. release-none s.lock _ q q.held)
    by_test false = omega arith
changes-once s t (Drop id) (Ok a) asked = request-once (get s.requests id) _ (λ q. leave-none s.lock q.held)
changes-once s t _ _ asked = omega arith

names-by-calls : (start : Opening) (h : History) → AreNamed (length h) (state_of start h).lock
names-by-calls start [] n c e = let none : None ≡ Some c = sym (get-empty nat_cmp n) ∙ e in absurd cc
names-by-calls start (x ∷ h) n c e =
    let s : State = state_of start h in
    let new = all-named (length h) (lock_changes_in s x.event.moment x.event.action x.outcome x.asked) s.lock (names-by-calls start h) n c e in
    let once = changes-once s x.event.moment x.event.action x.outcome x.asked in
    omega (arith, new, once)

-- ---- what a lock has left

-- so many numbers and names at most were used up
pub record IsFew (used : ℕ) (s : LockState) : Type 0 where
  pub next : s.next ≤ used
  pub names : AreNamed used s

pub few-by-calls : (start : Opening) (h : History) → IsFew ((start.first + start.first_core) + length h) (state_of start h).lock
few-by-calls start h = record {
  next = let l = locks-by-calls start h in omega (arith, l);
  names = λ n c e. let l = names-by-calls start h n c e in omega (arith, l);
}

pub spent-few : (used : ℕ) (s : LockState) → IsFew used s → (o : Option ℕ) → IsSpent s o → 2 ^ 64 - 1 ≤ used
spent-few used s few None is = let l = few.next in omega (arith, l, is)
spent-few used s few (Some n) is = let l = few.names n is.0 is.1 in let all = is.2 in omega (arith, l, all)
