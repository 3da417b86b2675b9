-- The state that orderly changes leave is what they say, and a permit is given where none waits.
use Rattle.std.proofs.Common.{◌≡◌, ℕ, Bool, true, false, cond, List, [], ◌∷◌, refl, ap, ◌∙◌, inl, inr}
use Rattle.std.specs.Prelude.{◌⊎◌, ◌↔◌, Option, Some, None}
use Rattle.std.specs.Ordering.{nat_cmp}
use Rattle.std.specs.Cmp.Lexicographic.{slice_cmp}
use Rattle.std.specs.FinMap.{get, get-empty}
use Rattle.cache_words.specs.Time.{DurationValue}
use Rattle.cache_lock.specs.declared.lock_core.HeldCore.{HeldCore}
use Rattle.cache_lock.specs.declared.status.LockStatus.{LockStatus}
use Rattle.cache_lock.specs.declared.status.LockStatus.TheVariants.{Waiting, Done, TransientError, GiveUp, Dangling, WaitTimeout, AgeTimeout}
use Rattle.cache_lock.specs.Status.{is_waiting, is_replaced}
use Rattle.cache_lock.specs.Changes.{Change, Changes, gives, lends, stores, takes_out, publishes, spends}
use Rattle.cache_lock.specs.State.{LockState, after, status_of, status_in, told, given_core}
use Rattle.cache_lock.specs.Answers.{waited_for, to_wait_for}
use Rattle.cache_lock.specs.Waits.{last_status, Waits, MayCome, IsOrderly, IsStateOf, state_of}
use Rattle.cache_lock.proofs.ChangeLaws.{begun, lent, stored, taken, handed_back}

-- ---- all changes

published : (n : ℕ) (tokens : List ℕ) (s : LockState) (before : Changes) → IsStateOf s before → (o : Option HeldCore) → IsStateOf (told n tokens o s) (publishes n tokens ∷ before)
published n tokens s before r None = record { names = r.names; status = r.status; current = r.current; waits = r.waits; replaced = r.replaced }
published n tokens s before r (Some b) = record { names = r.names; status = r.status; current = r.current; waits = r.waits; replaced = r.replaced }

step : (c : Change) (s : LockState) (before : Changes) → IsStateOf s before → MayCome c before → IsStateOf (after c s) (c ∷ before)
step (gives n k stale moment) s before r may = begun n k (given_core k stale moment s.age) s stale moment before r may refl refl
step (lends n) s before r may = lent n s before r
step (stores n status) s before r may = stored n status s before r may
step (takes_out k) s before r may = taken k s before r
step (publishes n tokens) s before r may = published n tokens s before r (get s.cores n)
step (spends n) s before r may = handed_back n s before r may (get s.cores n) refl

pub state_of-is : (age : DurationValue) (changes : Changes) → IsOrderly changes → IsStateOf (state_of age changes) changes
state_of-is age [] o = record {
  names = λ n c e. absurd (cc (get-empty {X = HeldCore} nat_cmp n));
  status = λ n c e. absurd (cc (get-empty {X = HeldCore} nat_cmp n));
  current = λ k n e. absurd (cc (get-empty {X = ℕ} (slice_cmp nat_cmp) k));
  waits = λ k n e w. absurd cc;
  replaced = λ k n e. absurd cc;
}
state_of-is age (c ∷ before) o = step c (state_of age before) before (state_of-is age before o.1) o.0

-- ---- who waits

waiting_not_replaced : (status : LockStatus) → status ≡ Waiting → is_replaced status ≡ false
waiting_not_replaced status e = ap is_replaced e

only_waiting : (status : LockStatus) → is_waiting status ≡ true → status ≡ Waiting
only_waiting Waiting e = refl
only_waiting Done e = absurd cc
only_waiting TransientError e = absurd cc
only_waiting GiveUp e = absurd cc
only_waiting Dangling e = absurd cc
only_waiting WaitTimeout e = absurd cc
only_waiting AgeTimeout e = absurd cc

module _ (k : List ℕ) (s : LockState) (changes : Changes) (r : IsStateOf s changes) where
  when_waits : Waits k changes → to_wait_for k s ≡ None → ⊥
  when_waits w e =
      let now = r.waits k w.0 w.1 w.2 in
      let status : status_of w.0 s ≡ Waiting = ap status_in now.1.1 ∙ r.status w.0 now.1.0 now.1.1 ∙ w.2 in
      let read : to_wait_for k s ≡ Some w.0 = ap (waited_for s) now.0 ∙ ap (λ (t : Bool). cond t None (Some w.0)) (waiting_not_replaced (status_of w.0 s) status) in
      absurd cc

  none_waits : (Waits k changes → ⊥) → (o : Option ℕ) → get s.current k ≡ o → waited_for s o ≡ None
  none_waits none None e = refl
  none_waits none (Some n) e = by (get s.cores n) refl
    where
      settled : (c : HeldCore) → get s.cores n ≡ Some c → (is_waiting (last_status n changes) ≡ true) ⊎ (is_replaced (last_status n changes) ≡ true) → cond (is_replaced c.core.status) None (Some n) ≡ None
      settled c is (inl w) = absurd (none (n, r.current k n e, only_waiting (last_status n changes) w))
      settled c is (inr t) = ap (λ (u : Bool). cond u None (Some n)) (ap is_replaced (r.status n c is) ∙ t)

      by : (o : Option HeldCore) → get s.cores n ≡ o → cond (is_replaced (status_in o)) None (Some n) ≡ None
      by None is = refl
      by (Some c) is = settled c is (r.replaced k n (r.current k n e))

pub given_where_none_waits : (age : DurationValue) (changes : Changes) → IsOrderly changes → (k : List ℕ) → (to_wait_for k (state_of age changes) ≡ None) ↔ (Waits k changes → ⊥)
given_where_none_waits age changes o k = (
  λ e w. when_waits k (state_of age changes) changes (state_of-is age changes o) w e,
  λ none. none_waits k (state_of age changes) changes (state_of-is age changes o) none (get (state_of age changes).current k) refl,
)
