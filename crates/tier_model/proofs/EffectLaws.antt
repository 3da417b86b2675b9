-- What a call does to who holds the cores of the lock, and what it says of it.
use Rattle.std.proofs.Common.{◌≡◌, ℕ, ◌==◌, refl, ap, sym, ◌∙◌, true, false, cond, [], ◌∷◌, ◌++◌, arith}
use Rattle.std.specs.Prelude.{◌⊎◌, Bool, Option, Some, None, Ok}
use Rattle.std.specs.List.{sum_by}
use Rattle.std.specs.FinMap.{FinMap, get, remove, values, same_map, nat_cmp-IsAntisymmetric}
use Rattle.std.specs.Ordering.{nat_cmp}
use Rattle.std.proofs.lemmas.Cmp.{nat_cmp_total}
use Rattle.cache_words.specs.Time.{MomentValue}
use Rattle.cache_changes.specs.Changes.{StoredKey}
use Rattle.cache_lock.specs.Changes.{Changes, gives, lends, stores, spends}
use Rattle.cache_lock.specs.Answers.{to_wait_for, locked_by, lock_change, release_changes, leave_changes, wait_outcome, poll_changes}
use Rattle.cache_lock.specs.State.{status_of}
use Rattle.cache_lock.specs.Status.{is_end}
use Rattle.cache_lock.specs.declared.status.LockStatus.{LockStatus}
use Rattle.cache_lock.specs.declared.status.LockStatus.TheVariants as status
use Rattle.tier_model.specs.declared.event.Action.{Action}
use Rattle.tier_model.specs.declared.event.Action.TheVariants.{Poll}
use Rattle.tier_model.specs.declared.event.Answer.TheVariants.{Waited}
use Rattle.tier_model.specs.declared.event.LockGiven.{LockGiven}
use Rattle.tier_model.specs.declared.event.LockGiven.TheVariants as lock
use Rattle.tier_model.specs.Calls.{History, Outcome}
use Rattle.tier_model.specs.Locks.{given_after, is_permit, is_end_of_permit, is_aged_poll}
use Rattle.tier_model.specs.State.{LockHold, nothing, permit, waits, Request, State}
use Rattle.tier_model.specs.Answers.{key_for, ended_by}
use Rattle.tier_model.specs.Past.{holds_by, holds, holders}
use Rattle.tier_model.proofs.CallLaws.{itself, at-remove}
use Rattle.tier_model.proofs.ReaderLaws.{share, sum-taken, sum-turned, at_key}
use Rattle.tier_model.proofs.GripLaws.{Grip, free, grips, count, Table, Moves, Same, same-moved}

-- ---- who holds what

abbrev pub grip_in : StoredKey → LockHold → Grip
grip_in k nothing = free
grip_in k (permit n) = grips true n k
grip_in k (waits n first) = grips false n k

abbrev pub grip_of : Option Request → Grip
grip_of None = free
grip_of (Some q) = grip_in (key_for q) q.held

abbrev pub grip_at : State → ℕ → Grip
grip_at s id = grip_of (get s.requests id)

abbrev pub hold_at : State → ℕ → ℕ
hold_at s n = holders n s.requests

held_count : (n : ℕ) (k : StoredKey) (held : LockHold) → holds_by n held ≡ count n (grip_in k held)
held_count n k nothing = refl
held_count n k (permit m) = refl
held_count n k (waits m first) = refl

share_is : (n : ℕ) (o : Option Request) → share (holds n) o ≡ count n (grip_of o)
share_is n None = refl
share_is n (Some q) = held_count n (key_for q) q.held

-- what one that holds a core adds
share_one : (n : ℕ) (p : Bool) (k : StoredKey) (o : Option Request) → grip_of o ≡ grips p n k → share (holds n) o ≡ 1
share_one n p k o e = share_is n o ∙ ap (count n) e ∙ ap (λ (v : Bool). cond v 1 0) (itself n)

pub table-of : (s : State) → Table (grip_at s) (hold_at s)
table-of s = record {
  one = λ i n p k e.
      let a = sum-taken (holds n) s.requests i (get s.requests i) refl in
      let b = share_one n p k (get s.requests i) e in
      omega (arith, a, b);
  two = λ i j n p q a b apart e f.
      let there : get (remove s.requests i) j ≡ get s.requests j = at-remove s.requests i j ∙ ap (λ (v : Bool). cond v None (get s.requests j)) apart in
      let x = sum-taken (holds n) s.requests i (get s.requests i) refl in
      let y = sum-taken (holds n) (remove s.requests i) j (get s.requests j) there in
      let u = share_one n p a (get s.requests i) e in
      let v = share_one n q b (get s.requests j) f in
      omega (arith, x, y, u, v);
}

-- where the request of a number turns, and no other does
pub moves-of : (s new : State) (r : ℕ) (f : Option Request → Option Request) → ((id : ℕ) → get new.requests id ≡ cond (r == id) (f (get s.requests id)) (get s.requests id)) → (a b : Grip)
    → grip_of (get s.requests r) ≡ a → grip_of (f (get s.requests r)) ≡ b → Moves (grip_at s) (grip_at new) (hold_at s) (hold_at new) r a b
moves-of s new r f turned a b was now = record {
  was = was;
  now = ap grip_of (turned r ∙ ap (λ (v : Bool). cond v (f (get s.requests r)) (get s.requests r)) (itself r)) ∙ now;
  others = λ i e. ap grip_of (turned i ∙ ap (λ (v : Bool). cond v (f (get s.requests i)) (get s.requests i)) e);
  sum = λ n.
      let x = sum-turned (holds n) s.requests new.requests r (f (get s.requests r)) (λ q. turned q ∙ sym (at_key s.requests r q f)) in
      let y = share_is n (get s.requests r) ∙ ap (count n) was in
      let z = share_is n (f (get s.requests r)) ∙ ap (count n) now in
      omega (arith, x, y, z);
}

pub same-of : (s new : State) (r : ℕ) (f : Option Request → Option Request) → ((id : ℕ) → get new.requests id ≡ cond (r == id) (f (get s.requests id)) (get s.requests id))
    → grip_of (f (get s.requests r)) ≡ grip_of (get s.requests r) → Same (grip_at s) (grip_at new) (hold_at s) (hold_at new)
same-of s new r f turned same = same-moved (grip_at s) (grip_at new) (hold_at s) (hold_at new) r (grip_of (get s.requests r)) (moves-of s new r f turned (grip_of (get s.requests r)) (grip_of (get s.requests r)) refl same)

-- where none does
pub same-all : (s new : State) → ((id : ℕ) → get new.requests id ≡ get s.requests id) → Same (grip_at s) (grip_at new) (hold_at s) (hold_at new)
same-all s new h = record {
  grip = λ i. ap grip_of (h i);
  sum = λ n. ap (λ (m : FinMap nat_cmp Request). sum_by (holds n) (values m)) (same_map nat_cmp_total nat_cmp-IsAntisymmetric new.requests s.requests h);
}

-- ---- what a call says of locks

-- it ends no permit but of one that has none, gives none, gives no wait to one that waits then, and answers nobody that a wait is past its age
pub record SaysLittle (s new : State) (action : Action) (o : Outcome) : Type 0 where
  pub ends : (id : ℕ) → is_end_of_permit id action o ≡ true → grip_at s id ≡ free
  pub gives : (id : ℕ) → is_permit (given_after id action o lock.None) ≡ false
  pub given : (id : ℕ) (old : LockGiven) → (grip_at new id ≡ free) ⊎ (given_after id action o old ≡ old)
  pub aged : (k : StoredKey) (since before : History) → is_aged_poll k action o since before ≡ false

-- it gives this to that request
pub record SaysGiven (r : ℕ) (given : LockGiven) (action : Action) (o : Outcome) : Type 0 where
  pub ends : (id : ℕ) → is_end_of_permit id action o ≡ false
  pub gives : (id : ℕ) (old : LockGiven) → given_after id action o old ≡ cond (r == id) given old
  pub aged : (k : StoredKey) (since before : History) → is_aged_poll k action o since before ≡ false

-- it ends what that request holds
pub record SaysEnded (r : ℕ) (action : Action) (o : Outcome) : Type 0 where
  pub ends : (id : ℕ) → is_end_of_permit id action o ≡ (r == id)
  pub given : (id : ℕ) (old : LockGiven) → given_after id action o old ≡ old
  pub aged : (k : StoredKey) (since before : History) → is_aged_poll k action o since before ≡ false

-- ---- what a call does

-- a permit that ends waits no more, and no permit ends as a wait does
pub end-not-waiting : (st : LockStatus) → is_end st ≡ true → st ≡ status.Waiting → ⊥
end-not-waiting st e is = let clash : false ≡ true = sym (ap is_end is) ∙ e in absurd cc

pub end-not-timeout : (st : LockStatus) → is_end st ≡ true → st ≡ status.WaitTimeout → ⊥
end-not-timeout st e is = let clash : false ≡ true = sym (ap is_end is) ∙ e in absurd cc

pub data Effect (s new : State) (t : MomentValue) (action : Action) (o : Outcome) (changes : Changes) : Type 0 where
  -- nothing is given, and nothing ends
  quiet : Same (grip_at s) (grip_at new) (hold_at s) (hold_at new) → changes ≡ [] → SaysLittle s new action o → Effect s new t action o changes
  -- a permit is given
  given : (r : ℕ) (q : Request) (stale : Bool) → get s.requests r ≡ Some q → Moves (grip_at s) (grip_at new) (hold_at s) (hold_at new) r free (grips true s.lock.next (key_for q))
      → to_wait_for (key_for q) s.lock ≡ None → changes ≡ gives s.lock.next (key_for q) stale t ∷ [] → SaysGiven r lock.Write action o → Effect s new t action o changes
  -- a wait is given
  lent : (r n : ℕ) (key : StoredKey) → Moves (grip_at s) (grip_at new) (hold_at s) (hold_at new) r free (grips false n key) → to_wait_for key s.lock ≡ Some n
      → changes ≡ lends n ∷ [] → SaysGiven r lock.Read action o → Effect s new t action o changes
  -- one of them is given and handed back at once
  back : (key : StoredKey) (stale : Bool) → Same (grip_at s) (grip_at new) (hold_at s) (hold_at new)
      → changes ≡ leave_changes (locked_by s.lock (to_wait_for key s.lock)) ++ lock_change key stale t s.lock (to_wait_for key s.lock) ∷ [] → SaysLittle s new action o
      → Effect s new t action o changes
  -- a wait is reported how it ended
  polled : (r n : ℕ) (key : StoredKey) (over : Bool) (outcome : LockStatus) → Moves (grip_at s) (grip_at new) (hold_at s) (hold_at new) r (grips false n key) free
      → changes ≡ spends n ∷ poll_changes n (wait_outcome n [] t s.lock) → action ≡ Poll r → o ≡ Ok (Waited (Some outcome))
      → ended_by (wait_outcome n [] t s.lock) (status_of n s.lock) over ≡ Some outcome
      → Effect s new t action o changes
  -- a wait goes with its request
  left : (r n : ℕ) (key : StoredKey) → Moves (grip_at s) (grip_at new) (hold_at s) (hold_at new) r (grips false n key) free → changes ≡ spends n ∷ [] → SaysEnded r action o
      → Effect s new t action o changes
  -- a permit goes with its request
  dropped : (r n : ℕ) (key : StoredKey) → Moves (grip_at s) (grip_at new) (hold_at s) (hold_at new) r (grips true n key) free → changes ≡ spends n ∷ stores n status.Dangling ∷ []
      → SaysEnded r action o → Effect s new t action o changes
  -- a permit is released
  released : (r n : ℕ) (key : StoredKey) (reason : LockStatus) → is_end reason ≡ true → Moves (grip_at s) (grip_at new) (hold_at s) (hold_at new) r (grips true n key) free
      → changes ≡ release_changes key n reason s.lock → SaysEnded r action o → Effect s new t action o changes
