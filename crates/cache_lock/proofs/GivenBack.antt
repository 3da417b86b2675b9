-- A lock that is given and left leaves the state as before to all who ask.
use Rattle.std.proofs.Common.{◌≡◌, ℕ, ◌+◌, ◌-◌, ◌<◌, ◌≤◌, Bool, true, false, cond, List, [], ◌∷◌, refl, ap, sym, ◌∙◌, subst, arith}
use Rattle.std.specs.Prelude.{Option, Some, None, Result, Ok, Err, IfOk, OnOk, IsSome, ◌^◌, nat_le, ◌==◌, unwrap_or}
use Rattle.std.specs.Ordering.{nat_cmp}
use Rattle.std.specs.Cmp.Lexicographic.{slice_cmp, nat_list_eq_equiv, nat_list_cmp_total, same_text}
use Rattle.std.proofs.lemmas.Cmp.{nat_cmp_total}
use borrow.Author.Tests.{leb-true, eq-eqb, eqb-true, not-false}
use Rattle.std.specs.FinMap.{FinMap, get, insert, remove, same_map, nat_cmp-IsAntisymmetric}
use Rattle.cache_words.specs.Time.{MomentValue}
use Rattle.cache_lock.specs.declared.lock_core.HeldCore.{HeldCore}
use Rattle.cache_lock.specs.declared.fault.LockFault.{LockFault}
use Rattle.cache_lock.specs.declared.tokens.Locked.{Locked}
use Rattle.cache_lock.specs.declared.fills.UnusableFill.{UnusableFill}
use Rattle.cache_lock.specs.declared.status.LockStatus.TheVariants.{Waiting, Dangling}
use Rattle.cache_lock.specs.Status.{is_replaced}
use Rattle.cache_lock.specs.Changes.{Changes, gives, stores, spends}
use Rattle.cache_lock.specs.State.{LockState, IsSound, after, after_all, status_of, status_in, tokens_of, named, unnamed, with_status, with_core, without_core, spent, is_number, given_core}
use Rattle.cache_lock.specs.Answers.{waited_for, to_wait_for, locked_by, lock_change, leave_changes, given_back, outcome, IsAsBefore, IsSpent, is_lendable}
use Rattle.cache_lock.specs.Waits.{same_key, IsStateOf}
use Rattle.cache_lock.proofs.Tables.{keys_same}
use Rattle.cache_lock.proofs.BelowLaws.{without_new}
use Rattle.cache_lock.proofs.ChangeLaws.{get-put, get-out, key-put, key-out, number}

get-same : (m : FinMap nat_cmp HeldCore) (k : ℕ) (c : HeldCore) → get (insert m k c) k ≡ Some c
get-same m k c = get-put m k k c ∙ ap (λ (t : Bool). cond t (Some c) (get m k)) (eq-eqb k k refl)

key-same : (m : FinMap (slice_cmp nat_cmp) ℕ) (k : List ℕ) (n : ℕ) → get (insert m k n) k ≡ Some n
key-same m k n = key-put m k k n ∙ ap (λ (t : Bool). cond t (Some n) (get m k)) (nat_list_eq_equiv.refl k)

-- ---- a read lock

-- a core that is changed twice in its place, and is then as before
put_back : (m : FinMap nat_cmp HeldCore) (n : ℕ) (b c : HeldCore) → get m n ≡ Some c → insert (insert m n b) n c ≡ m
put_back m n b c is = same_map nat_cmp_total nat_cmp-IsAntisymmetric _ _ each
  where
    each : (q : ℕ) → get (insert (insert m n b) n c) q ≡ get m q
    each q = get-put (insert m n b) n q c ∙ ap (λ (o : Option HeldCore). cond (q == n) (Some c) o) (get-put m n q b) ∙ by (q == n) refl
      where
        by : (t : Bool) → (q == n) ≡ t → cond t (Some c) (cond t (Some b) (get m q)) ≡ get m q
        by true t = sym (ap (λ (i : ℕ). get m i) (number q n t) ∙ is)
        by false t = refl

same_names : (c : HeldCore) → unnamed (named c) ≡ c
same_names c =
    let same : c.names + 1 - 1 ≡ c.names = omega arith in
    ap (λ (k : ℕ). record c { names = k }) same

still_named : (k : ℕ) → 0 < k → nat_le (k + 1) 1 ≡ false
still_named k some = by (nat_le (k + 1) 1) refl
  where
    by : (t : Bool) → nat_le (k + 1) 1 ≡ t → t ≡ false
    by false e = refl
    by true e =
        let few : k + 1 ≤ 1 = leb-true (k + 1) 1 e in
        absurd (omega arith)

-- a read lock that is given and left changes nothing
pub read_given_back : (n : ℕ) (s : LockState) → IsSound s → (o : Option HeldCore) → get s.cores n ≡ o → spent n (get (with_core n named o s).cores n) (with_core n named o s) ≡ s
read_given_back n s sound None is = ap (λ (o : Option HeldCore). spent n o s) is
read_given_back n s sound (Some c) is =
    let t : LockState = record s { cores = insert s.cores n (named c) } in
    let there : spent n (get t.cores n) t ≡ spent n (Some (named c)) t = ap (λ (o : Option HeldCore). spent n o t) (get-same s.cores n (named c)) in
    let more : spent n (Some (named c)) t ≡ record s { cores = insert (insert s.cores n (named c)) n (unnamed (named c)) } = ap (λ (b : Bool). cond b (without_core n c.key t) (record t { cores = insert t.cores n (unnamed (named c)) })) (still_named c.names (sound n c is).1) in
    let back : insert (insert s.cores n (named c)) n (unnamed (named c)) ≡ s.cores = ap (λ (x : HeldCore). insert (insert s.cores n (named c)) n x) (same_names c) ∙ put_back s.cores n (named c) c is in
    there ∙ more ∙ ap (λ (m : FinMap nat_cmp HeldCore). record s { cores = m }) back

-- ---- a permit

-- without the key's core, whose number is used up
abbrev pub forgotten : List ℕ → LockState → LockState
forgotten k s = record s { current = remove s.current k; published = remove s.published s.next; next = s.next + 1 }

taken_back : (m : FinMap (slice_cmp nat_cmp) ℕ) (k : List ℕ) (n : ℕ) → remove (insert m k n) k ≡ remove m k
taken_back m k n = same_map nat_list_cmp_total keys_same _ _ each
  where
    each : (q : List ℕ) → get (remove (insert m k n) k) q ≡ get (remove m k) q
    each q = key-out (insert m k n) k q ∙ ap (λ (o : Option ℕ). cond (same_key q k) None o) (key-put m k q n) ∙ by (same_key q k) ∙ sym (key-out m k q)
      where
        by : (t : Bool) → cond t None (cond t (Some n) (get m q)) ≡ cond t None (get m q)
        by true = refl
        by false = refl

is_it : (m : FinMap (slice_cmp nat_cmp) ℕ) (k : List ℕ) (n : ℕ) → cond (is_number n (get (insert m k n) k)) (remove (insert m k n) k) (insert m k n) ≡ remove m k
is_it m k n = ap (λ (o : Option ℕ). cond (is_number n o) (remove (insert m k n) k) (insert m k n)) (key-same m k n) ∙ ap (λ (t : Bool). cond t (remove (insert m k n) k) (insert m k n)) (eq-eqb n n refl) ∙ taken_back m k n

put_twice : (m : FinMap nat_cmp HeldCore) (n : ℕ) (b c : HeldCore) → insert (insert m n b) n c ≡ insert m n c
put_twice m n b c = same_map nat_cmp_total nat_cmp-IsAntisymmetric _ _ each
  where
    each : (q : ℕ) → get (insert (insert m n b) n c) q ≡ get (insert m n c) q
    each q = get-put (insert m n b) n q c ∙ ap (λ (o : Option HeldCore). cond (q == n) (Some c) o) (get-put m n q b) ∙ by (q == n) ∙ sym (get-put m n q c)
      where
        by : (t : Bool) → cond t (Some c) (cond t (Some b) (get m q)) ≡ cond t (Some c) (get m q)
        by true = refl
        by false = refl

-- a permit that is given and dropped leaves the state without the key's core
pub permit_given_back : (k : List ℕ) (stale : Bool) (moment : MomentValue) (s : LockState) → IsSound s
    → after_all (spends s.next ∷ stores s.next Dangling ∷ []) (after (gives s.next k stale moment) s) ≡ forgotten k s
permit_given_back k stale moment s sound =
    let n : ℕ = s.next in
    let c : HeldCore = given_core k stale moment s.age in
    let d : HeldCore = with_status Dangling c in
    let s1 : LockState = after (gives n k stale moment) s in
    let s2 : LockState = record s1 { cores = insert s1.cores n d } in
    let first : with_core n (with_status Dangling) (get s1.cores n) s1 ≡ s2 = ap (λ (o : Option HeldCore). with_core n (with_status Dangling) o s1) (get-same s.cores n c) in
    let second : spent n (get s2.cores n) s2 ≡ without_core n k s2 = ap (λ (o : Option HeldCore). spent n o s2) (get-same s1.cores n d) in
    let cores : remove (insert (insert s.cores n c) n d) n ≡ s.cores = ap (λ (m : FinMap nat_cmp HeldCore). remove m n) (put_twice s.cores n c d) ∙ without_new n s.cores d sound in
    let current : cond (is_number n (get (insert s.current k n) k)) (remove (insert s.current k n) k) (insert s.current k n) ≡ remove s.current k = is_it s.current k n in
    let third : without_core n k s2 ≡ forgotten k s = λ i. record { cores = cores i; current = current i; published = remove s.published n; next = n + 1; age = s.age } in
    ap (λ (t : LockState). spent n (get t.cores n) t) first ∙ second ∙ third

-- ---- as before

module _ (k : List ℕ) (s : LockState) (none : to_wait_for k s ≡ None) where
  same_wait : (o : Option ℕ) → waited_for (forgotten k s) o ≡ waited_for s o
  same_wait None = refl
  same_wait (Some n) = refl

  asked_for : (q : List ℕ) → to_wait_for q (forgotten k s) ≡ to_wait_for q s
  asked_for q = ap (waited_for (forgotten k s)) (key-out s.current k q) ∙ by (same_key q k) refl
    where
      by : (t : Bool) → same_key q k ≡ t → waited_for (forgotten k s) (cond t None (get s.current q)) ≡ waited_for s (get s.current q)
      by true is = sym (ap (λ (i : List ℕ). to_wait_for i s) (same_text q k (sym is)) ∙ none)
      by false is = same_wait (get s.current q)

  entry : (q : List ℕ) (n : ℕ) → get (remove s.current k) q ≡ Some n → get s.current q ≡ Some n
  entry q n e = by (same_key q k) (sym (key-out s.current k q) ∙ e)
    where
      by : (t : Bool) → cond t None (get s.current q) ≡ Some n → get s.current q ≡ Some n
      by true e = absurd cc
      by false e = e

  module _ (sound : IsSound s) where
    ends : (n : ℕ) (fills : List UnusableFill) (moment : MomentValue) → (o : Option HeldCore) → get s.cores n ≡ o → outcome o (tokens_of n (forgotten k s)) fills moment ≡ outcome o (tokens_of n s) fills moment
    ends n fills moment None is = refl
    ends n fills moment (Some c) is = ap (λ (tokens : List ℕ). outcome (Some c) tokens fills moment) (ap (λ (o : Option (List ℕ)). unwrap_or o []) (get-out s.published s.next n ∙ by (n == s.next) refl))
      where
        by : (t : Bool) → (n == s.next) ≡ t → cond t None (get s.published n) ≡ get s.published n
        by false e = refl
        by true e =
            let same : n ≡ s.next = number n s.next e in
            let less : n < s.next = (sound n c is).0 in
            absurd (omega arith)

    pub forgotten_is : IsAsBefore (forgotten k s) s
    forgotten_is = record {
      cores = refl;
      age = refl;
      current = entry;
      asked = asked_for;
      outcomes = λ n fills moment. ends n fills moment (get s.cores n) refl;
    }

pub unchanged : (s : LockState) → IsAsBefore s s
unchanged s = record { cores = refl; age = refl; current = λ k n e. e; asked = λ k. refl; outcomes = λ n fills moment. refl }

pub given_back_is : (s : LockState) → IsSound s → (k : List ℕ) (stale : Bool) (moment : MomentValue) → IsAsBefore (given_back k stale moment s) s
given_back_is s sound k stale moment = by (to_wait_for k s) refl
  where
    by : (o : Option ℕ) → to_wait_for k s ≡ o → IsAsBefore (after_all (leave_changes (locked_by s o)) (after (lock_change k stale moment s o) s)) s
    by None is = subst (λ (t : LockState). IsAsBefore t s) (sym (permit_given_back k stale moment s sound)) (forgotten_is k s is sound)
    by (Some n) is = subst (λ (t : LockState). IsAsBefore t s) (sym (read_given_back n s sound (get s.cores n) refl)) (unchanged s)

-- what a call of lock gives, if it is left at once
pub left : (r : Result Locked LockFault) (s new : LockState) (k : List ℕ) (stale : Bool) (moment : MomentValue) (o : Option ℕ) → IsSound s → o ≡ to_wait_for k s
    → IfOk r (λ l. l ≡ locked_by s o) → OnOk r (new ≡ after (lock_change k stale moment s o) s) → IfOk r (λ l. IsAsBefore (after_all (leave_changes l) new) s)
left (Err e) s new k stale moment o sound asked given change = tt
left (Ok l) s new k stale moment o sound asked given change =
    let whole : given_back k stale moment s ≡ after_all (leave_changes (locked_by s o)) (after (lock_change k stale moment s o) s) = ap (λ (p : Option ℕ). after_all (leave_changes (locked_by s p)) (after (lock_change k stale moment s p) s)) (sym asked) in
    let as_given : after_all (leave_changes (locked_by s o)) (after (lock_change k stale moment s o) s) ≡ after_all (leave_changes l) new = λ i. after_all (leave_changes (sym given i)) (sym change i) in
    subst (λ (t : LockState). IsAsBefore t s) (whole ∙ as_given) (given_back_is s sound k stale moment)

-- ---- a core that can't be named once more

pub spent_there : (s : LockState) (n : ℕ) (o : Option HeldCore) → get s.cores n ≡ o → IsSome o → is_lendable o ≡ false → IsSpent s (Some n)
spent_there s n None is there full = absurd cc
spent_there s n (Some c) is there full = (c, is, eqb-true c.names (2 ^ 64 - 1) (not-false (c.names == 2 ^ 64 - 1) full))

-- ---- what changes say

kept_entry : (s : LockState) (o : Option ℕ) (n : ℕ) → waited_for s o ≡ Some n → o ≡ Some n
kept_entry s None n e = absurd cc
kept_entry s (Some m) n e = by (is_replaced (status_of m s)) e
  where
    by : (t : Bool) → cond t None (Some m) ≡ Some n → Some m ≡ Some n
    by true e = absurd cc
    by false e = e

-- a state that is as before is still what the changes say
pub still_state_of : (new old : LockState) (changes : Changes) → IsAsBefore new old → IsStateOf old changes → IsStateOf new changes
still_state_of new old changes same r = record {
  names = λ n c e. r.names n c (core n (Some c) e);
  status = λ n c e. r.status n c (core n (Some c) e);
  current = λ k n e. r.current k n (same.current k n e);
  waits = λ k n e w. let now = r.waits k n e w in (entry_now k n now.0 now.1.0 now.1.1 (r.status n now.1.0 now.1.1 ∙ w), (now.1.0, ap (λ (m : FinMap nat_cmp HeldCore). get m n) same.cores ∙ now.1.1));
  replaced = r.replaced;
}
  where
    core : (n : ℕ) (o : Option HeldCore) → get new.cores n ≡ o → get old.cores n ≡ o
    core n o e = sym (ap (λ (m : FinMap nat_cmp HeldCore). get m n) same.cores) ∙ e

    entry_now : (k : List ℕ) (n : ℕ) → get old.current k ≡ Some n → (c : HeldCore) → get old.cores n ≡ Some c → c.core.status ≡ Waiting → get new.current k ≡ Some n
    entry_now k n e c is waiting =
        let status : status_of n old ≡ Waiting = ap status_in is ∙ waiting in
        let before : to_wait_for k old ≡ Some n = ap (waited_for old) e ∙ ap (λ (t : Bool). cond t None (Some n)) (ap is_replaced status) in
        kept_entry new (get new.current k) n (same.asked k ∙ before)
