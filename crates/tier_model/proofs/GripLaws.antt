-- What requests hold of a lock, and what a change of the lock leaves of the keys of its cores.
use Rattle.std.proofs.Common.{◌≡◌, ℕ, ◌+◌, ◌<◌, ◌≤◌, ◌==◌, refl, ap, sym, ◌∙◌, true, false, cond, arith}
use Rattle.std.specs.Prelude.{Bool, List, [], Option, Some, None, option_map, nat_le, if◌then◌else◌}
use Rattle.std.specs.FinMap.{get, insert}
use Rattle.std.specs.Cmp.Lexicographic.{nat_list_eq_equiv, same_text}
use Rattle.std.proofs.lemmas.Bool.{eqb-true, leb-true}
use Rattle.cache_words.specs.Time.{MomentValue}
use Rattle.cache_lock.specs.Changes.{gives}
use Rattle.cache_lock.specs.State.{LockState, given_core, unnamed, with_core, without_core, spent, after}
use Rattle.cache_lock.specs.Waits.{same_key}
use Rattle.cache_lock.specs.declared.lock_core.HeldCore.{HeldCore}
use Rattle.cache_lock.proofs.ChangeLaws.{get-put, get-out}

-- ---- what one holds

-- nothing, or the core of that number under a key, by a permit or by a wait
pub data Grip : Type 0 where
  free : Grip
  grips : Bool → ℕ → List ℕ → Grip

abbrev pub by_permit : Grip → Bool
by_permit free = false
by_permit (grips p n k) = p

abbrev pub grip_number : Grip → ℕ
grip_number free = 0
grip_number (grips p n k) = n

abbrev pub grip_key : Grip → List ℕ
grip_key free = []
grip_key (grips p n k) = k

-- how often it names the core of that number
abbrev pub count : ℕ → Grip → ℕ
count n free = 0
count n (grips p m k) = if n == m then 1 else 0

-- each that holds a core is counted
pub record Table (g : ℕ → Grip) (hold : ℕ → ℕ) : Type 0 where
  pub one : (i n : ℕ) (p : Bool) (k : List ℕ) → g i ≡ grips p n k → 0 < hold n
  pub two : (i j n : ℕ) (p q : Bool) (a b : List ℕ) → (i == j) ≡ false → g i ≡ grips p n a → g j ≡ grips q n b → 1 < hold n

-- one comes from a grip to another, and no other changes
pub record Moves (g new : ℕ → Grip) (hold more : ℕ → ℕ) (r : ℕ) (a b : Grip) : Type 0 where
  pub was : g r ≡ a
  pub now : new r ≡ b
  pub others : (i : ℕ) → (r == i) ≡ false → new i ≡ g i
  pub sum : (n : ℕ) → more n + count n a ≡ hold n + count n b

-- none does
pub record Same (g new : ℕ → Grip) (hold more : ℕ → ℕ) : Type 0 where
  pub grip : (i : ℕ) → new i ≡ g i
  pub sum : (n : ℕ) → more n ≡ hold n

module _ (g new : ℕ → Grip) (hold more : ℕ → ℕ) (r : ℕ) (a b : Grip) (moves : Moves g new hold more r a b) where
  pub moved-was : (i : ℕ) → (r == i) ≡ true → g i ≡ a
  moved-was i e = ap g (sym (eqb-true r i e)) ∙ moves.was

  pub moved-now : (i : ℕ) → (r == i) ≡ true → new i ≡ b
  moved-now i e = ap new (sym (eqb-true r i e)) ∙ moves.now

-- where one lets go, one that holds a core then held it before, and is another
pub still-held : (g new : ℕ → Grip) (hold more : ℕ → ℕ) (r : ℕ) (a : Grip) → Moves g new hold more r a free → (i m : ℕ) (q : Bool) (k : List ℕ) → new i ≡ grips q m k
    → ((r == i) ≡ false) × (g i ≡ grips q m k)
still-held g new hold more r a moves i m q k e = by_one (r == i) refl
  where
    by_one : (v : Bool) → (r == i) ≡ v → ((r == i) ≡ false) × (g i ≡ grips q m k)
    by_one true is = let none : free ≡ grips q m k = sym (moved-now g new hold more r a free moves i is) ∙ e in absurd cc
    by_one false is = (is, sym (moves.others i is) ∙ e)

pub same-moved : (g new : ℕ → Grip) (hold more : ℕ → ℕ) (r : ℕ) (a : Grip) → Moves g new hold more r a a → Same g new hold more
same-moved g new hold more r a moves = record {
  grip = λ i. by_one i (r == i) refl;
  sum = λ n. omega (arith, moves.sum n);
}
  where
    by_one : (i : ℕ) (v : Bool) → (r == i) ≡ v → new i ≡ g i
    by_one i true e = moved-now g new hold more r a a moves i e ∙ sym (moved-was g new hold more r a a moves i e)
    by_one i false e = moves.others i e

-- ---- numbers and keys that differ

pub differ : (a b : ℕ) → (a ≡ b → ⊥) → (a == b) ≡ false
differ a b h = by_test (a == b) refl
  where
    by_test : (v : Bool) → (a == b) ≡ v → v ≡ false
    by_test true e = absurd (h (eqb-true a b e))
    by_test false e = refl

pub key-true : (a b : List ℕ) → same_key a b ≡ true → a ≡ b
key-true a b e = same_text a b (sym e)

pub key-itself : (a : List ℕ) → same_key a a ≡ true
key-itself a = nat_list_eq_equiv.refl a

pub differ-key : (a b : List ℕ) → (a ≡ b → ⊥) → same_key a b ≡ false
differ-key a b h = by_test (same_key a b) refl
  where
    by_test : (v : Bool) → same_key a b ≡ v → v ≡ false
    by_test true e = absurd (h (key-true a b e))
    by_test false e = refl

-- ---- the key of a core

abbrev pub key_in : HeldCore → List ℕ
key_in c = c.key

abbrev pub key_at : ℕ → LockState → Option (List ℕ)
key_at n s = option_map key_in (get s.cores n)

map_cond : (v : Bool) (x y : Option HeldCore) → option_map key_in (cond v x y) ≡ cond v (option_map key_in x) (option_map key_in y)
map_cond true x y = refl
map_cond false x y = refl

pub key-given : (m : ℕ) (key : List ℕ) (stale : Bool) (t : MomentValue) (s : LockState) → key_at m (after (gives s.next key stale t) s) ≡ cond (m == s.next) (Some key) (key_at m s)
key-given m key stale t s = ap (option_map key_in) (get-put s.cores s.next m (given_core key stale t s.age)) ∙ map_cond (m == s.next) (Some (given_core key stale t s.age)) (get s.cores m)

module _ {X : Type 0} (p : HeldCore → X) where
  -- what a core keeps where one is changed in its place
  pub kept-in : (m n : ℕ) (f : HeldCore → HeldCore) (s : LockState) → ((c : HeldCore) → p (f c) ≡ p c) → (o : Option HeldCore) → get s.cores n ≡ o
      → option_map p (get (with_core n f o s).cores m) ≡ option_map p (get s.cores m)
  kept-in m n f s h None e = refl
  kept-in m n f s h (Some c) e = ap (option_map p) (get-put s.cores n m (f c)) ∙ by_test (m == n) refl
    where
      by_test : (v : Bool) → (m == n) ≡ v → option_map p (cond v (Some (f c)) (get s.cores m)) ≡ option_map p (get s.cores m)
      by_test true is = ap (λ (k : X). Some k) (h c) ∙ sym (ap (option_map p) (ap (get s.cores) (eqb-true m n is) ∙ e))
      by_test false is = refl

  -- what a core had that is there after it
  pub was-in : (m n : ℕ) (s : LockState) → ((c : HeldCore) → p (unnamed c) ≡ p c) → (k : X) (o : Option HeldCore) → get s.cores n ≡ o
      → option_map p (get (spent n o s).cores m) ≡ Some k → option_map p (get s.cores m) ≡ Some k
  was-in m n s h k None e is = is
  was-in m n s h k (Some c) e is = by_last (nat_le c.names 1) is
    where
      by_test : (w : Bool) → option_map p (cond w None (get s.cores m)) ≡ Some k → option_map p (get s.cores m) ≡ Some k
      by_test true is = absurd cc
      by_test false is = is

      by_last : (v : Bool) → option_map p (get (cond v (without_core n c.key s) (record s { cores = insert s.cores n (unnamed c) })).cores m) ≡ Some k → option_map p (get s.cores m) ≡ Some k
      by_last true is = by_test (m == n) (sym (ap (option_map p) (get-out s.cores n m)) ∙ is)
      by_last false is = sym (kept-in m n unnamed s h (Some c) e) ∙ is

-- a core that is changed in its place keeps its key
pub key-kept : (m n : ℕ) (f : HeldCore → HeldCore) (s : LockState) → ((c : HeldCore) → (f c).key ≡ c.key) → (o : Option HeldCore) → get s.cores n ≡ o → key_at m (with_core n f o s) ≡ key_at m s
key-kept m n f s h o e = kept-in key_in m n f s h o e

pub next-kept : (n : ℕ) (f : HeldCore → HeldCore) (o : Option HeldCore) (s : LockState) → (with_core n f o s).next ≡ s.next
next-kept n f None s = refl
next-kept n f (Some c) s = refl

pub next-spent : (n : ℕ) (o : Option HeldCore) (s : LockState) → (spent n o s).next ≡ s.next
next-spent n None s = refl
next-spent n (Some c) s = by_last (nat_le c.names 1)
  where
    by_last : (v : Bool) → (cond v (without_core n c.key s) (record s { cores = insert s.cores n (unnamed c) })).next ≡ s.next
    by_last true = refl
    by_last false = refl

-- a core that others name too keeps its key where a name is handed back
pub key-left : (m n : ℕ) (s : LockState) → ((m == n) ≡ true → (c : HeldCore) → get s.cores n ≡ Some c → 1 < c.names) → (o : Option HeldCore) → get s.cores n ≡ o → key_at m (spent n o s) ≡ key_at m s
key-left m n s many None e = refl
key-left m n s many (Some c) e = by_last (nat_le c.names 1) refl
  where
    by_test : nat_le c.names 1 ≡ true → (w : Bool) → (m == n) ≡ w → option_map key_in (cond w None (get s.cores m)) ≡ key_at m s
    by_test is true same =
        let more : 1 < c.names = many same c e in
        let few : c.names ≤ 1 = leb-true c.names 1 is in
        absurd (omega (arith, more, few))
    by_test is false same = refl

    by_last : (v : Bool) → nat_le c.names 1 ≡ v → key_at m (cond v (without_core n c.key s) (record s { cores = insert s.cores n (unnamed c) })) ≡ key_at m s
    by_last true is = ap (option_map key_in) (get-out s.cores n m) ∙ by_test is (m == n) refl
    by_last false is = key-kept m n unnamed s (λ c. refl) (Some c) e

-- no key is another after it
pub key-was : (m n : ℕ) (s : LockState) (k : List ℕ) (o : Option HeldCore) → get s.cores n ≡ o → key_at m (spent n o s) ≡ Some k → key_at m s ≡ Some k
key-was m n s k o e is = was-in key_in m n s (λ c. refl) k o e is
