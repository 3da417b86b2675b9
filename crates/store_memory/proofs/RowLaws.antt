-- Entries under numbers that ascend, each seen by g: what edits of the entries do to what is seen.
use Rattle.std.proofs.Common.{arith, ◌≡◌, ℕ, ◌<◌, refl, ap, sym, true, false, subst, cond, [], ◌∷◌, ◌++◌, Less}
use Rattle.std.specs.Prelude.{◌==◌, Bool, List, Some, not, map, filter}
use Rattle.std.specs.List.{AllByRecursion}
use Rattle.std.specs.List.Sorted.{IsStrictlySortedBy}
use Rattle.std.specs.Map.{lookup, keys_of, remove_entry, set_value}
use Rattle.std.specs.BTreeMap.{is_at, insert_entry}
use Rattle.std.specs.Ordering.{nat_cmp}
use Rattle.std.proofs.lemmas.Cmp.{ranked}
use Rattle.std.proofs.lemmas.Bool.{eqb-true}
use Rattle.std.proofs.lemmas.Bool.Decides.{nat_tests}
use Rattle.std.proofs.lemmas.Map.Keys.{sorted_head, sorted_tail}

abbrev pub Ascends : {X : Type 0} → List (ℕ × X) → Type 0
Ascends [] = Unit {0}
Ascends (e ∷ es) = AllByRecursion (λ d. e.0 < d.0) es × Ascends es

less : (a b : ℕ) → nat_cmp a b ≡ Less → a < b
less a b h = ranked a b Less (sym h)

all_above : {X : Type 0} (n : ℕ) (es : List (ℕ × X)) → AllByRecursion (λ y. nat_cmp n y ≡ Less) (keys_of es) → AllByRecursion (λ d. n < d.0) es
all_above n [] h = tt
all_above n (e ∷ es) h = (less n e.0 h.0, all_above n es h.1)

pub ascends : {X : Type 0} (es : List (ℕ × X)) → IsStrictlySortedBy nat_cmp (keys_of es) → Ascends es
ascends [] h = tt
ascends (e ∷ es) h = (all_above e.0 es (sorted_head nat_cmp e.0 (keys_of es) h), ascends es (sorted_tail nat_cmp e.0 (keys_of es) h))

pub at_is : (n m : ℕ) → is_at (nat_cmp n) m ≡ (n == m)
at_is n m = grind (arith, nat_tests)

pub below_apart : (n m : ℕ) → n < m → (n == m) ≡ false
below_apart n m h = grind (arith, nat_tests)

pub above_apart : (n m : ℕ) → m < n → (n == m) ≡ false
above_apart n m h = grind (arith, nat_tests)

module _ {X Y : Type 0} (g : ℕ × X → Y) (n : ℕ) (test : Y → Bool) (shows : (e : ℕ × X) → test (g e) ≡ (n == e.0)) where
  -- entries above n are as they were
  above : (change : Y → Y) (es : List (ℕ × X)) → AllByRecursion (λ d. n < d.0) es → map (λ y. cond (test y) (change y) y) (map g es) ≡ map g es
  above change [] h = refl
  above change (e ∷ es) h = rw (shows e, below_apart n e.0 h.0) (ap (λ (l : List Y). g e ∷ l) (above change es h.1))

  above_kept : (es : List (ℕ × X)) → AllByRecursion (λ d. n < d.0) es → filter (λ y. not (test y)) (map g es) ≡ map g es
  above_kept [] h = refl
  above_kept (e ∷ es) h = rw (shows e, below_apart n e.0 h.0) (ap (λ (l : List Y). g e ∷ l) (above_kept es h.1))

  -- another value at n
  pub seen-set : (change : Y → Y) (v w : X) → g (n, w) ≡ change (g (n, v)) → (es : List (ℕ × X)) → Ascends es → lookup (is_at (nat_cmp n)) es ≡ Some v
      → map g (set_value (is_at (nat_cmp n)) es w) ≡ map (λ y. cond (test y) (change y) y) (map g es)
  seen-set change v w h [] a f = absurd cc
  seen-set change v w h (e ∷ es) a f = rw (at_is n e.0, shows e) (by_test (n == e.0) refl (rw (at_is n e.0) at f) (seen-set change v w h es a.1))
    where
      by_test : (t : Bool) → (n == e.0) ≡ t → cond t (Some e.1) (lookup (is_at (nat_cmp n)) es) ≡ Some v
          → (lookup (is_at (nat_cmp n)) es ≡ Some v → map g (set_value (is_at (nat_cmp n)) es w) ≡ map (λ y. cond (test y) (change y) y) (map g es))
          → map g (cond t ((e.0, w) ∷ es) (e ∷ set_value (is_at (nat_cmp n)) es w)) ≡ cond t (change (g e)) (g e) ∷ map (λ y. cond (test y) (change y) y) (map g es)
      by_test true t f ih =
          let same : n ≡ e.0 = eqb-true n e.0 t in
          let value : e.1 ≡ v = cc in
          let first : g (e.0, w) ≡ change (g e) = subst (λ (m : ℕ). g (m, w) ≡ change (g (m, e.1))) same (subst (λ (x : X). g (n, w) ≡ change (g (n, x))) (sym value) h) in
          let rest = above change es (subst (λ (m : ℕ). AllByRecursion (λ d. m < d.0) es) (sym same) a.0) in
          λ i. first i ∷ sym rest i
      by_test false t f ih = ap (λ (l : List Y). g e ∷ l) (ih f)

  -- without the entry at n
  pub seen-removed : (es : List (ℕ × X)) → Ascends es → map g (remove_entry (is_at (nat_cmp n)) es) ≡ filter (λ y. not (test y)) (map g es)
  seen-removed [] a = refl
  seen-removed (e ∷ es) a = rw (at_is n e.0, shows e) (by_test (n == e.0) refl (seen-removed es a.1))
    where
      by_test : (t : Bool) → (n == e.0) ≡ t → map g (remove_entry (is_at (nat_cmp n)) es) ≡ filter (λ y. not (test y)) (map g es) → map g (cond t es (e ∷ remove_entry (is_at (nat_cmp n)) es)) ≡ cond (not t) (g e ∷ filter (λ y. not (test y)) (map g es)) (filter (λ y. not (test y)) (map g es))
      by_test true t ih = sym (above_kept es (subst (λ (m : ℕ). AllByRecursion (λ d. m < d.0) es) (sym (eqb-true n e.0 t)) a.0))
      by_test false t ih = ap (λ (l : List Y). g e ∷ l) ih

-- a new entry above all
pub insert_entry-last : {X : Type 0} (n : ℕ) (x : X) (es : List (ℕ × X)) → AllByRecursion (λ m. m < n) (keys_of es) → insert_entry nat_cmp es n x ≡ es ++ (n, x) ∷ []
insert_entry-last n x [] h = refl
insert_entry-last {X = X} n x (e ∷ es) h = grind (arith, nat_tests, insert_entry-last n x es h.1)

-- no removed number is left
pub removed-apart : {X : Type 0} (n : ℕ) (es : List (ℕ × X)) → Ascends es → AllByRecursion (λ e. (n == e.0) ≡ false) (remove_entry (is_at (nat_cmp n)) es)
removed-apart n [] a = tt
removed-apart {X = X} n (e ∷ es) a = rw (at_is n e.0) (by_test (n == e.0) refl (removed-apart n es a.1))
  where
    all_apart : (ds : List (ℕ × X)) → AllByRecursion (λ d. n < d.0) ds → AllByRecursion (λ d. (n == d.0) ≡ false) ds
    all_apart [] h = tt
    all_apart (d ∷ ds) h = (below_apart n d.0 h.0, all_apart ds h.1)

    by_test : (t : Bool) → (n == e.0) ≡ t → AllByRecursion (λ d. (n == d.0) ≡ false) (remove_entry (is_at (nat_cmp n)) es) → AllByRecursion (λ d. (n == d.0) ≡ false) (cond t es (e ∷ remove_entry (is_at (nat_cmp n)) es))
    by_test true t ih = all_apart es (subst (λ (m : ℕ). AllByRecursion (λ d. m < d.0) es) (sym (eqb-true n e.0 t)) a.0)
    by_test false t ih = (t, ih)
