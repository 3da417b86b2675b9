-- A hash map seen as a finite map: what is found in it, and sums over it.
use Rattle.std.proofs.Common.{◌≡◌, ℕ, ◌+◌, List, [], ◌∷◌, refl, ap, sym, ◌∙◌, subst, cond, true, false, length, arith, Ordering, Less, Equal, Greater}
use Rattle.std.specs.Prelude.{Bool, T, ◌&&◌, Option, Some, None, is_some, option_map, map, nat_eq}
use Rattle.std.specs.List.{AllByRecursion, IsDistinct, sum_by}
use Rattle.std.specs.Ordering.{is_eq, is_lt, nat_cmp, eq_by_cmp}
use Rattle.std.specs.Cmp.{IsTotalOrder, unsigned_tied}
use Rattle.std.specs.Cmp.Lexicographic.{pointwise, slice_cmp, texts_ties}
use Rattle.std.proofs.lemmas.Cmp.{nat_cmp_total, nat_eq_equiv, eq_by_cmp_equiv}
use Rattle.std.specs.FinMap.{FinMap, IsAntisymmetric, entries, entries_sorted, entries-from_sorted, from_sorted, get-from_sorted, is_sorted, empty, get, insert, remove, len, values}
use Rattle.std.specs.FinMap.{from_entries, find, put, same_map, get-entries, get-from_entries, get-insert, get-remove, entries-insert, len-entries, len-empty, len-insert}
use Rattle.std.specs.FinMap.{nat_cmp-IsAntisymmetric}
use Rattle.std.specs.FinMap.Entries.{by_order, below_all}
use Rattle.std.specs.Map.{keys_of, values_of, lookup, set_value}
use Rattle.std.proofs.lemmas.List.{nil_from_length}
use Rattle.std.proofs.lemmas.List.Sums.{sum_by-cons}
use Rattle.std.proofs.lemmas.Map.{lookup-set_value}
use Rattle.std.proofs.lemmas.Bool.{eqb-true}

module _ {K X : Type 0} {R : K → K → Ordering} (eq : K → K → Bool) (total : IsTotalOrder R) (ties : (x y : K) → eq_by_cmp R x y ≡ eq x y) where
  -- the first entry of a key, found by either test
  find-lookup : (q : K) (es : List (K × X)) → find R q es ≡ lookup (eq q) es
  find-lookup q [] = refl
  find-lookup q (e ∷ es) = rw (ties q e.0, find-lookup q es) refl

  pub get-keyed : (es : List (K × X)) (q : K) → get (from_entries {R = R} es) q ≡ lookup (eq q) es
  get-keyed es q = get-from_entries total es q ∙ find-lookup q es

  changed_at : (q k : K) (at a b : Option X) → a ≡ b → cond (eq_by_cmp R q k) at a ≡ cond (eq k q) at b
  changed_at q k at a b e = ap (λ t. cond t at a) ((eq_by_cmp_equiv total).symm q k ∙ ties k q) ∙ ap (cond (eq k q) at) e

  -- the table after a change at one key is the changed map
  pub insert-keyed : IsAntisymmetric R → (old new : List (K × X)) (k : K) (v : X) → ((q : K) → lookup (eq q) new ≡ cond (eq k q) (Some v) (lookup (eq q) old))
      → from_entries {R = R} new ≡ insert (from_entries old) k v
  insert-keyed apart old new k v h =
      same_map total apart _ _
      (λ q. get-keyed new q ∙ h q ∙ sym (get-insert total (from_entries old) k v q ∙ changed_at q k (Some v) _ _ (get-keyed old q)))

  pub remove-keyed : IsAntisymmetric R → (old new : List (K × X)) (k : K) → ((q : K) → lookup (eq q) new ≡ cond (eq k q) None (lookup (eq q) old))
      → from_entries {R = R} new ≡ remove (from_entries old) k
  remove-keyed apart old new k h =
      same_map total apart _ _
      (λ q. get-keyed new q ∙ h q ∙ sym (get-remove total (from_entries old) k q ∙ changed_at q k None _ _ (get-keyed old q)))

  -- tables that answer alike are one map
  pub same-keyed : IsAntisymmetric R → (old new : List (K × X)) → ((q : K) → lookup (eq q) new ≡ lookup (eq q) old) → from_entries {R = R} new ≡ from_entries old
  same-keyed apart old new h = same_map total apart _ _ (λ q. get-keyed new q ∙ h q ∙ sym (get-keyed old q))

  -- what is put at a new key adds to a sum over the values
  pub sum-put : (f : X → ℕ) (k : K) (v : X) (es : List (K × X)) → find R k es ≡ None → sum_by f (map (λ e. e.1) (put R k v es)) ≡ f v + sum_by f (map (λ e. e.1) es)
  sum-put f k v [] none = sum_by-cons f v []
  sum-put f k v (e ∷ es) none = by_place (sum-put f k v es) (R k e.0) none
    where
      by_place : (find R k es ≡ None → sum_by f (map (λ e. e.1) (put R k v es)) ≡ f v + sum_by f (map (λ e. e.1) es)) → (r : Ordering) → cond (is_eq r) (Some e.1) (find R k es) ≡ None
          → sum_by f (map (λ e. e.1) (by_order r ((k, v) ∷ e ∷ es) ((e.0, v) ∷ es) (e ∷ put R k v es))) ≡ f v + sum_by f (map (λ e. e.1) (e ∷ es))
      by_place ih Less n = sum_by-cons f v (map (λ e. e.1) (e ∷ es))
      by_place ih Equal n = absurd cc
      by_place ih Greater n = omega (arith, sum_by-cons f e.1 (map (λ e. e.1) (put R k v es)), ih n, sum_by-cons f e.1 (map (λ e. e.1) es))

  none_new : (k : K) (es : List (K × X)) → AllByRecursion (λ y. eq k y ≡ false) (keys_of es) → lookup (eq k) es ≡ None
  none_new k [] h = refl
  none_new k (e ∷ es) h = ap (λ t. cond t (Some e.1) (lookup (eq k) es)) h.0 ∙ none_new k es h.1

  -- sums over distinct entries are sums over their map
  pub sum-keyed : (f : X → ℕ) (es : List (K × X)) → IsDistinct eq (keys_of es) → sum_by f (values (from_entries {R = R} es)) ≡ sum_by f (values_of es)
  unfolding IsDistinct
  sum-keyed f [] d = ap (λ (l : List (K × X)). sum_by f (map (λ e. e.1) l)) (nil_from_length (entries (empty {R = R})) (sym (len-entries (empty {X = X} {R = R})) ∙ len-empty R X))
  sum-keyed f (e ∷ es) d =
      let m = from_entries {R = R} es in
      let none : find R e.0 (entries m) ≡ None = sym (get-entries m e.0) ∙ get-keyed es e.0 ∙ none_new e.0 es d.0 in
      ap (λ (l : List (K × X)). sum_by f (map (λ e. e.1) l)) (entries-insert total m e.0 e.1) ∙ sum-put f e.0 e.1 (entries m) none ∙ ap (λ n. f e.1 + n) (sum-keyed f es d.1) ∙ sym (sum_by-cons f e.1 (values_of es))

  pub len-keyed : (es : List (K × X)) → IsDistinct eq (keys_of es) → len (from_entries {R = R} es) ≡ length es
  unfolding IsDistinct
  len-keyed [] d = len-empty R X
  len-keyed (e ∷ es) d =
      let m = from_entries {R = R} es in
      len-insert total m e.0 e.1 ∙ ap (λ (o : Option X). cond (is_some o) (len m) (len m + 1)) (get-keyed es e.0 ∙ none_new e.0 es d.0) ∙ omega (arith, len-keyed es d.1)

-- a map whose values are those of another one, each through a function
abbrev pub each_of : {K X Y : Type 0} → (X → Y) → List (K × X) → List (K × Y)
each_of f es = map (λ e. (e.0, f e.1)) es

module _ {K X Y : Type 0} (R : K → K → Ordering) (f : X → Y) where
  each-below : (k : K) (es : List (K × X)) → below_all R k (each_of f es) ≡ below_all R k es
  each-below k [] = refl
  each-below k (e ∷ es) = ap (λ t. is_lt (R k e.0) && t) (each-below k es)

  each-sorted : (es : List (K × X)) → is_sorted R (each_of f es) ≡ is_sorted R es
  each-sorted [] = refl
  each-sorted (e ∷ es) = ap (λ t. t && is_sorted R (each_of f es)) (each-below e.0 es) ∙ ap (λ t. below_all R e.0 es && t) (each-sorted es)

  each-found : (q : K) (es : List (K × X)) → find R q (each_of f es) ≡ option_map f (find R q es)
  each-found q [] = refl
  each-found q (e ∷ es) = by_test (eq_by_cmp R q e.0) (each-found q es)
    where
      by_test : (t : Bool) → find R q (each_of f es) ≡ option_map f (find R q es) → cond t (Some (f e.1)) (find R q (each_of f es)) ≡ option_map f (cond t (Some e.1) (find R q es))
      by_test true ih = refl
      by_test false ih = ih

  pub entries-each : IsTotalOrder R → IsAntisymmetric R → (m : FinMap R X) (n : FinMap R Y) → ((q : K) → get n q ≡ option_map f (get m q)) → entries n ≡ each_of f (entries m)
  entries-each total apart m n h =
      let sorted : T (is_sorted R (each_of f (entries m))) = subst T (sym (each-sorted (entries m))) (entries_sorted m) in
      ap entries (same_map total apart n (from_sorted (each_of f (entries m))) (λ q. h q ∙ ap (option_map f) (get-entries m q) ∙ sym (each-found q (entries m)) ∙ sym (get-from_sorted R (each_of f (entries m)) q sorted)))
      ∙ entries-from_sorted R (each_of f (entries m)) sorted

-- keys of bytes
pub bytes_tied : (x y : List ℕ) → eq_by_cmp (slice_cmp nat_cmp) x y ≡ pointwise nat_eq x y
bytes_tied x y = sym (texts_ties x y)

-- keys that are numbers
pub get-table : {X : Type 0} (es : List (ℕ × X)) (q : ℕ) → get (from_entries {R = nat_cmp} es) q ≡ lookup (nat_eq q) es
get-table es q = get-keyed nat_eq nat_cmp_total unsigned_tied es q

pub insert-table : {X : Type 0} (old new : List (ℕ × X)) (k : ℕ) (v : X) → ((q : ℕ) → lookup (nat_eq q) new ≡ cond (nat_eq k q) (Some v) (lookup (nat_eq q) old))
    → from_entries {R = nat_cmp} new ≡ insert (from_entries old) k v
insert-table old new k v h = insert-keyed nat_eq nat_cmp_total unsigned_tied nat_cmp-IsAntisymmetric old new k v h

pub remove-table : {X : Type 0} (old new : List (ℕ × X)) (k : ℕ) → ((q : ℕ) → lookup (nat_eq q) new ≡ cond (nat_eq k q) None (lookup (nat_eq q) old))
    → from_entries {R = nat_cmp} new ≡ remove (from_entries old) k
remove-table old new k h = remove-keyed nat_eq nat_cmp_total unsigned_tied nat_cmp-IsAntisymmetric old new k h

one_key : (k x y : ℕ) → nat_eq k x ≡ true → nat_eq k y ≡ nat_eq x y
one_key k x y e = ap (λ n. nat_eq n y) (eqb-true k x e)

-- a value that is written in place of one that is there
pub set-table : {X : Type 0} (es : List (ℕ × X)) (k : ℕ) (v w : X) → lookup (nat_eq k) es ≡ Some v → from_entries {R = nat_cmp} (set_value (nat_eq k) es w) ≡ insert (from_entries es) k w
set-table es k v w there = insert-table es (set_value (nat_eq k) es w) k w (λ q. lookup-set_value nat_eq_equiv (nat_eq k) (one_key k) q w es (rw there refl))
