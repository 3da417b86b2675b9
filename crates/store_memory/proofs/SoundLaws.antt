-- Changes of what is kept that keep it sound.
use Rattle.std.proofs.Common.{arith, ◌≡◌, ℕ, ◌<◌, ◌+◌, refl, ap, sym, ◌∙◌, true, false, subst, cond, [], ◌∷◌, ◌++◌, nat_eq}
use Rattle.std.specs.Prelude.{◌==◌, Bool, List, Some, None, option_map, not, ◌||◌, ◌&&◌}
use Rattle.std.specs.List.{AllByRecursion}
use Rattle.std.specs.List.Sorted.{IsStrictlySortedBy}
use Rattle.std.specs.Map.{lookup, keys_of, remove_entry}
use Rattle.std.specs.BTreeMap as tree
use Rattle.std.specs.BTreeMap.{BTreeMap, is_at}
use Rattle.std.specs.Ordering.{nat_cmp}
use Rattle.std.specs.Cmp.Lexicographic.{pointwise}
use Rattle.std.proofs.lemmas.Bool.{eqb-true}
use Rattle.std.proofs.lemmas.Bool.Decides.{nat_tests}
use Rattle.cache_entries.specs.SameEntry.{same_bytes-tells}
use Rattle.cache_heads.specs.declared.meta.CacheMeta.{CacheMeta}
use Rattle.cache_changes.specs.Changes.{StoredKey}
use Rattle.cache_changes.specs.Store.{Flying}
use Rattle.store_memory.specs.declared.flight.Flight.{Flight}
use Rattle.store_memory.specs.Alive.{is_pair}
use Rattle.store_memory.specs.Kept.{key_at, ChangesAt, IsSound}
use Rattle.store_memory.proofs.RowLaws.{at_is, above_apart}
use Rattle.store_memory.proofs.SeenLaws.{Alive}

pub sound-alike : (a b : Alive) (flights : BTreeMap ℕ Flight) (next : ℕ) → ((k : StoredKey) (n : ℕ) → b k n ≡ a k n) → IsSound a flights next → IsSound b flights next
sound-alike a b flights next h s = record { ordered = s.ordered; below = s.below; known = λ k n t. s.known k n (sym (h k n) ∙ t) }

pub sound-changed : (a : Alive) (n : ℕ) (change : Flying CacheMeta → Flying CacheMeta) (old new : BTreeMap ℕ Flight) (next : ℕ) → ChangesAt n change old new → IsSound a old next → IsSound a new next
sound-changed a n change old new next h s = record {
  ordered = subst (λ (ks : List ℕ). IsStrictlySortedBy nat_cmp ks) (sym h.keys) s.ordered;
  below = subst (λ (ks : List ℕ). AllByRecursion (λ m. m < next) ks) (sym h.keys) s.below;
  known = λ k m t. h.known m ∙ s.known k m t;
}

-- fewer are alive
pub sound-fewer : (a b : Alive) (flights : BTreeMap ℕ Flight) (next : ℕ) (gone : StoredKey → ℕ → Bool) → ((k : StoredKey) (n : ℕ) → b k n ≡ (a k n && not (gone k n))) → IsSound a flights next → IsSound b flights next
sound-fewer a b flights next gone h s = record { ordered = s.ordered; below = s.below; known = λ k n t. s.known k n (first (a k n) (gone k n) (sym (h k n) ∙ t)) }
  where
    first : (x y : Bool) → (x && not y) ≡ true → x ≡ true
    first true y e = refl
    first false y e = absurd cc

-- one more, above all
below-push : (n : ℕ) (ks : List ℕ) → AllByRecursion (λ m. m < n) ks → AllByRecursion (λ m. m < n + 1) (ks ++ n ∷ [])
below-push n [] h = (omega arith, tt)
below-push n (k ∷ ks) h = let first : k < n = h.0 in (omega arith, below-push n ks h.1)

keys-push : (n : ℕ) (f : Flight) (es : List (ℕ × Flight)) → keys_of (es ++ (n, f) ∷ []) ≡ keys_of es ++ n ∷ []
keys-push n f [] = refl
keys-push n f (e ∷ es) = ap (λ (l : List ℕ). e.0 ∷ l) (keys-push n f es)

key-push : (n : ℕ) (f : Flight) (m : ℕ) (es : List (ℕ × Flight)) → AllByRecursion (λ k. k < n) (keys_of es)
    → option_map (λ g. g.key) (lookup (is_at (nat_cmp m)) (es ++ (n, f) ∷ [])) ≡ cond (m == n) (Some f.key) (option_map (λ g. g.key) (lookup (is_at (nat_cmp m)) es))
key-push n f m [] h = rw (at_is m n) (by_test (m == n))
  where
    by_test : (t : Bool) → option_map (λ g. g.key) (cond t (Some f) None) ≡ cond t (Some f.key) None
    by_test true = refl
    by_test false = refl
key-push n f m (e ∷ es) h = rw (at_is m e.0) (by_test (m == e.0) (m == n) refl refl (key-push n f m es h.1))
  where
    by_test : (t u : Bool) → (m == e.0) ≡ t → (m == n) ≡ u → option_map (λ g. g.key) (lookup (is_at (nat_cmp m)) (es ++ (n, f) ∷ [])) ≡ cond (m == n) (Some f.key) (option_map (λ g. g.key) (lookup (is_at (nat_cmp m)) es))
        → option_map (λ g. g.key) (cond t (Some e.1) (lookup (is_at (nat_cmp m)) (es ++ (n, f) ∷ []))) ≡ cond u (Some f.key) (option_map (λ g. g.key) (cond t (Some e.1) (lookup (is_at (nat_cmp m)) es)))
    by_test true true t u ih = let low : e.0 < n = h.0 in let same : m ≡ e.0 = eqb-true m e.0 t in let last : m ≡ n = eqb-true m n u in absurd (omega arith)
    by_test true false t u ih = refl
    by_test false true t u ih = rw u at ih
    by_test false false t u ih = rw u at ih

itself : (n : ℕ) → (n == n) ≡ true
itself n = grind (arith, nat_tests)

none_below : (n : ℕ) (es : List (ℕ × Flight)) → AllByRecursion (λ k. k < n) (keys_of es) → lookup (is_at (nat_cmp n)) es ≡ None
none_below n [] h = refl
none_below n (e ∷ es) h = rw (at_is n e.0, above_apart n e.0 h.0) (none_below n es h.1)

pub sound-begun : (a b : Alive) (old new : BTreeMap ℕ Flight) (k : StoredKey) (n : ℕ) (f : Flight) → IsSound a old n → ((j : StoredKey) (m : ℕ) → b j m ≡ (a j m || is_pair k n j m))
    → new.entries ≡ old.entries ++ (n, f) ∷ [] → f.key ≡ k → tree.IsOrdered nat_cmp new → IsSound b new (n + 1)
sound-begun a b old new k n f s h e g o = record {
  ordered = o;
  below = rw (e, keys-push n f old.entries) (below-push n (tree.keys old) s.below);
  known = λ j m t. ap (λ (es : List (ℕ × Flight)). option_map (λ x. x.key) (lookup (is_at (nat_cmp m)) es)) e ∙ key-push n f m old.entries s.below ∙ by_test j m (n == m) refl (sym (h j m) ∙ t);
}
  where
    apart : (x y : ℕ) → (x == y) ≡ false → (y == x) ≡ false
    apart x y e = grind (arith, nat_tests)

    by_pair : (j : StoredKey) (m : ℕ) (v w : Bool) → n ≡ m → a j m ≡ v → pointwise nat_eq k j ≡ w → (v || (w && true)) ≡ true → Some f.key ≡ Some j
    by_pair j m true w same x y t = let there : key_at old n ≡ Some j = subst (λ (i : ℕ). key_at old i ≡ Some j) (sym same) (s.known j m x) in let none : key_at old n ≡ None = ap (option_map (λ g. g.key)) (none_below n old.entries s.below) in absurd cc
    by_pair j m false true same x y t = ap (λ (i : StoredKey). Some i) (g ∙ same_bytes-tells.equal k j y)
    by_pair j m false false same x y t = absurd cc

    known_before : (v w : Bool) → (v || (w && false)) ≡ true → v ≡ true
    known_before true w t = refl
    known_before false true t = absurd cc
    known_before false false t = absurd cc

    by_test : (j : StoredKey) (m : ℕ) (u : Bool) → (n == m) ≡ u → (a j m || (pointwise nat_eq k j && u)) ≡ true → cond (m == n) (Some f.key) (key_at old m) ≡ Some j
    by_test j m true x t = let same : n ≡ m = eqb-true n m x in rw (subst (λ (i : ℕ). (i == n) ≡ true) same (itself n)) (by_pair j m (a j m) (pointwise nat_eq k j) same refl refl t)
    by_test j m false x t = rw (apart n m x) (s.known j m (known_before (a j m) (pointwise nat_eq k j) t))

pub sound-back : (a b d : Alive) (flights : BTreeMap ℕ Flight) (k : StoredKey) (n : ℕ) → IsSound a flights n → ((j : StoredKey) (m : ℕ) → b j m ≡ (a j m || is_pair k n j m))
    → ((j : StoredKey) (m : ℕ) → d j m ≡ (b j m && not (is_pair k n j m))) → (j : StoredKey) (m : ℕ) → d j m ≡ a j m
sound-back a b d flights k n s h g j m = g j m ∙ ap (λ (v : Bool). v && not (is_pair k n j m)) (h j m) ∙ by_test (a j m) (pointwise nat_eq k j) (n == m) refl refl refl
  where
    by_test : (v w u : Bool) → a j m ≡ v → pointwise nat_eq k j ≡ w → (n == m) ≡ u → ((v || (w && u)) && not (w && u)) ≡ v
    by_test true true true x y z =
        let there : key_at flights n ≡ Some j = subst (λ (i : ℕ). key_at flights i ≡ Some j) (sym (eqb-true n m z)) (s.known j m x) in
        let none : key_at flights n ≡ None = ap (option_map (λ f. f.key)) (none_below n flights.entries s.below) in
        absurd cc
    by_test true true false x y z = refl
    by_test true false u x y z = refl
    by_test false true true x y z = refl
    by_test false true false x y z = refl
    by_test false false u x y z = refl

pub sound-entries : (a : Alive) (old new : BTreeMap ℕ Flight) (next : ℕ) → new.entries ≡ old.entries → IsSound a old next → IsSound a new next
sound-entries a old new next e s = record {
  ordered = subst (λ (es : List (ℕ × Flight)). IsStrictlySortedBy nat_cmp (keys_of es)) (sym e) s.ordered;
  below = subst (λ (es : List (ℕ × Flight)). AllByRecursion (λ m. m < next) (keys_of es)) (sym e) s.below;
  known = λ k m t. ap (λ (es : List (ℕ × Flight)). option_map (λ x. x.key) (lookup (is_at (nat_cmp m)) es)) e ∙ s.known k m t;
}

-- one lands
key-removed : (n m : ℕ) → (n == m) ≡ false → (es : List (ℕ × Flight)) → lookup (is_at (nat_cmp m)) (remove_entry (is_at (nat_cmp n)) es) ≡ lookup (is_at (nat_cmp m)) es
key-removed n m h [] = refl
key-removed n m h (e ∷ es) = rw (at_is n e.0, at_is m e.0) (by_test (n == e.0) (m == e.0) refl refl (key-removed n m h es))
  where
    by_test : (t u : Bool) → (n == e.0) ≡ t → (m == e.0) ≡ u → lookup (is_at (nat_cmp m)) (remove_entry (is_at (nat_cmp n)) es) ≡ lookup (is_at (nat_cmp m)) es
        → lookup (is_at (nat_cmp m)) (cond t es (e ∷ remove_entry (is_at (nat_cmp n)) es)) ≡ cond u (Some e.1) (lookup (is_at (nat_cmp m)) es)
    by_test true true t u ih = let one : n ≡ e.0 = eqb-true n e.0 t in let other : m ≡ e.0 = eqb-true m e.0 u in let same : (n == m) ≡ true = subst (λ (i : ℕ). (n == i) ≡ true) (sym other) t in absurd cc
    by_test true false t u ih = refl
    by_test false true t u ih = rw (at_is m e.0, u) refl
    by_test false false t u ih = rw (at_is m e.0, u) ih

pub sound-landed : (a b : Alive) (old new : BTreeMap ℕ Flight) (k : StoredKey) (n next : ℕ) → IsSound a old next → ((j : StoredKey) (m : ℕ) → b j m ≡ (a j m && not (is_pair k n j m)))
    → new.entries ≡ remove_entry (is_at (nat_cmp n)) old.entries → key_at old n ≡ Some k → tree.IsOrdered nat_cmp new → IsSound b new next
sound-landed a b old new k n next s h e g o = record {
  ordered = o;
  below = subst (λ (es : List (ℕ × Flight)). AllByRecursion (λ m. m < next) (keys_of es)) (sym e) (below old.entries s.below);
  known = λ j m t. ap (λ (es : List (ℕ × Flight)). option_map (λ x. x.key) (lookup (is_at (nat_cmp m)) es)) e ∙ by_test j m (n == m) refl (sym (h j m) ∙ t);
}
  where
    drop_one : (v : Bool) (x : ℕ × Flight) (xs ys : List (ℕ × Flight)) → x.0 < next → AllByRecursion (λ m. m < next) (keys_of xs) → AllByRecursion (λ m. m < next) (keys_of ys) → AllByRecursion (λ m. m < next) (keys_of (cond v xs (x ∷ ys)))
    drop_one true x xs ys h p q = p
    drop_one false x xs ys h p q = (h, q)

    below : (es : List (ℕ × Flight)) → AllByRecursion (λ m. m < next) (keys_of es) → AllByRecursion (λ m. m < next) (keys_of (remove_entry (is_at (nat_cmp n)) es))
    below [] h = tt
    below (x ∷ xs) h = drop_one (is_at (nat_cmp n) x.0) x xs (remove_entry (is_at (nat_cmp n)) xs) h.0 h.1 (below xs h.1)

    first : (x y : Bool) → (x && not y) ≡ true → x ≡ true
    first true y t = refl
    first false y t = absurd cc

    gone : (v w : Bool) → (v && not (w && true)) ≡ true → w ≡ false
    gone true true t = absurd cc
    gone true false t = refl
    gone false w t = absurd cc

    by_test : (j : StoredKey) (m : ℕ) (u : Bool) → (n == m) ≡ u → (a j m && not (pointwise nat_eq k j && u)) ≡ true → option_map (λ x. x.key) (lookup (is_at (nat_cmp m)) (remove_entry (is_at (nat_cmp n)) old.entries)) ≡ Some j
    by_test j m false x t = ap (option_map (λ f. f.key)) (key-removed n m x old.entries) ∙ s.known j m (first (a j m) (pointwise nat_eq k j && false) t)
    by_test j m true x t =
        let here : key_at old m ≡ Some j = s.known j m (first (a j m) (pointwise nat_eq k j && true) t) in
        let there : key_at old m ≡ Some k = subst (λ (i : ℕ). key_at old i ≡ Some k) (eqb-true n m x) g in
        let other : pointwise nat_eq k j ≡ false = gone (a j m) (pointwise nat_eq k j) t in
        let same : k ≡ j = cc in
        let still : pointwise nat_eq k j ≡ true = subst (λ (i : StoredKey). pointwise nat_eq k i ≡ true) same (same_bytes-tells.itself k) in
        absurd cc
