-- A tree of names and values as a finite map.
use Rattle.std.proofs.Common.{◌≡◌, Option, ℕ, List, [], ◌∷◌, ◌++◌, Bool, true, false, ◌&&◌, cond, Some, None, length, ap, sym, ◌∙◌, refl, subst, append_assoc, arith}
use lib.Dec.{T}
use Rattle.std.specs.Prelude.{◌==◌}
use Rattle.std.specs.Ordering.{nat_cmp, is_lt, is_eq, eq_by_cmp}
use Rattle.std.specs.declared.cmp.Ordering.{Ordering}
use Rattle.std.specs.declared.cmp.Ordering.TheVariants.{Less, Equal, Greater}
use Rattle.std.specs.Cmp.Lexicographic.{slice_cmp}
use Rattle.std.specs.List.{AllByRecursion}
use Rattle.std.specs.List.Sorted.{IsStrictlySortedBy}
use Rattle.std.specs.Map.{keys_of, lookup}
use Rattle.std.specs.BTreeMap.{is_at}
use Rattle.std.specs.FinMap.{entries, len, get, insert, empty, find, is_sorted, from_entries, entries_sorted, get-empty, get-entries, get-from_entries, get-insert, len-entries, len-empty, same_map, IsAntisymmetric, slice_cmp-IsAntisymmetric, nat_cmp-IsAntisymmetric}
use Rattle.std.specs.FinMap.Entries.{below_all, same_entries}
use Rattle.std.proofs.lemmas.Grind.{flat_map-append}
use Rattle.std.proofs.lemmas.Bool.Decides.{nat_tests}
use Rattle.std.proofs.lemmas.Cmp.{nat_list_cmp_total, eq_by_cmp_equiv}
use Rattle.std.proofs.lemmas.Map.Keys.{sorted_head, sorted_tail}
use Rattle.cache_words.specs.Variance.{salted, variance_text, variance_hash, Values}
use Rattle.cache_words.specs.Blake.{blake2b_128}

abbrev Pairs : Type 0
Pairs = List (List ℕ × List ℕ)

abbrev order : List ℕ → List ℕ → Ordering
order = slice_cmp nat_cmp

exact : IsAntisymmetric order
exact = slice_cmp-IsAntisymmetric nat_cmp-IsAntisymmetric

both : (a b : Bool) → T a → T b → T (a && b)
both true b h k = k
both false b h k = h

below_tree : (k : List ℕ) (es : Pairs) → AllByRecursion (λ y. order k y ≡ Less) (keys_of es) → T (below_all order k es)
below_tree k [] h = tt
below_tree k (e ∷ es) h = both _ _ (subst (λ r. T (is_lt r)) (sym h.0) tt) (below_tree k es h.1)

sorted_tree : (es : Pairs) → IsStrictlySortedBy order (keys_of es) → T (is_sorted order es)
sorted_tree [] h = tt
sorted_tree (e ∷ es) h =
    both _ _ (below_tree e.0 es (sorted_head order e.0 (keys_of es) h)) (sorted_tree es (sorted_tail order e.0 (keys_of es) h))

-- a tree's entries are those of the map that they make
pub entries_tree : (es : Pairs) → IsStrictlySortedBy order (keys_of es) → entries (from_entries {R = order} es) ≡ es
entries_tree es h =
    same_entries order nat_list_cmp_total exact (entries (from_entries {R = order} es)) es (entries_sorted (from_entries es)) (sorted_tree es h)
    (λ q. sym (get-entries (from_entries es) q) ∙ get-from_entries nat_list_cmp_total es q)

find_tree : (es : Pairs) (q : List ℕ) → find order q es ≡ lookup (is_at (order q)) es
find_tree [] q = refl
find_tree (e ∷ es) q = ap (cond (is_at (order q) e.0) (Some e.1)) (find_tree es q)

get_tree : (es : Pairs) (q : List ℕ) → get (from_entries {R = order} es) q ≡ lookup (is_at (order q)) es
get_tree es q = get-from_entries nat_list_cmp_total es q ∙ find_tree es q

-- entries that differ at one name make maps that differ there
pub one_added : (es fs : Pairs) (k v : List ℕ)
    → ((q : List ℕ) → lookup (is_at (order q)) fs ≡ cond (is_at (order k) q) (Some v) (lookup (is_at (order q)) es))
    → from_entries {R = order} fs ≡ insert (from_entries es) k v
one_added es fs k v h =
    same_map nat_list_cmp_total exact _ _ (λ q.
    get_tree fs q ∙ h q ∙ ap (λ b. cond b (Some v) (lookup (is_at (order q)) es)) ((eq_by_cmp_equiv nat_list_cmp_total).symm k q)
    ∙ sym (get-insert nat_list_cmp_total (from_entries es) k v q ∙ ap (cond (is_at (order q) k) (Some v)) (get_tree es q)))

-- a map without names is the empty one, and no other is
pub no_names : (es : Pairs) → length es ≡ 0 → from_entries {R = order} es ≡ empty
no_names [] h = refl
no_names (e ∷ es) h = absurd (omega arith)

pub some_name : (es : Pairs) → from_entries {R = order} es ≡ empty → length es ≡ 0
some_name [] h = refl
some_name (e ∷ es) h =
    let same : eq_by_cmp order e.0 e.0 ≡ true = (eq_by_cmp_equiv nat_list_cmp_total).refl e.0 in
    let there : get (insert (from_entries {R = order} es) e.0 e.1) e.0 ≡ Some e.1 =
    get-insert nat_list_cmp_total (from_entries es) e.0 e.1 e.0 ∙ rw same refl in
    let none : get (from_entries {R = order} (e ∷ es)) e.0 ≡ None = ap (λ (m : Values). get m e.0) h ∙ get-empty order e.0 in
    cc

-- what finalize returns
pub variance_none : (es : Pairs) (m : Values) → from_entries es ≡ m → length es ≡ 0 → None ≡ variance_hash m
variance_none es m is none =
    let zero : len m ≡ 0 = ap (λ (m : Values). len m) (sym is ∙ no_names es none) ∙ len-empty order (List ℕ) in
    rw zero refl

pub variance_some : (es : Pairs) (m : Values) (h : List ℕ) → from_entries es ≡ m → IsStrictlySortedBy order (keys_of es)
    → (length es ≡ 0 → ⊥) → h ≡ blake2b_128 (variance_text es) → Some h ≡ variance_hash m
variance_some es m h is sorted some e =
    let all : entries m ≡ es = ap (λ (m : Values). entries m) (sym is) ∙ entries_tree es sorted in
    let many : (len m == 0) ≡ false = rw (len-entries, all) (grind (arith, nat_tests)) in
    rw (many, all, e) refl

-- one more name with its value
pub text_more : (pairs : Pairs) (n v : List ℕ)
    → variance_text (pairs ++ (n, v) ∷ []) ≡ (((variance_text pairs ++ n) ++ (0 ∷ [])) ++ v) ++ (0 ∷ [])
text_more pairs n v = rw (flat_map-append salted pairs ((n, v) ∷ [])) (simp append_assoc)

tie : (r : Ordering) → is_eq r ≡ true → r ≡ Equal
tie Less e = absurd cc
tie Equal e = refl
tie Greater e = absurd cc

same_name : (q a : List ℕ) → eq_by_cmp order q a ≡ true → q ≡ a
same_name q a e = exact q a (tie (order q a) e)

swapped : (q a b x y : List ℕ) (old : Option (List ℕ)) → (a ≡ b → ⊥) → (s t : Bool) → eq_by_cmp order q a ≡ s → eq_by_cmp order q b ≡ t
    → cond t (Some y) (cond s (Some x) old) ≡ cond s (Some x) (cond t (Some y) old)
swapped q a b x y old apart true true is and = absurd (apart (sym (same_name q a is) ∙ same_name q b and))
swapped q a b x y old apart true false is and = refl
swapped q a b x y old apart false true is and = refl
swapped q a b x y old apart false false is and = refl

-- the order of two insertions at different names doesn't matter
pub inserts_swap : (m : Values) (a b x y : List ℕ) → (a ≡ b → ⊥) → insert (insert m a x) b y ≡ insert (insert m b y) a x
inserts_swap m a b x y apart =
    same_map nat_list_cmp_total exact _ _ (λ q.
    let left : get (insert (insert m a x) b y) q ≡ cond (eq_by_cmp order q b) (Some y) (cond (eq_by_cmp order q a) (Some x) (get m q)) =
    get-insert nat_list_cmp_total (insert m a x) b y q ∙ ap (cond (eq_by_cmp order q b) (Some y)) (get-insert nat_list_cmp_total m a x q) in
    let right : get (insert (insert m b y) a x) q ≡ cond (eq_by_cmp order q a) (Some x) (cond (eq_by_cmp order q b) (Some y) (get m q)) =
    get-insert nat_list_cmp_total (insert m b y) a x q ∙ ap (cond (eq_by_cmp order q a) (Some x)) (get-insert nat_list_cmp_total m b y q) in
    left ∙ swapped q a b x y (get m q) apart (eq_by_cmp order q a) (eq_by_cmp order q b) refl refl ∙ sym right)
