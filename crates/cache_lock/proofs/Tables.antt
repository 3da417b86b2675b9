-- Hash maps of numbers and of hashes, seen as finite maps.
use Rattle.std.proofs.Common.{◌≡◌, ◌↔◌, ℕ, List, [], ◌∷◌, length, refl, ap, sym, ◌∙◌, cond, Bool, arith}
use Rattle.std.specs.Prelude.{Option, Some, None, nat_eq, Result, Ok, Err, IsSome, IsOk, OnErr}
use Rattle.std.specs.declared.cmp.Ordering.{Ordering}
use Rattle.std.specs.Ordering.{nat_cmp, eq_by_cmp}
use Rattle.std.specs.Cmp.{IsTotalOrder, unsigned_ties}
use Rattle.std.specs.Cmp.Lexicographic.{pointwise, slice_cmp, lists_ties}
use Rattle.std.proofs.lemmas.Cmp.{eq_by_cmp_equiv}
use Rattle.std.specs.FinMap.{IsAntisymmetric, empty, get, insert, remove, from_entries, find, same_map, get-empty, get-from_entries, get-insert, get-remove, nat_cmp-IsAntisymmetric, slice_cmp-IsAntisymmetric}
use Rattle.std.specs.Map.{lookup}

module _ {K X : Type 0} {R : K → K → Ordering} {eq : K → K → Bool} (total : IsTotalOrder R) (same : IsAntisymmetric R) (ties : (x y : K) → eq x y ≡ eq_by_cmp R x y) where
  -- the first entry of a key, found by either test
  find-lookup : (q : K) (es : List (K × X)) → find R q es ≡ lookup (eq q) es
  find-lookup q [] = refl
  find-lookup q (e ∷ es) = rw (← ties q e.0, find-lookup q es) refl

  pub get-table : (es : List (K × X)) (q : K) → get (from_entries {R = R} es) q ≡ lookup (eq q) es
  get-table es q = get-from_entries total es q ∙ find-lookup q es

  changed_at : (q k : K) (at a b : Option X) → a ≡ b → cond (eq_by_cmp R q k) at a ≡ cond (eq k q) at b
  changed_at q k at a b e = ap (λ t. cond t at a) ((eq_by_cmp_equiv total).symm q k ∙ sym (ties k q)) ∙ ap (cond (eq k q) at) e

  -- the table after a change at one key is the changed map
  pub insert-table : (old new : List (K × X)) (k : K) (v : X) → ((q : K) → lookup (eq q) new ≡ cond (eq k q) (Some v) (lookup (eq q) old)) → from_entries {R = R} new ≡ insert (from_entries old) k v
  insert-table old new k v h = same_map total same _ _ (λ q. get-table new q ∙ h q ∙ sym (get-insert total (from_entries old) k v q ∙ changed_at q k (Some v) _ _ (get-table old q)))

  pub remove-table : (old new : List (K × X)) (k : K) → ((q : K) → lookup (eq q) new ≡ cond (eq k q) None (lookup (eq q) old)) → from_entries {R = R} new ≡ remove (from_entries old) k
  remove-table old new k h = same_map total same _ _ (λ q. get-table new q ∙ h q ∙ sym (get-remove total (from_entries old) k q ∙ changed_at q k None _ _ (get-table old q)))

  -- the map of a table is empty where the table is
  pub empty-table : (es : List (K × X)) → (length es ≡ 0) ↔ (from_entries {R = R} es ≡ empty)
  empty-table [] = ((λ e. refl), (λ e. refl))
  empty-table (x ∷ xs) = (
    (λ e. absurd (omega (arith, e))),
    λ e.
        let found : get (from_entries {R = R} (x ∷ xs)) x.0 ≡ Some x.1 = get-table (x ∷ xs) x.0 ∙ ap (λ (v : Bool). cond v (Some x.1) (lookup (eq x.0) xs)) (ties x.0 x.0 ∙ (eq_by_cmp_equiv total).refl x.0) in
        let none : get (from_entries {R = R} (x ∷ xs)) x.0 ≡ None = ap (λ m. get m x.0) e ∙ get-empty R x.0 in
        absurd (let never : Some x.1 ≡ None = sym found ∙ none in cc),
  )

pub numbers_tie : (x y : ℕ) → nat_eq x y ≡ eq_by_cmp nat_cmp x y
numbers_tie x y = unsigned_ties x y

pub keys_tie : (x y : List ℕ) → pointwise nat_eq x y ≡ eq_by_cmp (slice_cmp nat_cmp) x y
keys_tie x y = lists_ties nat_cmp numbers_tie x y

pub keys_same : IsAntisymmetric (slice_cmp nat_cmp)
keys_same = slice_cmp-IsAntisymmetric nat_cmp-IsAntisymmetric

-- an insertion at a key that is there doesn't fail
pub put_is_ok : {A E X : Type 0} (r : Result A E) (at : Option X) → IsSome at → OnErr r (at ≡ None) → IsOk r
put_is_ok (Ok x) at some none = refl
put_is_ok (Err e) None some none = absurd cc
put_is_ok (Err e) (Some x) some none = absurd cc
