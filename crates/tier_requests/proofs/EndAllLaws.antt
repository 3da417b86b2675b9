-- How the open requests end one after another.
use Rattle.std.proofs.Common.{◌≡◌, ℕ, List, [], ◌∷◌, ◌++◌, Some, None, Bool, true, false, cond, refl, ap, sym, ◌∙◌, subst, Ordering, Less, Equal, Greater, arith}
use Rattle.std.specs.Prelude.{◌==◌, nat_eq, map}
use Rattle.std.specs.List.{fold}
use Rattle.std.specs.List.Sorted.{IsPermutation}
use Rattle.std.specs.FinMap.{FinMap, empty, entries, values, get, insert, remove, find, put, same_map, get-insert, get-remove, get-entries, entries-insert, len-entries, len-empty, nat_cmp-IsAntisymmetric}
use Rattle.std.specs.FinMap.Entries.{by_order}
use Rattle.std.specs.Ordering.{nat_cmp, is_eq, eq_by_cmp}
use Rattle.std.specs.Cmp.{unsigned_tied}
use Rattle.std.proofs.lemmas.Cmp.{nat_cmp_total, eq_by_cmp_equiv}
use Rattle.std.specs.Map.{lookup}
use Rattle.std.proofs.lemmas.Bool.{eqb-true}
use Rattle.std.proofs.lemmas.Bool.Decides.{nat_tests}
use Rattle.std.proofs.lemmas.List.{nil_from_length}
use Rattle.std.proofs.lemmas.List.Sums.{fold-append}
use Rattle.std.proofs.lemmas.List.Sorted.{IsPermutation-refl, IsPermutation-trans, IsPermutation-cons, IsPermutation-middle, IsPermutation-pop_more}
use Rattle.cache_lock.specs.State.{LockState}
use Rattle.tier_model.specs.Shelf.{Shelf}
use Rattle.tier_model.specs.State.{Request}
use Rattle.tier_model.proofs.Tables.{get-table, remove-table}
use Rattle.tier_requests.proofs.TableLaws.{map_of}
use Rattle.tier_requests.specs.Ends.{shelf_after, lock_after, EndsAll}

-- a value that is put at a new key is one more
values_put : (k : ℕ) (q : Request) (es : List (ℕ × Request)) → find nat_cmp k es ≡ None → IsPermutation (map (λ e. e.1) (put nat_cmp k q es)) (q ∷ map (λ e. e.1) es)
values_put k q [] none = IsPermutation-refl (q ∷ [])
values_put k q (e ∷ es) none = by_place (values_put k q es) (nat_cmp k e.0) none
  where
    by_place : (find nat_cmp k es ≡ None → IsPermutation (map (λ e. e.1) (put nat_cmp k q es)) (q ∷ map (λ e. e.1) es)) → (r : Ordering) → cond (is_eq r) (Some e.1) (find nat_cmp k es) ≡ None
        → IsPermutation (map (λ e. e.1) (by_order r ((k, q) ∷ e ∷ es) ((e.0, q) ∷ es) (e ∷ put nat_cmp k q es))) (q ∷ e.1 ∷ map (λ e. e.1) es)
    by_place ih Less n = IsPermutation-refl (q ∷ e.1 ∷ map (λ e. e.1) es)
    by_place ih Equal n = absurd cc
    by_place ih Greater n = IsPermutation-trans _ _ _ (IsPermutation-cons e.1 _ _ (ih n)) (IsPermutation-middle (e.1 ∷ []) q (map (λ e. e.1) es))

tied : (q k : ℕ) → eq_by_cmp nat_cmp q k ≡ (k == q)
tied q k = (eq_by_cmp_equiv nat_cmp_total).symm q k ∙ unsigned_tied k q

-- what is taken out of a map leaves the others
values_without : (m : FinMap nat_cmp Request) (k : ℕ) (q : Request) → get m k ≡ Some q → IsPermutation (values m) (q ∷ values (remove m k))
values_without m k q there =
    let left = remove m k in
    let none : find nat_cmp k (entries left) ≡ None = sym (get-entries left k) ∙ get-remove nat_cmp_total m k k ∙ ap (λ t. cond t None (get m k)) (tied k k ∙ itself) in
    let whole : m ≡ insert left k q =
    same_map nat_cmp_total nat_cmp-IsAntisymmetric m (insert left k q)
    (λ j. by_key j (k == j) refl ∙ sym (ap (λ t. cond t (Some q) (cond t None (get m j))) (tied j k)) ∙ ap (cond (eq_by_cmp nat_cmp j k) (Some q)) (sym (get-remove nat_cmp_total m k j))
    ∙ sym (get-insert nat_cmp_total left k q j)) in
    subst (λ (es : List (ℕ × Request)). IsPermutation (map (λ e. e.1) es) (q ∷ values left)) (sym (ap entries whole ∙ entries-insert nat_cmp_total left k q)) (values_put k q (entries left) none)
  where
    itself : (k == k) ≡ true
    itself = grind (arith, nat_tests)

    by_key : (j : ℕ) (t : Bool) → (k == j) ≡ t → get m j ≡ cond t (Some q) (cond t None (get m j))
    by_key j true e = ap (get m) (sym (eqb-true k j e)) ∙ there
    by_key j false e = refl

-- these requests ended, and those of the map are left
pub record EndsSoFar (requests : FinMap nat_cmp Request) (old : Shelf) (s : LockState) (left : FinMap nat_cmp Request) (new : Shelf) (s' : LockState) : Type 0 where
  pub ended : List Request
  pub each : IsPermutation (values requests) (ended ++ values left)
  pub shelf : new ≡ fold shelf_after old ended
  pub lock : s' ≡ fold lock_after s ended

pub ends-none : (requests : FinMap nat_cmp Request) (old : Shelf) (s : LockState) → EndsSoFar requests old s requests old s
ends-none requests old s = record { ended = []; each = IsPermutation-refl (values requests); shelf = refl; lock = refl }

-- one more ends
pub ends-one : (requests : FinMap nat_cmp Request) (old : Shelf) (s : LockState) (left : FinMap nat_cmp Request) (new : Shelf) (s' : LockState) (k : ℕ) (q : Request) → get left k ≡ Some q
    → EndsSoFar requests old s left new s' → EndsSoFar requests old s (remove left k) (shelf_after new q) (lock_after s' q)
ends-one requests old s left new s' k q there h = record {
  ended = h.ended ++ q ∷ [];
  each = IsPermutation-pop_more (values requests) h.ended (values left) (values (remove left k)) q h.each (values_without left k q there);
  shelf = ap (λ x. shelf_after x q) h.shelf ∙ sym (fold-append shelf_after old h.ended (q ∷ []));
  lock = ap (λ x. lock_after x q) h.lock ∙ sym (fold-append lock_after s h.ended (q ∷ []));
}

-- one is taken out of the table, and ends
pub ends-taken : (requests : FinMap nat_cmp Request) (old : Shelf) (s : LockState) (es es' : List (ℕ × Request)) (new new' : Shelf) (s1 s2 : LockState) (k : ℕ) (q : Request) → lookup (nat_eq k) es ≡ Some q
    → ((j : ℕ) → lookup (nat_eq j) es' ≡ cond (nat_eq k j) None (lookup (nat_eq j) es)) → new' ≡ shelf_after new q → s2 ≡ lock_after s1 q
    → EndsSoFar requests old s (map_of es) new s1 → EndsSoFar requests old s (map_of es') new' s2
ends-taken requests old s es es' new new' s1 s2 k q there out shelf lock h =
    subst (λ (m : FinMap nat_cmp Request). EndsSoFar requests old s m new' s2) (sym (remove-table es es' k out))
    (subst (λ (x : Shelf). EndsSoFar requests old s (remove (map_of es) k) x s2) (sym shelf)
    (subst (λ (x : LockState). EndsSoFar requests old s (remove (map_of es) k) (shelf_after new q) x) (sym lock) (ends-one requests old s (map_of es) new s1 k q (get-table es k ∙ there) h)))

-- where none is left all have ended
ends_all : (requests : FinMap nat_cmp Request) (old : Shelf) (s : LockState) (new : Shelf) (s' : LockState) → EndsSoFar requests old s empty new s' → EndsAll requests old s new s'
ends_all requests old s new s' h =
    let none : entries (empty {K = ℕ} {X = Request} {R = nat_cmp}) ≡ [] = nil_from_length _ (sym (len-entries (empty {X = Request} {R = nat_cmp})) ∙ len-empty nat_cmp Request) in
    let all : h.ended ++ values (empty {X = Request} {R = nat_cmp}) ≡ h.ended = ap (λ (es : List (ℕ × Request)). h.ended ++ map (λ e. e.1) es) none ∙ append_nil h.ended in
    record { order = h.ended; each = subst (IsPermutation (values requests)) all h.each; shelf = h.shelf; lock = h.lock }
  where
    append_nil : (xs : List Request) → xs ++ [] ≡ xs
    append_nil [] = refl
    append_nil (x ∷ xs) = ap (λ (ys : List Request). x ∷ ys) (append_nil xs)

pub ends-left : (requests : FinMap nat_cmp Request) (old : Shelf) (s : LockState) (es : List (ℕ × Request)) (new : Shelf) (s' : LockState) → es ≡ [] → EndsSoFar requests old s (map_of es) new s'
    → EndsAll requests old s new s'
ends-left requests old s es new s' none h = ends_all requests old s new s' (subst (λ (es : List (ℕ × Request)). EndsSoFar requests old s (map_of es) new s') none h)
