-- What finishes and removals do to the bodies that keys have.
use Rattle.std.proofs.Common.{◌≡◌, refl, ap, sym, ◌∙◌, true, false, subst, cond}
use Rattle.std.specs.Prelude.{Bool, List, Some, None, option_map, not, find, filter, map}
use Rattle.cache_entries.specs.Keys.{same_bytes}
use Rattle.cache_entries.specs.SameEntry.{same_bytes-tells}
use Rattle.cache_changes.specs.Changes.{StoredKey, is_key}
use Rattle.cache_changes.specs.Store.{Stored, Store, is_of, body_at, with_body}
use Rattle.cache_changes.proofs.RowLaws.{find-kept, find-gone, not_true, not_false}
use Rattle.cache_store.specs.Agree.{settled, settled_flying, Agree}

pub same-sym : (j k : StoredKey) → same_bytes j k ≡ same_bytes k j
same-sym j k = by_test (same_bytes j k) (same_bytes k j) refl refl
  where
    by_test : (s t : Bool) → same_bytes j k ≡ s → same_bytes k j ≡ t → s ≡ t
    by_test true true e f = refl
    by_test false false e f = refl
    by_test true false e f = let same : j ≡ k = same_bytes-tells.equal j k e in let back : same_bytes k j ≡ true = subst (λ (x : StoredKey). same_bytes k x ≡ true) (sym same) (same_bytes-tells.itself k) in sym back ∙ f
    by_test false true e f = let same : k ≡ j = same_bytes-tells.equal k j f in let back : same_bytes j k ≡ true = subst (λ (x : StoredKey). same_bytes j x ≡ true) (sym same) (same_bytes-tells.itself j) in sym e ∙ back

-- the same bodies by look-up and the same writes in flight are one
pub agree-by : {M : Type 0} (s t : Store M) → ((k : StoredKey) → body_at k s ≡ body_at k t) → s.flying ≡ t.flying → Agree s t
agree-by s t h e = record { bodies = λ k. ap (option_map settled) (h k); flying = ap (map settled_flying) e }

other_key : (k j i : StoredKey) → same_bytes k j ≡ false → same_bytes i j ≡ true → same_bytes i k ≡ false
other_key k j i h t = by_test (same_bytes i k) refl
  where
    by_test : (v : Bool) → same_bytes i k ≡ v → v ≡ false
    by_test false e = refl
    by_test true e =
        let one : i ≡ k = same_bytes-tells.equal i k e in
        let same : same_bytes k j ≡ true = subst (λ (x : StoredKey). same_bytes x j ≡ true) one t in
        absurd cc

-- a body takes the place of what its key had
pub body-put : {M : Type 0} (x : Stored M) (xs : List (Stored M)) (j : StoredKey) → find (is_of j) (with_body (Some x) xs) ≡ cond (same_bytes x.write.key j) (Some x) (find (is_of j) xs)
body-put {M = M} x xs j = by_test (same_bytes x.write.key j) refl
  where
    by_test : (v : Bool) → same_bytes x.write.key j ≡ v → cond v (Some x) (find (is_of j) (filter (λ y. not (is_of x.write.key y)) xs)) ≡ cond v (Some x) (find (is_of j) xs)
    by_test true e = refl
    by_test false e = find-kept (is_of j) (λ y. not (is_of x.write.key y)) xs (λ y t. not_false (is_of x.write.key y) (other_key x.write.key j y.write.key e t))

-- the bodies of a key go
pub body-removed : {M : Type 0} (k : StoredKey) (xs : List (Stored M)) (j : StoredKey) → find (is_of j) (filter (λ x. not (is_key x.write.key (Some k))) xs) ≡ cond (same_bytes k j) None (find (is_of j) xs)
body-removed {M = M} k xs j = by_test (same_bytes k j) refl
  where
    by_test : (v : Bool) → same_bytes k j ≡ v → find (is_of j) (filter (λ x. not (is_key x.write.key (Some k))) xs) ≡ cond v None (find (is_of j) xs)
    by_test true e = find-gone (is_of j) (λ x. not (is_key x.write.key (Some k))) xs
        (λ x t. not_true (same_bytes k x.write.key) (subst (λ (i : StoredKey). same_bytes k i ≡ true) (same_bytes-tells.equal k j e ∙ sym (same_bytes-tells.equal x.write.key j t)) (same_bytes-tells.itself k)))
    by_test false e = find-kept (is_of j) (λ x. not (is_key x.write.key (Some k))) xs (λ x t. not_false (same_bytes k x.write.key) (same-sym k x.write.key ∙ other_key k j x.write.key e t))
