-- What the laws rest on.
use Rattle.std.proofs.Common.{◌≡◌, ℕ, inl, inr, List, [], ◌∷◌, ◌++◌, map, refl, ap, ◌∙◌}
use Rattle.std.proofs.lemmas.Bool.{cases_eq, eq-eqb, ne_eqb}
use Rattle.std.proofs.lemmas.List.{append-nil}
use Rattle.lru_core.specs.declared.rows.Row.{Row}
use Rattle.lru_core.specs.Rows.{only, others, reweighed}
use Rattle.lru_core.proofs.Filters.{only-append, others-append, only-others, others_all}

module _ {T : Type 0} where
  only-only : (k : ℕ) (xs : List (Row T)) → only k (only k xs) ≡ only k xs
  only-only k [] = refl
  only-only k (r ∷ xs) = elim (cases_eq r.key k) [
    | inl e ↦ rw (eq-eqb r.key k e) (rw (eq-eqb r.key k e) (ap (λ l. r ∷ l) (only-only k xs)))
    | inr n ↦ rw (ne_eqb r.key k n) (only-only k xs)
  ]

  others-only : (k : ℕ) (xs : List (Row T)) → others k (only k xs) ≡ []
  others-only k [] = refl
  others-only k (r ∷ xs) = elim (cases_eq r.key k) [
    | inl e ↦ rw (eq-eqb r.key k e) (rw (eq-eqb r.key k e) (others-only k xs))
    | inr n ↦ rw (ne_eqb r.key k n) (others-only k xs)
  ]

  pub moved_once : (k : ℕ) (xs : List (Row T)) → only k (only k xs ++ others k xs) ++ others k (only k xs ++ others k xs) ≡ only k xs ++ others k xs
  moved_once k xs =
      let a : only k (only k xs ++ others k xs) ≡ only k xs = only-append k (only k xs) (others k xs) ∙ (rw (only-only k xs, only-others k xs) (append-nil (only k xs))) in
      let b : others k (only k xs ++ others k xs) ≡ others k xs = others-append k (only k xs) (others k xs) ∙ (rw (others-only k xs, others_all k (others k xs) (only-others k xs)) refl) in
      rw (a, b) refl

  pub keys-reweighed : (k w : ℕ) (xs : List (Row T)) → map (λ r. r.key) (reweighed k w xs) ≡ map (λ r. r.key) xs
  keys-reweighed k w [] = refl
  keys-reweighed k w (r ∷ xs) = elim (cases_eq r.key k) [
    | inl e ↦ rw (eq-eqb r.key k e) (ap (λ l. r.key ∷ l) (keys-reweighed k w xs))
    | inr n ↦ rw (ne_eqb r.key k n) (ap (λ l. r.key ∷ l) (keys-reweighed k w xs))
  ]
