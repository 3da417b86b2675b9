-- Rows of which one has other data.
use Rattle.std.proofs.Common.{◌≡◌, ℕ, ◌+◌, cond, eqb, inl, inr, List, [], ◌∷◌, ◌++◌, length, map, refl, ap, ◌∙◌, arith}
use Rattle.std.proofs.lemmas.Bool.{cases_eq, eq-eqb, ne_eqb}
use Rattle.std.proofs.lemmas.List.Sums.{sum_by-cons}
use Rattle.std.proofs.lemmas.List.{length-map}
use Rattle.lru_core.specs.declared.rows.Row.{Row}
use Rattle.lru_core.specs.Rows.{only, others, put, reweighed, total_weight, a_row}
use Rattle.lru_core.proofs.Filters.{one_row, weight_parts, only-reweighed, others-reweighed}

module _ {T : Type 0} where
  only-put : (k w : ℕ) (d : T) (xs : List (Row T)) → only k (put (a_row k d w) xs) ≡ map {A = Row T} {B = Row T} (λ r. a_row k d w) (only k xs)
  only-put k w d [] = refl
  only-put k w d (r ∷ xs) = elim (cases_eq r.key k) [
    | inl e ↦ rw (eq-eqb r.key k e) (rw (eq-eqb k k refl) (ap (λ l. a_row k d w ∷ l) (only-put k w d xs)))
    | inr n ↦ rw (ne_eqb r.key k n) (rw (ne_eqb r.key k n) (only-put k w d xs))
  ]

  others-put : (k w : ℕ) (d : T) (xs : List (Row T)) → others k (put (a_row k d w) xs) ≡ others k xs
  others-put k w d [] = refl
  others-put k w d (r ∷ xs) = elim (cases_eq r.key k) [
    | inl e ↦ rw (eq-eqb r.key k e) (rw (eq-eqb k k refl) (others-put k w d xs))
    | inr n ↦ rw (ne_eqb r.key k n) (rw (ne_eqb r.key k n) (ap (λ l. r ∷ l) (others-put k w d xs)))
  ]

  -- a row put into the place of another of its key is the row of that key
  pub put_there : (k w : ℕ) (d : T) (row : Row T) (xs : List (Row T)) → only k xs ≡ row ∷ [] → only k (put (a_row k d w) xs) ≡ a_row k d w ∷ []
  put_there k w d row xs h = only-put k w d xs ∙ ap (map {A = Row T} {B = Row T} (λ r. a_row k d w)) h

  -- and the sums
  pub weight-put : (k w : ℕ) (d : T) (row : Row T) (xs : List (Row T)) → only k xs ≡ row ∷ []
      → (total_weight (put (a_row k d w) xs) ≡ w + total_weight (others k xs)) × (length (put (a_row k d w) xs) ≡ length xs)
  weight-put k w d row xs h =
      let p = weight_parts k (put (a_row k d w) xs) in
      let q : total_weight (only k (put (a_row k d w) xs)) ≡ w = ap total_weight (put_there k w d row xs h) ∙ (sum_by-cons (λ r. r.weight) (a_row k d w) [] ∙ omega arith) in
      let t : total_weight (others k (put (a_row k d w) xs)) ≡ total_weight (others k xs) = ap total_weight (others-put k w d xs) in
      (omega (arith, p, q, t), length-map xs (λ r. cond (eqb r.key k) (a_row k d w) r))

  -- such a row with another weight, moved to the front
  pub updated_first : (k v w : ℕ) (d : T) (row : Row T) (xs : List (Row T)) → only k xs ≡ row ∷ []
      → only k (reweighed k w (put (a_row k d v) xs)) ++ others k (reweighed k w (put (a_row k d v) xs)) ≡ a_row k d w ∷ others k xs
  updated_first k v w d row xs h =
      let ys : List (Row T) = put (a_row k d v) xs in
      let o : only k (reweighed k w ys) ≡ a_row k d w ∷ [] = only-reweighed k w ys ∙ ap (map {A = Row T} {B = Row T} (λ r. record r { weight = w })) (put_there k v d row xs h) in
      let t : others k (reweighed k w ys) ≡ others k xs = others-reweighed k w ys ∙ others-put k v d xs in
      rw (o, t) refl

  -- the sums of the rows then
  pub weight-updated : (k v w : ℕ) (d : T) (row : Row T) (xs : List (Row T)) → only k xs ≡ row ∷ []
      → (total_weight (only k (reweighed k w (put (a_row k d v) xs)) ++ others k (reweighed k w (put (a_row k d v) xs))) ≡ w + total_weight (others k xs))
      × (length (only k (reweighed k w (put (a_row k d v) xs)) ++ others k (reweighed k w (put (a_row k d v) xs))) ≡ length xs)
  weight-updated k v w d row xs h =
      let f = updated_first k v w d row xs h in
      let o = one_row k xs row h in
      (ap total_weight f ∙ sum_by-cons (λ r. r.weight) (a_row k d w) (others k xs), ap length f ∙ omega (arith, o.3))
