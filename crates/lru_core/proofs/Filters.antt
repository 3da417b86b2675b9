-- The row of a key and the rows of others, in plain lists of rows.
use Rattle.std.proofs.Common.{max, take, drop, ◌≢◌, IsTrue, ◌↔◌, is_some, slice_get, Option, Some, None, ◌≡◌, ℕ, Bool, true, cond, not, ◌+◌, eqb, inl, inr, List, [], ◌∷◌, ◌++◌, length, map, sym, refl, ap, ◌∙◌, arith}
use Rattle.std.proofs.lemmas.Bool.{cases_eq, eq-eqb, ne_eqb, true≢false, false_from_ne_true, not_from_false}
use Rattle.std.proofs.lemmas.List.Filters.{sum_by-filter_both}
use Rattle.std.proofs.lemmas.List.Sums.{sum_by-cons, sum_by-append}
use Rattle.std.proofs.lemmas.List.{length-append, take-append-drop, length-map}
use Rattle.std.specs.Option.{option_to_list, option_copied}
use Rattle.std.specs.Borrow.{Bor}
use Rattle.lru_core.specs.declared.rows.Row.{Row}
use Rattle.lru_core.specs.Rows.{only, others, put, reweighed, total_weight, capped, incremented}

module _ {T : Type 0} where
  pub only-append : (k : ℕ) (xs ys : List (Row T)) → only k (xs ++ ys) ≡ only k xs ++ only k ys
  only-append k [] ys = refl
  only-append k (r ∷ xs) ys = elim (cases_eq r.key k) [
    | inl e ↦ rw (eq-eqb r.key k e) (ap (λ l. r ∷ l) (only-append k xs ys))
    | inr n ↦ rw (ne_eqb r.key k n) (only-append k xs ys)
  ]

  pub others-append : (k : ℕ) (xs ys : List (Row T)) → others k (xs ++ ys) ≡ others k xs ++ others k ys
  others-append k [] ys = refl
  others-append k (r ∷ xs) ys = elim (cases_eq r.key k) [
    | inl e ↦ rw (eq-eqb r.key k e) (others-append k xs ys)
    | inr n ↦ rw (ne_eqb r.key k n) (ap (λ l. r ∷ l) (others-append k xs ys))
  ]

  -- a list without rows of k is all others
  pub others_all : (k : ℕ) (xs : List (Row T)) → only k xs ≡ [] → others k xs ≡ xs
  others_all k [] h = refl
  others_all k (r ∷ xs) h = elim (cases_eq r.key k) [
    | inl e ↦ absurd (let f = rw (eq-eqb r.key k e) at h in cc)
    | inr n ↦ rw (ne_eqb r.key k n) (ap (λ l. r ∷ l) (others_all k xs (rw (ne_eqb r.key k n) at h)))
  ]

  pub only-others : (k : ℕ) (xs : List (Row T)) → only k (others k xs) ≡ []
  only-others k [] = refl
  only-others k (r ∷ xs) = elim (cases_eq r.key k) [
    | inl e ↦ rw (eq-eqb r.key k e) (only-others k xs)
    | inr n ↦ rw (ne_eqb r.key k n) (rw (ne_eqb r.key k n) (only-others k xs))
  ]

  -- the two parts weigh what the whole does, and have its length
  pub weight_parts : (k : ℕ) (xs : List (Row T)) → total_weight (only k xs) + total_weight (others k xs) ≡ total_weight xs
  weight_parts k xs = sum_by-filter_both (λ r. eqb r.key k) (λ r. not (eqb r.key k)) (λ _. refl) (λ r. r.weight) xs

  pub length_parts : (k : ℕ) (xs : List (Row T)) → length (only k xs) + length (others k xs) ≡ length xs
  length_parts k [] = refl
  length_parts k (r ∷ xs) = elim (cases_eq r.key k) [
    | inl e ↦ rw (eq-eqb r.key k e) (let i = length_parts k xs in omega arith)
    | inr n ↦ rw (ne_eqb r.key k n) (let i = length_parts k xs in omega arith)
  ]

  -- what one row of a key says of the whole
  pub one_row : (k : ℕ) (xs : List (Row T)) (row : Row T) → only k xs ≡ row ∷ []
      → (only k xs ≢ []) × (total_weight (only k xs) ≡ row.weight) × (total_weight xs ≡ row.weight + total_weight (others k xs)) × (length xs ≡ 1 + length (others k xs))
  one_row k xs row e =
      let w : total_weight (only k xs) ≡ row.weight = rw e (sum_by-cons (λ r. r.weight) row [] ∙ omega arith) in
      let p = weight_parts k xs in
      let l : length (only k xs) ≡ 1 = rw e refl in
      let q = length_parts k xs in
      ((λ n. let u = sym e ∙ n in cc), w, omega arith, omega arith)

  pub moved : (k : ℕ) (xs : List (Row T)) → (total_weight (only k xs ++ others k xs) ≡ total_weight xs) × (length (only k xs ++ others k xs) ≡ length xs)
  moved k xs = (sum_by-append (λ r. r.weight) (only k xs) (others k xs) ∙ weight_parts k xs, length-append (only k xs) (others k xs) ∙ length_parts k xs)

  pub only-reweighed : (k w : ℕ) (xs : List (Row T)) → only k (reweighed k w xs) ≡ map {A = Row T} {B = Row T} (λ r. record r { weight = w }) (only k xs)
  only-reweighed k w [] = refl
  only-reweighed k w (r ∷ xs) = elim (cases_eq r.key k) [
    | inl e ↦ rw (eq-eqb r.key k e) (rw (eq-eqb r.key k e) (ap (λ l. record r { weight = w } ∷ l) (only-reweighed k w xs)))
    | inr n ↦ rw (ne_eqb r.key k n) (rw (ne_eqb r.key k n) (only-reweighed k w xs))
  ]

  pub others-reweighed : (k w : ℕ) (xs : List (Row T)) → others k (reweighed k w xs) ≡ others k xs
  others-reweighed k w [] = refl
  others-reweighed k w (r ∷ xs) = elim (cases_eq r.key k) [
    | inl e ↦ rw (eq-eqb r.key k e) (rw (eq-eqb r.key k e) (others-reweighed k w xs))
    | inr n ↦ rw (ne_eqb r.key k n) (rw (ne_eqb r.key k n) (ap (λ l. r ∷ l) (others-reweighed k w xs)))
  ]

  pub reweighed_absent : (k w : ℕ) (xs : List (Row T)) → only k xs ≡ [] → reweighed k w xs ≡ xs
  reweighed_absent k w [] h = refl
  reweighed_absent k w (r ∷ xs) h = elim (cases_eq r.key k) [
    | inl e ↦ absurd (let f = rw (eq-eqb r.key k e) at h in cc)
    | inr n ↦ rw (ne_eqb r.key k n) (ap (λ l. r ∷ l) (reweighed_absent k w xs (rw (ne_eqb r.key k n) at h)))
  ]

  put_absent : (row : Row T) (k : ℕ) (xs : List (Row T)) → row.key ≡ k → only k xs ≡ [] → put row xs ≡ xs
  put_absent row k [] s h = refl
  put_absent row k (r ∷ xs) s h = elim (cases_eq r.key k) [
    | inl e ↦ absurd (let f = rw (eq-eqb r.key k e) at h in cc)
    | inr n ↦ rw (ne_eqb r.key row.key (λ e. n (e ∙ s))) (ap (λ l. r ∷ l) (put_absent row k xs s (rw (ne_eqb r.key k n) at h)))
  ]

  -- the row of a key with another weight, put in its place
  pub put-reweighed : (k w : ℕ) (row : Row T) (xs : List (Row T)) → row.key ≡ k → only k xs ≡ row ∷ [] → put (record row { weight = w }) xs ≡ reweighed k w xs
  put-reweighed k w row [] s h = refl
  put-reweighed k w row (r ∷ xs) s h = elim (cases_eq r.key k) [
    | inl e ↦
        let f = rw (eq-eqb r.key k e) at h in
        let same : r ≡ row = cc in
        let rest : only k xs ≡ [] = cc in
        rw (eq-eqb r.key row.key (e ∙ sym s), eq-eqb r.key k e, put_absent (record row { weight = w }) k xs s rest, reweighed_absent k w xs rest, same) refl
    | inr n ↦ rw (ne_eqb r.key row.key (λ e. n (e ∙ s)), ne_eqb r.key k n) (ap (λ l. r ∷ l) (put-reweighed k w row xs s (rw (ne_eqb r.key k n) at h)))
  ]

  -- what another weight for a key that is there does to the sums
  pub weight-reweighed : (k w : ℕ) (row : Row T) (xs : List (Row T)) → only k xs ≡ row ∷ [] → (total_weight (reweighed k w xs) ≡ w + total_weight (others k xs)) × (length (reweighed k w xs) ≡ length xs)
  weight-reweighed k w row xs h =
      let o : only k (reweighed k w xs) ≡ record row { weight = w } ∷ [] = only-reweighed k w xs ∙ ap (map {A = Row T} {B = Row T} (λ r. record r { weight = w })) h in
      let p = weight_parts k (reweighed k w xs) in
      let q : total_weight (only k (reweighed k w xs)) ≡ w = ap total_weight o ∙ (sum_by-cons (λ r. r.weight) (record row { weight = w }) [] ∙ omega arith) in
      let t : total_weight (others k (reweighed k w xs)) ≡ total_weight (others k xs) = ap total_weight (others-reweighed k w xs) in
      (omega (arith, p, q, t), length-map xs (λ r. cond (eqb r.key k) (record r { weight = w }) r))

  -- one weight is that of one row
  pub single : (xs : List (Row T)) (n : ℕ) → map (λ r. r.weight) xs ≡ n ∷ [] → (r : Row T) × (xs ≡ r ∷ []) × (r.weight ≡ n)
  single [] n e = absurd (let f : [] ≡ n ∷ [] = e in cc)
  single (r ∷ []) n e = (r, refl, (let f : r.weight ∷ [] ≡ n ∷ [] = e in cc))
  single (r ∷ s ∷ xs) n e = absurd (let f : r.weight ∷ s.weight ∷ map (λ r. r.weight) xs ≡ n ∷ [] = e in cc)

  -- the weight that an increment asks for, where the key is there and where it is not
  pub incremented_there : (k delta : ℕ) (most : Option ℕ) (xs : List (Row T)) → only k xs ≢ [] → incremented k delta most xs ≡ max (total_weight (only k xs)) (capped most (total_weight (only k xs) + delta))
  incremented_there k delta most xs n = elim (only k xs) as (λ l. l ≢ [] → cond (is_some (slice_get l 0)) (max (total_weight l) (capped most (total_weight l + delta))) (max 1 (capped most delta)) ≡ max (total_weight l) (capped most (total_weight l + delta))) [
    | [] ↦ λ m. absurd (m refl)
    | x ∷ l ↦ λ m. refl
  ] n

  pub incremented_new : (k delta : ℕ) (most : Option ℕ) (xs : List (Row T)) → only k xs ≡ [] → incremented k delta most xs ≡ max 1 (capped most delta)
  incremented_new k delta most xs e = rw e refl

-- a test of whether a list has a first element
pub some_first : {X : Type 0} → (b : Bool) (xs : List X) → (IsTrue b ↔ (xs ≢ [])) → b ≡ is_some (slice_get xs 0)
some_first b [] h = false_from_ne_true b (λ t. h.0 t refl)
some_first b (x ∷ xs) h = h.1 (λ e. cc)

pub none_first : {X : Type 0} → (b : Bool) (xs : List X) → (IsTrue b ↔ (xs ≢ [])) → (not b ≡ true → xs ≡ []) × (xs ≡ [] → not b ≡ true)
none_first b [] h = (λ t. refl, λ e. not_from_false b (false_from_ne_true b (λ t. h.0 t refl)))
none_first b (x ∷ xs) h = (λ t. absurd (let u = h.1 (λ e. cc) in let v = sym (ap not u) ∙ t in cc), λ e. cc)

-- a reference to an element says that there is one
pub referred : {X : Type 0} → (o : Option (Bor X)) (xs : List X) → true ≡ is_some o → option_to_list (option_copied o) ≡ xs → xs ≢ []
referred None xs t e n = absurd (true≢false t)
referred (Some y) xs t e n = let u : y.now ∷ [] ≡ [] = e ∙ n in cc

first_nil : {X : Type 0} → (xs ys : List X) → xs ++ ys ≡ [] → xs ≡ []
first_nil [] ys e = refl
first_nil (x ∷ xs) ys e = absurd (let f : x ∷ (xs ++ ys) ≡ [] = e in cc)

-- what is among the first is there
pub near_there : {T : Type 0} → (k n : ℕ) (xs : List (Row T)) → only k (take n xs) ≢ [] → true ≡ is_some (slice_get (only k xs) 0)
near_there k n xs h = elim (only k xs) as (λ l. only k xs ≡ l → true ≡ is_some (slice_get l 0)) [
  | [] ↦ λ e. absurd (h (let a = only-append k (take n xs) (drop n xs) in let b = rw (take-append-drop n xs) at a in first_nil (only k (take n xs)) (only k (drop n xs)) (sym b ∙ e)))
  | x ∷ l ↦ λ e. refl
] refl
