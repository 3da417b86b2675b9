-- Sums of fronts, as one of the numbers grows.
use Rattle.std.proofs.Common.{◌≡◌, ℕ, zero, suc, ◌+◌, ◌-◌, ◌≤◌, ◌<◌, ◌&&◌, ◌⊎◌, inl, inr, ltb, leb, cond, Bool, true, false, List, [], ◌∷◌, refl, ap, arith, length, get_or, set, replicate}
use Rattle.std.proofs.lemmas.Bool.{lt-ltb, le-ltb, ltb-true, ltb-false, leb-true, leb-false, cases_lt}
use Rattle.curve_runs.specs.Sums.{front}

pub front-zero : (xs : List ℕ) → front 0 xs ≡ 0
front-zero [] = refl
front-zero (x ∷ xs) = refl

pub front-added : (xs : List ℕ) (k n v : ℕ) → k < length xs → front n (set xs k (get_or xs k 0 + v)) ≡ front n xs + cond (ltb k n) v 0
front-added [] k n v l = absurd (omega (arith, l))
front-added (x ∷ xs) zero zero v l = omega arith
front-added (x ∷ xs) zero (suc n) v l = let b : ltb 0 (suc n) ≡ true = lt-ltb 0 (suc n) (omega arith) in rw b (omega arith)
front-added (x ∷ xs) (suc k) zero v l = let b : ltb (suc k) 0 ≡ false = le-ltb (suc k) 0 (omega arith) in rw b (omega arith)
front-added (x ∷ xs) (suc k) (suc n) v l = by_test (ltb k n) (ltb (suc k) (suc n)) refl refl (front-added xs k n v (omega (arith, l)))
  where
    by_test : (s t : Bool) → ltb k n ≡ s → ltb (suc k) (suc n) ≡ t → front n (set xs k (get_or xs k 0 + v)) ≡ front n xs + cond s v 0
        → x + front n (set xs k (get_or xs k 0 + v)) ≡ x + front n xs + cond t v 0
    by_test true true p q h = omega (arith, h)
    by_test false false p q h = omega (arith, h)
    by_test true false p q h = let a = ltb-true k n p in let b = ltb-false (suc k) (suc n) q in absurd (omega (arith, a, b))
    by_test false true p q h = let a = ltb-false k n p in let b = ltb-true (suc k) (suc n) q in absurd (omega (arith, a, b))

pub front-next : (xs : List ℕ) (k : ℕ) → k < length xs → front (suc k) xs ≡ front k xs + get_or xs k 0
front-next [] k l = absurd (omega (arith, l))
front-next (x ∷ xs) zero l = let h = front-zero xs in omega (arith, h)
front-next (x ∷ xs) (suc k) l = let h = front-next xs k (omega (arith, l)) in omega (arith, h)

pub front-one : (xs : List ℕ) (k : ℕ) → k < length xs → get_or xs k 0 ≤ front (suc k) xs
front-one xs k l = let h = front-next xs k l in omega (arith, h)

-- ---- what begins and what has ended, once a value is counted from one place on and before another

module _ (begun ended : List ℕ) (from to v : ℕ) (even : length ended ≡ length begun) (le : from ≤ to) (starts : from < length begun) (within : (n : ℕ) → front n ended ≤ front n begun) where
  pub all-added : (total : ℕ) → ((n : ℕ) → front n begun ≤ total) → (n : ℕ) → front n (set begun from (get_or begun from 0 + v)) ≤ total + v
  all-added total all n = by_test (ltb from n) (front-added begun from n v starts) (all n)
    where
      by_test : (t : Bool) → front n (set begun from (get_or begun from 0 + v)) ≡ front n begun + cond t v 0 → front n begun ≤ total → front n (set begun from (get_or begun from 0 + v)) ≤ total + v
      by_test true e h = omega (arith, e, h)
      by_test false e h = omega (arith, e, h)

  pub within-one : (n : ℕ) → front n ended ≤ front n (set begun from (get_or begun from 0 + v))
  within-one n = let e = front-added begun from n v starts in let h = within n in omega (arith, e, h)

  pub within-both : to < length ended → (n : ℕ) → front n (set ended to (get_or ended to 0 + v)) ≤ front n (set begun from (get_or begun from 0 + v))
  within-both ends n = by_tests (ltb from n) (ltb to n) refl refl (front-added begun from n v starts) (front-added ended to n v ends) (within n)
    where
      by_tests : (s t : Bool) → ltb from n ≡ s → ltb to n ≡ t → front n (set begun from (get_or begun from 0 + v)) ≡ front n begun + cond s v 0
          → front n (set ended to (get_or ended to 0 + v)) ≡ front n ended + cond t v 0 → front n ended ≤ front n begun
          → front n (set ended to (get_or ended to 0 + v)) ≤ front n (set begun from (get_or begun from 0 + v))
      by_tests true true p q e f h = omega (arith, e, f, h)
      by_tests true false p q e f h = omega (arith, e, f, h)
      by_tests false false p q e f h = omega (arith, e, f, h)
      by_tests false true p q e f h = let a = ltb-false from n p in let b = ltb-true to n q in absurd (omega (arith, a, b, le))

  abbrev gets : ℕ → ℕ
  gets i = cond (leb from i && ltb i to) v 0

  gets-one : (i : ℕ) → i < to → gets i ≡ cond (ltb from (suc i)) v 0
  gets-one i l = by_tests (leb from i) (ltb from (suc i)) refl refl
    where
      by_tests : (s t : Bool) → leb from i ≡ s → ltb from (suc i) ≡ t → cond (s && ltb i to) v 0 ≡ cond t v 0
      by_tests true true p q = ap (λ (b : Bool). cond b v 0) (lt-ltb i to l)
      by_tests false false p q = refl
      by_tests true false p q = let a = leb-true from i p in let b = ltb-false from (suc i) q in absurd (omega (arith, a, b))
      by_tests false true p q = let a = leb-false from i p in let b = ltb-true from (suc i) q in absurd (omega (arith, a, b))

  gets-none : (i : ℕ) → to ≤ i → gets i ≡ 0
  gets-none i l = by_test (leb from i)
    where
      by_test : (s : Bool) → cond (s && ltb i to) v 0 ≡ 0
      by_test true = ap (λ (b : Bool). cond b v 0) (le-ltb i to l)
      by_test false = refl

  pub counted-one : length ended ≤ to → (i : ℕ) → i < length begun
      → front (suc i) (set begun from (get_or begun from 0 + v)) - front (suc i) ended ≡ front (suc i) begun - front (suc i) ended + gets i
  counted-one ends i l =
      let e = front-added begun from (suc i) v starts in
      let g = gets-one i (omega (arith, l, ends, even)) in
      let h = within (suc i) in
      omega (arith, e, g, h)

  pub counted-both : to < length ended → (i : ℕ)
      → front (suc i) (set begun from (get_or begun from 0 + v)) - front (suc i) (set ended to (get_or ended to 0 + v)) ≡ front (suc i) begun - front (suc i) ended + gets i
  counted-both ends i = by_case (cases_lt i to)
    where
      e : front (suc i) (set begun from (get_or begun from 0 + v)) ≡ front (suc i) begun + cond (ltb from (suc i)) v 0
      e = front-added begun from (suc i) v starts

      f : front (suc i) (set ended to (get_or ended to 0 + v)) ≡ front (suc i) ended + cond (ltb to (suc i)) v 0
      f = front-added ended to (suc i) v ends

      h : front (suc i) ended ≤ front (suc i) begun
      h = within (suc i)

      by_case : (i < to) ⊎ (to ≤ i)
          → front (suc i) (set begun from (get_or begun from 0 + v)) - front (suc i) (set ended to (get_or ended to 0 + v)) ≡ front (suc i) begun - front (suc i) ended + gets i
      by_case (inl l) =
          let g = gets-one i l in
          let z : cond (ltb to (suc i)) v 0 ≡ 0 = ap (λ (b : Bool). cond b v 0) (le-ltb to (suc i) (omega (arith, l))) in
          omega (arith, e, f, g, h, z)
      by_case (inr l) =
          let g = gets-none i l in
          let y : cond (ltb from (suc i)) v 0 ≡ v = ap (λ (b : Bool). cond b v 0) (lt-ltb from (suc i) (omega (arith, l, le))) in
          let z : cond (ltb to (suc i)) v 0 ≡ v = ap (λ (b : Bool). cond b v 0) (lt-ltb to (suc i) (omega (arith, l))) in
          omega (arith, e, f, g, h, y, z)

-- ---- nothing counted

pub front-none : (m n : ℕ) → front n (replicate m 0) ≡ 0
front-none zero n = refl
front-none (suc m) zero = refl
front-none (suc m) (suc n) = let h = front-none m n in omega (arith, h)
