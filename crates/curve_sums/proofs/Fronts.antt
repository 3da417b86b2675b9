-- Sums of fronts of a list.
use Rattle.std.proofs.Common.{◌≡◌, ℕ, zero, suc, ◌+◌, ◌-◌, ◌≤◌, ◌<◌, List, [], ◌∷◌, ◌++◌, refl, ap, arith, take, drop, length, get_or, set, sum, min, inl, inr}
use Rattle.std.proofs.lemmas.Bool.{cases_lt}
use Rattle.std.specs.Prelude.{slice_range}
use Rattle.std.proofs.Math.Seq.{take-set-lt, take-add}
use Rattle.std.proofs.lemmas.List.{take-set-le, get_or-take}
use Rattle.std.proofs.lemmas.List.Sums.{sum_by-cons, sum_by-set, sum_by-append, sum_by_more, sum_by-take-le}

abbrev pub number : ℕ → ℕ
number n = n

abbrev pub at : List ℕ → ℕ → ℕ
at xs i = get_or xs i 0

abbrev pub front : List ℕ → ℕ → ℕ
front xs n = sum (take n xs)

-- ---- how a front grows

front-none : (n : ℕ) → front [] n ≡ 0
front-none zero = refl
front-none (suc n) = refl

pub front-all : (xs : List ℕ) (n : ℕ) → length xs ≤ n → front xs n ≡ sum xs
front-all [] zero l = refl
front-all [] (suc n) l = refl
front-all (x ∷ xs) zero l = absurd (omega (arith, l))
front-all (x ∷ xs) (suc n) l =
    let a = sum_by-cons number x (take n xs) in
    let b = sum_by-cons number x xs in
    let c = front-all xs n (omega (arith, l)) in
    omega (arith, a, b, c)

-- a number past the end
pub at-past : (xs : List ℕ) (n : ℕ) → length xs ≤ n → at xs n ≡ 0
at-past [] n l = refl
at-past (x ∷ xs) zero l = absurd (omega (arith, l))
at-past (x ∷ xs) (suc n) l = at-past xs n (omega (arith, l))

pub front-next : (xs : List ℕ) (n : ℕ) → front xs (n + 1) ≡ front xs n + at xs n
front-next xs n = elim (cases_lt n (length xs)) [
  | inl l ↦ sum_by_more number xs n 0 l
  | inr l ↦
      let a = front-all xs n l in
      let b = front-all xs (n + 1) (omega (arith, l)) in
      let c = at-past xs n l in
      omega (arith, a, b, c)
]

pub front-le : (xs : List ℕ) (n m : ℕ) → n ≤ m → front xs n ≤ front xs m
front-le [] n m l = let a = front-none n in let b = front-none m in omega (arith, a, b)
front-le (x ∷ xs) zero m l = omega arith
front-le (x ∷ xs) (suc n) zero l = absurd (omega (arith, l))
front-le (x ∷ xs) (suc n) (suc m) l =
    let a = sum_by-cons number x (take n xs) in
    let b = sum_by-cons number x (take m xs) in
    let c = front-le xs n m (omega (arith, l)) in
    omega (arith, a, b, c)

-- a number is within each front that has it
pub number-le : (xs : List ℕ) (i n : ℕ) → i < n → front xs i + at xs i ≤ front xs n
number-le xs i n l =
    let a = front-next xs i in
    let b = front-le xs (i + 1) n (omega (arith, l)) in
    omega (arith, a, b)

pub front-part : (xs : List ℕ) (n m : ℕ) → n ≤ m → front xs n + sum (slice_range xs n m) ≡ front xs m
front-part xs n m l =
    let e : n + (m - n) ≡ m = omega arith in
    let a : front xs (n + (m - n)) ≡ front xs m = ap (front xs) e in
    let b : front xs (n + (m - n)) ≡ sum (take n xs ++ take (m - n) (drop n xs)) = ap sum (take-add n (m - n) xs) in
    let c = sum_by-append number (take n xs) (take (m - n) (drop n xs)) in
    omega (arith, a, b, c)

pub front-within : (xs : List ℕ) (n : ℕ) → front xs n ≤ sum xs
front-within xs n = sum_by-take-le number xs n

-- ---- one number changes

pub front-before : (xs : List ℕ) (i v n : ℕ) → n ≤ i → front (set xs i v) n ≡ front xs n
front-before xs i v n l = ap sum (take-set-le n xs i v l)

within-take : (xs : List ℕ) (i n : ℕ) → i < length xs → i < n → i < length (take n xs)
within-take [] i n l m = absurd (omega (arith, l))
within-take (x ∷ xs) i zero l m = absurd (omega (arith, m))
within-take (x ∷ xs) zero (suc n) l m = omega arith
within-take (x ∷ xs) (suc i) (suc n) l m = let k = within-take xs i n (omega (arith, l)) (omega (arith, m)) in omega (arith, k)

pub front-changed : (xs : List ℕ) (i v n : ℕ) → i < length xs → i < n → front (set xs i v) n + at xs i ≡ front xs n + v
front-changed xs i v n l m =
    let a : front (set xs i v) n ≡ sum (set (take n xs) i v) = ap sum (take-set-lt n xs i v m) in
    let k : i < length (take n xs) = within-take xs i n l m in
    let b = sum_by-set number (take n xs) i v 0 k in
    let c = get_or-take n xs i 0 m in
    omega (arith, a, b, c)

-- ---- ends

pub front-ends : (xs : List ℕ) (n : ℕ) → front xs n ≡ 0 → 0 < sum xs → n < length xs
front-ends xs n z p = elim (cases_lt n (length xs)) [
  | inl l ↦ l
  | inr l ↦ absurd (let a = front-all xs n l in omega (arith, a, z, p))
]

pub front-end : (xs : List ℕ) (n m : ℕ) → n ≡ min (length xs) m → front xs n ≡ front xs m
front-end xs n m e = elim (cases_lt m (length xs)) [
  | inl l ↦ let q : n ≡ m = omega (arith, e, l) in ap (front xs) q
  | inr l ↦ let a = front-all xs n (omega (arith, e, l)) in let b = front-all xs m l in omega (arith, a, b)
]
