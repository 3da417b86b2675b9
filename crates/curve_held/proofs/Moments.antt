-- The lesser of moments.
use Rattle.std.proofs.Common.{◌≡◌, ℕ, zero, suc, ◌≤◌, ◌<◌, ◌⊎◌, inl, inr, min, leb, cond, Bool, List, [], ◌∷◌, Option, Some, None, refl, ap, sym, ◌∙◌, arith, length, get_or, set, replicate}
use Rattle.std.proofs.lemmas.Bool.{cases_lt, lt-leb, le-leb}
use Rattle.curve_held.specs.Held.{sooner}
use Rattle.curve_held.specs.State.{noted_at, running}

pub sooner-none : (x : Option ℕ) → sooner None x ≡ x
sooner-none x = refl

sooner-same : (x : Option ℕ) → sooner x None ≡ x
sooner-same None = refl
sooner-same (Some m) = refl

pub sooner-turn : (x y z : Option ℕ) → sooner x (sooner y z) ≡ sooner y (sooner x z)
sooner-turn None y z = refl
sooner-turn (Some m) None z = refl
sooner-turn (Some m) (Some n) None = let e : min m n ≡ min n m = omega arith in ap (λ (k : ℕ). Some k) e
sooner-turn (Some m) (Some n) (Some p) = let e : min m (min n p) ≡ min n (min m p) = omega arith in ap (λ (k : ℕ). Some k) e

sooner-more : (x y z : Option ℕ) → sooner (sooner x y) z ≡ sooner x (sooner y z)
sooner-more None y z = refl
sooner-more (Some m) None z = refl
sooner-more (Some m) (Some n) None = refl
sooner-more (Some m) (Some n) (Some p) = let e : min (min m n) p ≡ min m (min n p) = omega arith in ap (λ (k : ℕ). Some k) e

-- one more before all
running-from : (x least : Option ℕ) (xs : List (Option ℕ)) (k : ℕ) → k < length xs → get_or (running (sooner x least) xs) k None ≡ sooner x (get_or (running least xs) k None)
running-from x least [] k l = absurd (omega (arith, l))
running-from x least (y ∷ ys) zero l = sooner-more x least y
running-from x least (y ∷ ys) (suc k) l =
    ap (λ (o : Option ℕ). get_or (running o ys) k None) (sooner-more x least y) ∙ running-from x (sooner least y) ys k (omega (arith, l))

-- a moment that is noted at a place is found from there on
noted-from : (least : Option ℕ) (xs : List (Option ℕ)) (at moment k : ℕ) → k < length xs → at ≤ k
    → get_or (running least (noted_at at moment xs)) k None ≡ sooner (Some moment) (get_or (running least xs) k None)
noted-from least [] at moment k l h = absurd (omega (arith, l))
noted-from least (x ∷ xs) zero moment zero l h = sooner-turn least (Some moment) x
noted-from least (x ∷ xs) zero moment (suc k) l h =
    ap (λ (o : Option ℕ). get_or (running o xs) k None) (sooner-turn least (Some moment) x) ∙ running-from (Some moment) (sooner least x) xs k (omega (arith, l))
noted-from least (x ∷ xs) (suc at) moment zero l h = absurd (omega (arith, h))
noted-from least (x ∷ xs) (suc at) moment (suc k) l h = noted-from (sooner least x) xs at moment k (omega (arith, l)) (omega (arith, h))

noted-before : (least : Option ℕ) (xs : List (Option ℕ)) (at moment k : ℕ) → k < at → get_or (running least (noted_at at moment xs)) k None ≡ get_or (running least xs) k None
noted-before least [] at moment k h = refl
noted-before least (x ∷ xs) zero moment k h = absurd (omega (arith, h))
noted-before least (x ∷ xs) (suc at) moment zero h = refl
noted-before least (x ∷ xs) (suc at) moment (suc k) h = noted-before (sooner least x) xs at moment k (omega (arith, h))

pub running-noted : (least : Option ℕ) (xs : List (Option ℕ)) (at moment k : ℕ) → k < length xs
    → get_or (running least (noted_at at moment xs)) k None ≡ cond (leb at k) (sooner (Some moment) (get_or (running least xs) k None)) (get_or (running least xs) k None)
running-noted least xs at moment k l = by_case (cases_lt k at)
  where
    by_bit : Bool → Option ℕ
    by_bit b = cond b (sooner (Some moment) (get_or (running least xs) k None)) (get_or (running least xs) k None)

    by_case : (k < at) ⊎ (at ≤ k) → get_or (running least (noted_at at moment xs)) k None ≡ by_bit (leb at k)
    by_case (inl h) = noted-before least xs at moment k h ∙ sym (ap by_bit (lt-leb at k h))
    by_case (inr h) = noted-from least xs at moment k l h ∙ sym (ap by_bit (le-leb at k h))

pub noted-length : (at moment : ℕ) (xs : List (Option ℕ)) → length (noted_at at moment xs) ≡ length xs
noted-length at moment [] = refl
noted-length zero moment (x ∷ xs) = omega arith
noted-length (suc at) moment (x ∷ xs) = let e = noted-length at moment xs in omega (arith, e)

pub running-length : (least : Option ℕ) (xs : List (Option ℕ)) → length (running least xs) ≡ length xs
running-length least [] = refl
running-length least (x ∷ xs) = let e = running-length (sooner least x) xs in omega (arith, e)

pub running-none : (n k : ℕ) → get_or (running None (replicate n None)) k None ≡ None
running-none zero k = refl
running-none (suc n) zero = refl
running-none (suc n) (suc k) = running-none n k

pub noted-is : (at moment : ℕ) (xs : List (Option ℕ)) (x : Option ℕ) → at < length xs → x ≡ get_or xs at x → set xs at (sooner (Some moment) x) ≡ noted_at at moment xs
noted-is at moment [] x l e = absurd (omega (arith, l))
noted-is zero moment (y ∷ xs) x l e = ap (λ (o : Option ℕ). sooner (Some moment) o ∷ xs) e
noted-is (suc at) moment (y ∷ xs) x l e = ap (λ (o : List (Option ℕ)). y ∷ o) (noted-is at moment xs x (omega (arith, l)) e)

pub noted-past : (at moment : ℕ) (xs : List (Option ℕ)) → length xs ≤ at → noted_at at moment xs ≡ xs
noted-past at moment [] l = refl
noted-past zero moment (x ∷ xs) l = absurd (omega (arith, l))
noted-past (suc at) moment (x ∷ xs) l = ap (λ (o : List (Option ℕ)). x ∷ o) (noted-past at moment xs (omega (arith, l)))
