-- Vectors of four words: rotations, and the working words after four of them are mixed at once.
use Rattle.std.proofs.Common.{◌≡◌, ℕ, zero, suc, ◌<◌, ◌+◌, ◌-◌, ◌*◌, ◌/◌, ◌%◌, ◌^◌, List, [], ◌∷◌, length, slice_index, bit_or, bit_xor, arith, refl, lit<}
use Rattle.std.specs.Simd.Lanes.{zip2}
use Rattle.std.specs.Int.{w64, rotate_right}
use Rattle.cache_words.specs.Blake.{mixed, mix}

-- what holds of each of the four lanes
below_four : (P : ℕ → Type 0) → P 0 → P 1 → P 2 → P 3 → (j : ℕ) → j < 4 → P j
below_four P p0 p1 p2 p3 zero h = p0
below_four P p0 p1 p2 p3 (suc zero) h = p1
below_four P p0 p1 p2 p3 (suc (suc zero)) h = p2
below_four P p0 p1 p2 p3 (suc (suc (suc zero))) h = p3
below_four P p0 p1 p2 p3 (suc (suc (suc (suc n)))) h = absurd (omega arith)

-- what holds of each list of four words
four_lanes : (P : List ℕ → Type 0) → ((a b c d : ℕ) → P (a ∷ b ∷ c ∷ d ∷ [])) → (xs : List ℕ) → length xs ≡ 4 → P xs
four_lanes P p (a ∷ b ∷ c ∷ d ∷ []) h = p a b c d
four_lanes P p [] h = absurd (omega arith)
four_lanes P p (a ∷ []) h = absurd (omega arith)
four_lanes P p (a ∷ b ∷ []) h = absurd (omega arith)
four_lanes P p (a ∷ b ∷ c ∷ []) h = absurd (omega arith)
four_lanes P p (a ∷ b ∷ c ∷ d ∷ e ∷ xs) h = absurd (omega arith)

four_more : (P : List ℕ → Type 0) (n : ℕ) → ((a b c d : ℕ) (xs : List ℕ) → length xs ≡ n → P (a ∷ b ∷ c ∷ d ∷ xs)) → (xs : List ℕ) → length xs ≡ n + 4 → P xs
four_more P n p (a ∷ b ∷ c ∷ d ∷ xs) h = p a b c d xs (omega arith)
four_more P n p [] h = absurd (omega arith)
four_more P n p (a ∷ []) h = absurd (omega arith)
four_more P n p (a ∷ b ∷ []) h = absurd (omega arith)
four_more P n p (a ∷ b ∷ c ∷ []) h = absurd (omega arith)

-- what holds of each list of sixteen words
sixteen_words : (P : List ℕ → Type 0) → ((v0 v1 v2 v3 v4 v5 v6 v7 v8 v9 v10 v11 v12 v13 v14 v15 : ℕ) → P (v0 ∷ v1 ∷ v2 ∷ v3 ∷ v4 ∷ v5 ∷ v6 ∷ v7 ∷ v8 ∷ v9 ∷ v10 ∷ v11 ∷ v12 ∷ v13 ∷ v14 ∷ v15 ∷ [])) → (xs : List ℕ) → length xs ≡ 16 → P xs
sixteen_words P p =
    four_more P 12 (λ v0 v1 v2 v3. four_more (λ l. P (v0 ∷ v1 ∷ v2 ∷ v3 ∷ l)) 8 (λ v4 v5 v6 v7. four_more (λ l. P (v0 ∷ v1 ∷ v2 ∷ v3 ∷ v4 ∷ v5 ∷ v6 ∷ v7 ∷ l)) 4 (λ v8 v9 v10 v11.
    four_lanes (λ l. P (v0 ∷ v1 ∷ v2 ∷ v3 ∷ v4 ∷ v5 ∷ v6 ∷ v7 ∷ v8 ∷ v9 ∷ v10 ∷ v11 ∷ l)) (λ v12 v13 v14 v15. p v0 v1 v2 v3 v4 v5 v6 v7 v8 v9 v10 v11 v12 v13 v14 v15))))

-- two shifts of each lane and an or are a rotation
abbrev Rotates : ℕ → List ℕ → List ℕ → Type 0
Rotates k a b = (j : ℕ) → j < 4
    → slice_index (zip2 bit_or
    (zip2 (λ x n. x / 2 ^ n) (zip2 bit_xor a b) (k ∷ k ∷ k ∷ k ∷ []))
    (zip2 (λ x n. x * 2 ^ n % 2 ^ 64) (zip2 bit_xor a b) ((64 - k) ∷ (64 - k) ∷ (64 - k) ∷ (64 - k) ∷ []))) j
    ≡ rotate_right w64 (bit_xor (slice_index a j) (slice_index b j)) k

pub shifts_rotate : (k : ℕ) → 0 < k → k < 64 → (a : List ℕ) → length a ≡ 4 → (b : List ℕ) → length b ≡ 4 → Rotates k a b
shifts_rotate k low high =
    let right : k % 64 ≡ k = omega arith in
    let left : (64 - k) % 64 ≡ 64 - k = omega arith in
    four_lanes (λ a. (b : List ℕ) → length b ≡ 4 → Rotates k a b) (λ a0 a1 a2 a3.
    four_lanes (Rotates k (a0 ∷ a1 ∷ a2 ∷ a3 ∷ [])) (λ b0 b1 b2 b3.
    below_four _ (rw (right, left) refl) (rw (right, left) refl) (rw (right, left) refl) (rw (right, left) refl)))

-- the words a, b, c and d of one column or diagonal
abbrev pub lane : List ℕ → List ℕ → List ℕ → List ℕ → ℕ → List ℕ
lane a b c d j = slice_index a j ∷ slice_index b j ∷ slice_index c j ∷ slice_index d j ∷ []

-- each lane mixed
abbrev pub AreMixed : List ℕ → List ℕ → List ℕ → List ℕ → List ℕ → List ℕ → List ℕ → List ℕ → List ℕ → List ℕ → Type 0
AreMixed p q r s a b c d x y = (j : ℕ) → j < 4 → lane p q r s j ≡ mixed (lane a b c d j) (slice_index x j) (slice_index y j)

-- the sixteen words of four columns
abbrev columns_from : List ℕ → List ℕ → List ℕ → List ℕ → List ℕ
columns_from q0 q1 q2 q3 =
    slice_index q0 0 ∷ slice_index q1 0 ∷ slice_index q2 0 ∷ slice_index q3 0
    ∷ slice_index q0 1 ∷ slice_index q1 1 ∷ slice_index q2 1 ∷ slice_index q3 1
    ∷ slice_index q0 2 ∷ slice_index q1 2 ∷ slice_index q2 2 ∷ slice_index q3 2
    ∷ slice_index q0 3 ∷ slice_index q1 3 ∷ slice_index q2 3 ∷ slice_index q3 3 ∷ []

same_columns : (q0 q1 q2 q3 r0 r1 r2 r3 : List ℕ) → q0 ≡ r0 → q1 ≡ r1 → q2 ≡ r2 → q3 ≡ r3 → columns_from q0 q1 q2 q3 ≡ columns_from r0 r1 r2 r3
same_columns q0 q1 q2 q3 r0 r1 r2 r3 e0 e1 e2 e3 = rw (e0, e1, e2, e3) refl

abbrev AreColumns : List ℕ → Type 0
AreColumns v = (p q r s x y : List ℕ)
    → AreMixed p q r s
    (slice_index v 0 ∷ slice_index v 1 ∷ slice_index v 2 ∷ slice_index v 3 ∷ []) (slice_index v 4 ∷ slice_index v 5 ∷ slice_index v 6 ∷ slice_index v 7 ∷ [])
    (slice_index v 8 ∷ slice_index v 9 ∷ slice_index v 10 ∷ slice_index v 11 ∷ []) (slice_index v 12 ∷ slice_index v 13 ∷ slice_index v 14 ∷ slice_index v 15 ∷ []) x y
    → slice_index p 0 ∷ slice_index p 1 ∷ slice_index p 2 ∷ slice_index p 3
    ∷ slice_index q 0 ∷ slice_index q 1 ∷ slice_index q 2 ∷ slice_index q 3
    ∷ slice_index r 0 ∷ slice_index r 1 ∷ slice_index r 2 ∷ slice_index r 3
    ∷ slice_index s 0 ∷ slice_index s 1 ∷ slice_index s 2 ∷ slice_index s 3 ∷ []
    ≡ mix (mix (mix (mix v 0 4 8 12 (slice_index x 0) (slice_index y 0)) 1 5 9 13 (slice_index x 1) (slice_index y 1)) 2 6 10 14 (slice_index x 2) (slice_index y 2)) 3 7 11 15 (slice_index x 3) (slice_index y 3)

pub columns_are : (v : List ℕ) → length v ≡ 16 → AreColumns v
unfolding mix
columns_are =
    sixteen_words AreColumns (λ v0 v1 v2 v3 v4 v5 v6 v7 v8 v9 v10 v11 v12 v13 v14 v15 p q r s x y h.
    same_columns (lane p q r s 0) (lane p q r s 1) (lane p q r s 2) (lane p q r s 3) _ _ _ _ (h 0 (lit< tt)) (h 1 (lit< tt)) (h 2 (lit< tt)) (h 3 (lit< tt)))

-- the sixteen words of four diagonals
abbrev diagonals_from : List ℕ → List ℕ → List ℕ → List ℕ → List ℕ
diagonals_from q0 q1 q2 q3 =
    slice_index q0 0 ∷ slice_index q1 0 ∷ slice_index q2 0 ∷ slice_index q3 0
    ∷ slice_index q3 1 ∷ slice_index q0 1 ∷ slice_index q1 1 ∷ slice_index q2 1
    ∷ slice_index q2 2 ∷ slice_index q3 2 ∷ slice_index q0 2 ∷ slice_index q1 2
    ∷ slice_index q1 3 ∷ slice_index q2 3 ∷ slice_index q3 3 ∷ slice_index q0 3 ∷ []

same_diagonals : (q0 q1 q2 q3 r0 r1 r2 r3 : List ℕ) → q0 ≡ r0 → q1 ≡ r1 → q2 ≡ r2 → q3 ≡ r3 → diagonals_from q0 q1 q2 q3 ≡ diagonals_from r0 r1 r2 r3
same_diagonals q0 q1 q2 q3 r0 r1 r2 r3 e0 e1 e2 e3 = rw (e0, e1, e2, e3) refl

-- the last diagonal comes first
abbrev AreDiagonals : List ℕ → Type 0
AreDiagonals v = (p q r s x y : List ℕ)
    → AreMixed p q r s
    (slice_index v 3 ∷ slice_index v 0 ∷ slice_index v 1 ∷ slice_index v 2 ∷ []) (slice_index v 4 ∷ slice_index v 5 ∷ slice_index v 6 ∷ slice_index v 7 ∷ [])
    (slice_index v 9 ∷ slice_index v 10 ∷ slice_index v 11 ∷ slice_index v 8 ∷ []) (slice_index v 14 ∷ slice_index v 15 ∷ slice_index v 12 ∷ slice_index v 13 ∷ [])
    (slice_index x 3 ∷ slice_index x 0 ∷ slice_index x 1 ∷ slice_index x 2 ∷ []) (slice_index y 3 ∷ slice_index y 0 ∷ slice_index y 1 ∷ slice_index y 2 ∷ [])
    → slice_index p 1 ∷ slice_index p 2 ∷ slice_index p 3 ∷ slice_index p 0
    ∷ slice_index q 0 ∷ slice_index q 1 ∷ slice_index q 2 ∷ slice_index q 3
    ∷ slice_index r 3 ∷ slice_index r 0 ∷ slice_index r 1 ∷ slice_index r 2
    ∷ slice_index s 2 ∷ slice_index s 3 ∷ slice_index s 0 ∷ slice_index s 1 ∷ []
    ≡ mix (mix (mix (mix v 0 5 10 15 (slice_index x 0) (slice_index y 0)) 1 6 11 12 (slice_index x 1) (slice_index y 1)) 2 7 8 13 (slice_index x 2) (slice_index y 2)) 3 4 9 14 (slice_index x 3) (slice_index y 3)

pub diagonals_are : (v : List ℕ) → length v ≡ 16 → AreDiagonals v
unfolding mix
diagonals_are =
    sixteen_words AreDiagonals (λ v0 v1 v2 v3 v4 v5 v6 v7 v8 v9 v10 v11 v12 v13 v14 v15 p q r s x y h.
    same_diagonals (lane p q r s 1) (lane p q r s 2) (lane p q r s 3) (lane p q r s 0) _ _ _ _ (h 1 (lit< tt)) (h 2 (lit< tt)) (h 3 (lit< tt)) (h 0 (lit< tt)))
