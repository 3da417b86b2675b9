-- Ranges of a body, of its pieces, and one after the other.
use Rattle.std.proofs.Common.{◌≡◌, refl, sym, ap, ◌∙◌, ℕ, zero, suc, ◌+◌, ◌-◌, ◌≤◌, min, List, [], ◌∷◌, ◌++◌, length, take, drop, arith, length-drop, slice_range}
use Rattle.std.proofs.lemmas.List.{take-append-drop, take-take, drop-take, drop-drop, take_min, drop_min, take_rest}
use Rattle.std.specs.Prelude.{Option, Some, None}
use Rattle.std.specs.List.{concat}
use Rattle.gateway_frames.specs.declared.chunks.Framing.{Framing}
use Rattle.gateway_frames.specs.Frames.{front, behind, framed, content_taken}
use Rattle.gateway_frames.specs.Sent.{part_end, relayed_pieces}

pub take_two : (n : ℕ) (xs ys : List ℕ) → take n (xs ++ ys) ≡ take n xs ++ take (n - length xs) ys
take_two zero xs ys = ap (λ k. take k ys) (let e : 0 ≡ 0 - length xs = omega arith in e)
take_two (suc n) [] ys = ap (λ k. take k ys) (let e : suc n ≡ suc n - 0 = omega arith in e)
take_two (suc n) (x ∷ xs) ys =
    ap (λ t. x ∷ t) (take_two n xs ys) ∙ ap (λ k. x ∷ (take n xs ++ take k ys)) (let e : n - length xs ≡ suc n - suc (length xs) = omega arith in e)

drop_two : (n : ℕ) (xs ys : List ℕ) → drop n (xs ++ ys) ≡ drop n xs ++ drop (n - length xs) ys
drop_two zero xs ys = ap (λ k. xs ++ drop k ys) (let e : 0 ≡ 0 - length xs = omega arith in e)
drop_two (suc n) [] ys = ap (λ k. drop k ys) (let e : suc n ≡ suc n - 0 = omega arith in e)
drop_two (suc n) (x ∷ xs) ys =
    drop_two n xs ys ∙ ap (λ k. drop n xs ++ drop k ys) (let e : n - length xs ≡ suc n - suc (length xs) = omega arith in e)

-- of two texts, a range of the first and a range of the second
pub slice_two : (i j : ℕ) (xs ys : List ℕ) → i ≤ j
    → slice_range (xs ++ ys) i j
    ≡ slice_range xs (min i (length xs)) (min j (length xs)) ++ slice_range ys (i - length xs) (j - length xs)
slice_two i j xs ys h =
    let len = length (drop i xs) in
    let is : len ≡ length xs - i = length-drop i xs in
    let fewer : min (j - i) len ≡ min j (length xs) - min i (length xs) = omega arith in
    let later : j - i - len ≡ j - length xs - (i - length xs) = omega arith in
    ap (λ t. take (j - i) t) (drop_two i xs ys)
    ∙ take_two (j - i) (drop i xs) (drop (i - length xs) ys)
    ∙ ap (λ t. t ++ take (j - i - len) (drop (i - length xs) ys))
    (sym (take_min (j - i) (drop i xs)) ∙ ap (λ k. take k (drop i xs)) fewer
    ∙ ap (λ t. take (min j (length xs) - min i (length xs)) t) (sym (drop_min i xs)))
    ∙ ap (λ k. slice_range xs (min i (length xs)) (min j (length xs)) ++ take k (drop (i - length xs) ys)) later

take_join : (m n : ℕ) (xs : List ℕ) → take m xs ++ take n (drop m xs) ≡ take (m + n) xs
take_join m n xs =
    ap (λ t. t ++ take n (drop m xs)) (sym (take-take m (m + n) xs (omega arith)))
    ∙ ap (λ t. take m (take (m + n) xs) ++ t) (sym (drop-take m n xs))
    ∙ take-append-drop m (take (m + n) xs)

-- a range, and the one that follows on it
pub join : (xs : List ℕ) (i j k : ℕ) → i ≤ j → j ≤ k → slice_range xs i j ++ slice_range xs j k ≡ slice_range xs i k
join xs i j k h g =
    let place : j ≡ i + (j - i) = omega arith in
    let size : j - i + (k - j) ≡ k - i = omega arith in
    ap (λ t. slice_range xs i j ++ take (k - j) t) (ap (λ n. drop n xs) place ∙ sym (drop-drop (j - i) i xs))
    ∙ take_join (j - i) (k - j) (drop i xs)
    ∙ ap (λ n. take n (drop i xs)) size

pub nothing : (xs : List ℕ) (i : ℕ) → slice_range xs i i ≡ []
nothing xs i = ap (λ n. take n (drop i xs)) (let e : i - i ≡ 0 = omega arith in e)

drop_nil : (n : ℕ) → drop {A = ℕ} n [] ≡ []
drop_nil zero = refl
drop_nil (suc n) = refl

take_nil : (n : ℕ) → take {A = ℕ} n [] ≡ []
take_nil zero = refl
take_nil (suc n) = refl

relayed_to : (pieces : List (List ℕ)) (from to before : ℕ) → from ≤ to
    → concat (relayed_pieces from (Some to) before pieces) ≡ slice_range (concat pieces) (from - before) (to - before)
relayed_to [] from to before h =
    sym (ap (λ t. take (to - before - (from - before)) t) (drop_nil (from - before)) ∙ take_nil (to - before - (from - before)))
relayed_to (p ∷ pieces) from to before h =
    let len = length p in
    let first : from - (before + len) ≡ from - before - len = omega arith in
    let last : to - (before + len) ≡ to - before - len = omega arith in
    ap (λ t. slice_range p (min (from - before) len) (min (to - before) len) ++ t)
    (relayed_to pieces from to (before + len) h
    ∙ ap (λ i. slice_range (concat pieces) i (to - (before + len))) first
    ∙ ap (λ j. slice_range (concat pieces) (from - before - len) j) last)
    ∙ sym (slice_two (from - before) (to - before) p (concat pieces) (omega arith))

to_the_end : (xs : List ℕ) (i : ℕ) → slice_range xs (min i (length xs)) (length xs) ≡ drop i xs
to_the_end xs i = take_rest xs (min i (length xs)) ∙ drop_min i xs

relayed_on : (pieces : List (List ℕ)) (from before : ℕ) → concat (relayed_pieces from None before pieces) ≡ drop (from - before) (concat pieces)
relayed_on [] from before = sym (drop_nil (from - before))
relayed_on (p ∷ pieces) from before =
    let len = length p in
    let first : from - (before + len) ≡ from - before - len = omega arith in
    ap (λ t. slice_range p (min (from - before) len) len ++ t)
    (relayed_on pieces from (before + len) ∙ ap (λ i. drop i (concat pieces)) first)
    ∙ ap (λ t. t ++ drop (from - before - len) (concat pieces)) (to_the_end p (from - before))
    ∙ sym (drop_two (from - before) p (concat pieces))

pub relayed_is : (from : ℕ) (to : Option ℕ) (pieces : List (List ℕ)) → from ≤ part_end to (concat pieces)
    → concat (relayed_pieces from to 0 pieces) ≡ slice_range (concat pieces) from (part_end to (concat pieces))
relayed_is from (Some to) pieces h =
    relayed_to pieces from to 0 h
    ∙ ap (λ i. slice_range (concat pieces) i (to - 0)) (let e : from - 0 ≡ from = omega arith in e)
    ∙ ap (λ j. slice_range (concat pieces) from j) (let e : to - 0 ≡ to = omega arith in e)
relayed_is from None pieces h =
    relayed_on pieces from 0 ∙ ap (λ i. drop i (concat pieces)) (let e : from - 0 ≡ from = omega arith in e)
    ∙ sym (take_rest (concat pieces) from)

-- a piece as it was sent so far
pub taken_is : (framing : Framing) (p : List ℕ) (n : ℕ)
    → take n (framed framing p)
    ≡ take n (front framing (length p))
    ++ (take (content_taken framing (length p) n) p ++ take (n - length (front framing (length p)) - length p) (behind framing (length p)))
taken_is framing p n =
    let head = front framing (length p) in
    let rest = n - length head in
    take_two n head (p ++ behind framing (length p))
    ∙ ap (λ t. take n head ++ t)
    (take_two rest p (behind framing (length p))
    ∙ ap (λ t. t ++ take (rest - length p) (behind framing (length p))) (sym (take_min rest p)))
