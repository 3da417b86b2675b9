-- What places weigh, with holes and without.
use Rattle.std.proofs.Common.{◌≡◌, ◌≢◌, ℕ, ◌+◌, ◌-◌, ◌≤◌, ◌<◌, ◌^◌, eqb, Bool, true, false, cond, List, [], ◌∷◌, refl, ap, arith, take, length, set, sum, ◌⊎◌, inl, inr}
use Rattle.std.proofs.lemmas.Bool.{eqb-true, eq-eqb, cases_lt}
use Rattle.std.proofs.lemmas.List.{length-set}
use Rattle.std.proofs.lemmas.List.Sums.{sum_by-set, sum_by_more, sum_by-cons, sum_by-take-le, count_by_more_yes, count_by_more_no}
use Rattle.curve_heights.specs.declared.place.Place.{Place}
use Rattle.curve_heights.specs.Places.{without, filled, all_weights, all_sizes}
use Rattle.curve_heights.specs.Slots.{nobody, is_owned, owned_in, places_in, gaps_in}
use Rattle.curve_heights.proofs.SlotLaws.{at, filled-none, gaps-left, gaps-length, gap-owned}

-- ---- slots

-- what isn't in holes is the entries'
pub weights-in : (g : ℕ) (os ws : List ℕ) → length ws ≡ length os → all_weights (places_in g os ws) + sum (gaps_in os ws) ≡ sum ws
weights-in g [] [] s = refl
weights-in g [] (w ∷ ws) s = absurd (omega (arith, s))
weights-in g (o ∷ os) [] s = absurd (omega (arith, s))
weights-in g (o ∷ os) (w ∷ ws) s = by_test (eqb o nobody) (λ g. weights-in g os ws (omega (arith, s)))
  where
    by_test : (t : Bool) → ((g : ℕ) → all_weights (places_in g os ws) + sum (gaps_in os ws) ≡ sum ws)
        → all_weights (cond t (places_in (g + w) os ws) (record { holes = g; entry = o; weight = w } ∷ places_in 0 os ws)) + sum (cond t w 0 ∷ gaps_in os ws) ≡ sum (w ∷ ws)
    by_test true more =
        let h = more (g + w) in
        let c = sum_by-cons (λ (n : ℕ). n) w (gaps_in os ws) in
        let d = sum_by-cons (λ (n : ℕ). n) w ws in
        omega (arith, h, c, d)
    by_test false more =
        let h = more 0 in
        let c = sum_by-cons (λ (n : ℕ). n) 0 (gaps_in os ws) in
        let d = sum_by-cons (λ (n : ℕ). n) w ws in
        omega (arith, h, c, d)

-- an entry that leaves takes its weight away
pub weights-left : (os ws : List ℕ) (q : ℕ) → length ws ≡ length os → q < length os → at os q ≢ nobody
    → all_weights (places_in 0 (set os q nobody) ws) + (sum (gaps_in os ws) + at ws q) ≡ sum ws
weights-left os ws q s l n =
    let a = length-set os q nobody in
    let b = weights-in 0 (set os q nobody) ws (omega (arith, s, a)) in
    let c = ap sum (gaps-left os ws q s l) in
    let m = gaps-length os ws s in
    let d = sum_by-set (λ (x : ℕ). x) (gaps_in os ws) q (at ws q) 0 (omega (arith, l, m)) in
    let e = gap-owned os ws q s l n in
    omega (arith, b, c, d, e.0)

-- holes behind the last entry aren't among the places
pub sizes-in : (g : ℕ) (os ws : List ℕ) → all_sizes (places_in g os ws) ≤ g + sum ws
sizes-in g [] ws = omega arith
sizes-in g (o ∷ os) [] = omega arith
sizes-in g (o ∷ os) (w ∷ ws) = by_test (eqb o nobody) (λ g. sizes-in g os ws)
  where
    by_test : (t : Bool) → ((g : ℕ) → all_sizes (places_in g os ws) ≤ g + sum ws)
        → all_sizes (cond t (places_in (g + w) os ws) (record { holes = g; entry = o; weight = w } ∷ places_in 0 os ws)) ≤ g + sum (w ∷ ws)
    by_test true more = let h = more (g + w) in let d = sum_by-cons (λ (n : ℕ). n) w ws in omega (arith, h, d)
    by_test false more = let h = more 0 in let d = sum_by-cons (λ (n : ℕ). n) w ws in omega (arith, h, d)

pub places-many : (g : ℕ) (os ws : List ℕ) → length ws ≡ length os → length (places_in g os ws) ≡ owned_in os
places-many g [] [] s = refl
places-many g [] (w ∷ ws) s = absurd (omega (arith, s))
places-many g (o ∷ os) [] s = absurd (omega (arith, s))
places-many g (o ∷ os) (w ∷ ws) s = by_test (eqb o nobody) refl (λ g. places-many g os ws (omega (arith, s)))
  where
    c : owned_in (o ∷ os) ≡ cond (is_owned o) 1 0 + owned_in os
    c = sum_by-cons (λ (x : ℕ). cond (is_owned x) 1 0) o os

    by_test : (t : Bool) → eqb o nobody ≡ t → ((g : ℕ) → length (places_in g os ws) ≡ owned_in os)
        → length (cond t (places_in (g + w) os ws) (record { holes = g; entry = o; weight = w } ∷ places_in 0 os ws)) ≡ owned_in (o ∷ os)
    by_test true i more = let h = more (g + w) in let v : ◌≡◌ {A = ℕ} (cond (is_owned o) 1 0) 0 = rw i refl in omega (arith, h, c, v)
    by_test false i more = let h = more 0 in let v : ◌≡◌ {A = ℕ} (cond (is_owned o) 1 0) 1 = rw i refl in omega (arith, h, c, v)

-- ---- owned slots so far

pub owned-more : (os : List ℕ) (q : ℕ) → q < length os → at os q ≢ nobody → owned_in (take (q + 1) os) ≡ owned_in (take q os) + 1
owned-more os q l n = count_by_more_yes is_owned os q 0 l (by (eqb (at os q) nobody) refl)
  where
    by : (t : Bool) → eqb (at os q) nobody ≡ t → is_owned (at os q) ≡ true
    by true i = absurd (n (eqb-true (at os q) nobody i))
    by false i = rw i refl

pub owned-next : (os : List ℕ) (q : ℕ) → q < length os → owned_in (take (q + 1) os) ≡ owned_in (take q os) + cond (is_owned (at os q)) 1 0
owned-next os q l = sum_by_more (λ (x : ℕ). cond (is_owned x) 1 0) os q 0 l

pub owned-same : (os : List ℕ) (q : ℕ) → q < length os → at os q ≡ nobody → owned_in (take (q + 1) os) ≡ owned_in (take q os)
owned-same os q l o = count_by_more_no is_owned os q 0 l (rw (eq-eqb (at os q) nobody o) refl)

pub owned-le : (os : List ℕ) (q : ℕ) → owned_in (take q os) ≤ owned_in os
owned-le os q = sum_by-take-le (λ (x : ℕ). cond (is_owned x) 1 0) os q

-- ---- places

pub sizes-removed : (e b : ℕ) (ps : List Place) → all_sizes (without e b ps) ≤ b + all_sizes ps
sizes-removed e b [] = omega arith
sizes-removed e b (p ∷ ps) = by_test (eqb p.entry e) (λ b. sizes-removed e b ps)
  where
    by_test : (t : Bool) → ((b : ℕ) → all_sizes (without e b ps) ≤ b + all_sizes ps)
        → all_sizes (cond t (without e (b + p.holes + p.weight) ps) (record p { holes = b + p.holes } ∷ without e 0 ps)) ≤ b + all_sizes (p ∷ ps)
    by_test true more = let h = more (b + p.holes + p.weight) in omega (arith, h)
    by_test false more = let h = more 0 in omega (arith, h)

pub weights-filled : (w : ℕ) (ps : List Place) → all_weights (filled w ps) ≡ all_weights ps
weights-filled w [] = refl
weights-filled w (p ∷ ps) = let h = weights-filled (w - p.holes) ps in omega (arith, h)

pub weights-le : (ps : List Place) → all_weights ps ≤ all_sizes ps
weights-le [] = omega arith
weights-le (p ∷ ps) = let h = weights-le ps in omega (arith, h)

-- either no hole is left, or all was taken from the holes
pub sizes-filled : (w : ℕ) (ps : List Place) → (all_sizes (filled w ps) ≡ all_weights ps) ⊎ (w + all_sizes (filled w ps) ≡ all_sizes ps)
sizes-filled w [] = inl refl
sizes-filled w (p ∷ ps) = by_case (cases_lt p.holes w) (sizes-filled (w - p.holes) ps)
  where
    by_case : (p.holes < w) ⊎ (w ≤ p.holes) → (all_sizes (filled (w - p.holes) ps) ≡ all_weights ps) ⊎ (w - p.holes + all_sizes (filled (w - p.holes) ps) ≡ all_sizes ps)
        → (all_sizes (filled w (p ∷ ps)) ≡ all_weights (p ∷ ps)) ⊎ (w + all_sizes (filled w (p ∷ ps)) ≡ all_sizes (p ∷ ps))
    by_case (inl l) (inl h) = inl (omega (arith, l, h))
    by_case (inl l) (inr h) = inr (omega (arith, l, h))
    by_case (inr l) h =
        let z : w - p.holes ≡ 0 = omega (arith, l) in
        let a = ap (λ (n : ℕ). all_sizes (filled n ps)) z in
        let b = ap all_sizes (filled-none ps) in
        inr (omega (arith, l, a, b))

-- ---- an ask

pub heavy-when : (others w : ℕ) (ps : List Place) → others ≡ all_weights ps → 2 ^ 64 ≤ others + w → 2 ^ 64 ≤ 0 + w + all_sizes (filled w ps)
heavy-when others w ps e l =
    let a = weights-filled w ps in
    let b = weights-le (filled w ps) in
    omega (arith, e, l, a, b)

pub fits-when : (others w : ℕ) (ps : List Place) → others ≡ all_weights ps → all_sizes ps < 2 ^ 64 → others + w < 2 ^ 64 → 0 + w + all_sizes (filled w ps) < 2 ^ 64
fits-when others w ps e s l = by_case (sizes-filled w ps)
  where
    by_case : (all_sizes (filled w ps) ≡ all_weights ps) ⊎ (w + all_sizes (filled w ps) ≡ all_sizes ps) → 0 + w + all_sizes (filled w ps) < 2 ^ 64
    by_case (inl h) = omega (arith, e, l, h)
    by_case (inr h) = omega (arith, s, h)
