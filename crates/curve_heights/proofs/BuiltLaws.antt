-- New slots are made of old ones.
use Rattle.std.proofs.Common.{◌≡◌, ◌≢◌, ℕ, zero, suc, ◌+◌, ◌*◌, ◌≤◌, ◌<◌, eqb, Bool, true, false, cond, List, [], ◌∷◌, ◌++◌, refl, ap, ap₂, sym, ◌∙◌, arith, length, set, sum, drop, replicate, ◌⊎◌, inl, inr}
use Rattle.std.proofs.lemmas.Bool.{eqb-true, eq-eqb}
use Rattle.std.proofs.lemmas.List.{length-set, length-append, append_assoc, append-nil, get_or_append_left, get_or-append-add, drop_more}
use Rattle.std.proofs.Math.Seq.{take-length}
use Rattle.std.proofs.lemmas.List.Sums.{sum_by-append, sum_by-cons}
use Rattle.curve_heights.specs.declared.place.Place.{Place}
use Rattle.curve_heights.specs.Slots.{nobody, owned_in, places_in, gaps_in, IsKept, IsBuilt}
use Rattle.curve_heights.proofs.SlotLaws.{at, size}
use Rattle.curve_heights.proofs.WeightLaws.{owned-more, owned-same}
use Rattle.curve_heights.proofs.KeptLaws.{decide, at-same, at-other}

at-replicate : (n x j : ℕ) → j < n → at (replicate n x) j ≡ x
at-replicate zero x j l = absurd (omega (arith, l))
at-replicate (suc n) x zero l = refl
at-replicate (suc n) x (suc j) l = at-replicate n x j (omega (arith, l))

length-replicate : (n x : ℕ) → length (replicate n x) ≡ n
length-replicate zero x = refl
length-replicate (suc n) x = let h = length-replicate n x in omega (arith, h)

places-free : (n : ℕ) (os ws : List ℕ) → places_in 0 (replicate n nobody ++ os) (replicate n 0 ++ ws) ≡ places_in 0 os ws
places-free zero os ws = refl
places-free (suc n) os ws = let z : 0 + 0 ≡ 0 = omega arith in ap (λ (x : ℕ). places_in x (replicate n nobody ++ os) (replicate n 0 ++ ws)) z ∙ places-free n os ws

places-none : (n : ℕ) → places_in 0 (replicate n nobody) (replicate n 0) ≡ []
places-none zero = refl
places-none (suc n) = let z : 0 + 0 ≡ 0 = omega arith in ap (λ (x : ℕ). places_in x (replicate n nobody) (replicate n 0)) z ∙ places-none n

sum-none : (n : ℕ) → sum (replicate n 0) ≡ 0
sum-none zero = refl
sum-none (suc n) = let h = sum-none n in let c = sum_by-cons size 0 (replicate n 0) in omega (arith, h, c)

pub built-begin : (os ws : List ℕ) (free entries : ℕ) → IsBuilt os ws free 0 0 entries (replicate free nobody) (replicate free 0) (replicate entries nobody)
built-begin os ws free entries =
    let n = length-replicate free nobody in
    let m = length-replicate free 0 in
    let e = length-replicate entries nobody in
    let s = sum-none free in
    record {
      apart = λ xs ys. places-free free xs ys ∙ ap (λ (l : List Place). l ++ places_in 0 xs ys) (sym (places-none free));
      places = ap (λ (l : List Place). l ++ places_in 0 os ws) (places-none free);
      lengths = m ∙ sym n;
      most = omega (arith, n);
      least = omega (arith, n);
      sums = omega (arith, s);
      owned = λ j l x. absurd (x (at-replicate free nobody j (omega (arith, l, n))));
      came = λ j l x. absurd (x (at-replicate free nobody j (omega (arith, l, n))));
      placed = λ x l y. absurd (y (at-replicate entries nobody x (omega (arith, l, e))));
      none = λ j l. (at-replicate free nobody j l, at-replicate free 0 j l);
      entries_are = e;
    }

module _ (os ws : List ℕ) (free q hole entries : ℕ) (os' ws' ss' : List ℕ) (b : IsBuilt os ws free q hole entries os' ws' ss') (lengths : length ws ≡ length os) (lq : q < length os) where
  pub next-sum : sum (drop q ws) ≡ at ws q + sum (drop (q + 1) ws)
  next-sum = let l : q < length ws = omega (arith, lq, lengths) in ap (λ (x : List ℕ). sum x) (drop_more ws q 0 l) ∙ sum_by-cons size (at ws q) (drop (q + 1) ws)

  next-places : places_in hole (drop q os) (drop q ws) ≡ places_in hole (at os q ∷ drop (q + 1) os) (at ws q ∷ drop (q + 1) ws)
  next-places = let l : q < length ws = omega (arith, lq, lengths) in ap₂ (places_in hole) (drop_more os q 0 lq) (drop_more ws q 0 l)

  pub built-hole : at os q ≡ nobody → IsBuilt os ws free (q + 1) (hole + at ws q) entries os' ws' ss'
  built-hole o =
      let p : places_in hole (drop q os) (drop q ws) ≡ places_in (hole + at ws q) (drop (q + 1) os) (drop (q + 1) ws)
      = next-places ∙ rw (eq-eqb (at os q) nobody o) refl in
      record {
        apart = b.apart;
        places = ap (λ (l : List Place). places_in 0 os' ws' ++ l) (sym p) ∙ b.places;
        lengths = b.lengths;
        most = let m = owned-same os q lq o in omega (arith, b.most, m);
        least = b.least;
        sums = omega (arith, b.sums, next-sum);
        owned = b.owned;
        came = λ j l n. let c = b.came j l n in (c.0, omega (arith, c.1), c.2);
        placed = b.placed;
        none = b.none;
        entries_are = b.entries_are;
      }

  module _ (o : at os q ≢ nobody) (within : at os q < length ss') (slot : (p : ℕ) → p < length os → at os p ≡ at os q → p ≡ q) where
    not-test : eqb (at os q) nobody ≡ false
    not-test = by (eqb (at os q) nobody) refl
      where
        by : (t : Bool) → eqb (at os q) nobody ≡ t → t ≡ false
        by true i = absurd (o (eqb-true (at os q) nobody i))
        by false i = refl

    abbrev os2 : List ℕ
    os2 = os' ++ nobody ∷ at os q ∷ []

    abbrev ws2 : List ℕ
    ws2 = ws' ++ hole ∷ at ws q ∷ []

    abbrev ss2 : List ℕ
    ss2 = set ss' (at os q) (length os' + 1)

    len2 : length os2 ≡ length os' + 2
    len2 = length-append os' (nobody ∷ at os q ∷ []) ∙ omega arith

    pair : (xs ys : List ℕ) → places_in 0 (nobody ∷ at os q ∷ xs) (hole ∷ at ws q ∷ ys) ≡ record { holes = hole; entry = at os q; weight = at ws q } ∷ places_in 0 xs ys
    pair xs ys = let z : 0 + hole ≡ hole = omega arith in rw not-test (ap (λ (h : ℕ). record { holes = h; entry = at os q; weight = at ws q } ∷ places_in 0 xs ys) z)

    places2 : places_in 0 os2 ws2 ≡ places_in 0 os' ws' ++ record { holes = hole; entry = at os q; weight = at ws q } ∷ []
    places2 = b.apart (nobody ∷ at os q ∷ []) (hole ∷ at ws q ∷ []) ∙ ap (λ (l : List Place). places_in 0 os' ws' ++ l) (pair [] [])

    apart2 : (xs ys : List ℕ) → places_in 0 (os2 ++ xs) (ws2 ++ ys) ≡ places_in 0 os2 ws2 ++ places_in 0 xs ys
    apart2 xs ys =
        ap₂ (places_in 0) (append_assoc os' (nobody ∷ at os q ∷ []) xs) (append_assoc ws' (hole ∷ at ws q ∷ []) ys)
        ∙ b.apart (nobody ∷ at os q ∷ xs) (hole ∷ at ws q ∷ ys) ∙ ap (λ (l : List Place). places_in 0 os' ws' ++ l) (pair xs ys)
        ∙ sym (append_assoc (places_in 0 os' ws') (record { holes = hole; entry = at os q; weight = at ws q } ∷ []) (places_in 0 xs ys))
        ∙ ap (λ (l : List Place). l ++ places_in 0 xs ys) (sym places2)

    rest : places_in hole (drop q os) (drop q ws) ≡ record { holes = hole; entry = at os q; weight = at ws q } ∷ places_in 0 (drop (q + 1) os) (drop (q + 1) ws)
    rest = next-places ∙ rw not-test refl

    at-hole : at os2 (length os') ≡ nobody
    at-hole = let z : length os' ≡ length os' + 0 = omega arith in ap (at os2) z ∙ get_or-append-add os' (nobody ∷ at os q ∷ []) 0 0

    at-new : at os2 (length os' + 1) ≡ at os q
    at-new = get_or-append-add os' (nobody ∷ at os q ∷ []) 1 0

    owned2 : (j : ℕ) → j < length os2 → at os2 j ≢ nobody → (at os2 j < length ss2) × (at ss2 (at os2 j) ≡ j)
    owned2 j l n = by (decide j (length os')) (decide j (length os' + 1))
      where
        ls : length ss2 ≡ length ss'
        ls = length-set ss' (at os q) (length os' + 1)

        by : (j ≡ length os') ⊎ (j ≢ length os') → (j ≡ length os' + 1) ⊎ (j ≢ length os' + 1) → (at os2 j < length ss2) × (at ss2 (at os2 j) ≡ j)
        by (inl x) y = absurd (n (ap (at os2) x ∙ at-hole))
        by (inr x) (inl y) =
            let a = ap (at os2) y ∙ at-new in
            (omega (arith, a, within, ls), ap (at ss2) a ∙ at-same ss' (at os q) (length os' + 1) within ∙ sym y)
        by (inr x) (inr y) =
            let m : j < length os' = omega (arith, l, len2, x, y) in
            let a = get_or_append_left os' (nobody ∷ at os q ∷ []) 0 j m in
            let h = b.owned j m (λ z. n (a ∙ z)) in
            let c = b.came j m (λ z. n (a ∙ z)) in
            let ne : at os' j ≢ at os q = λ z. (let t = slot c.0 (omega (arith, c.1, lq)) (c.2 ∙ z) in absurd (omega (arith, t, c.1))) in
            (omega (arith, a, h.0, ls), ap (at ss2) a ∙ at-other ss' (at os q) (at os' j) (length os' + 1) ne ∙ h.1)

    came2 : (j : ℕ) → j < length os2 → at os2 j ≢ nobody → (p : ℕ) × (p < q + 1) × (at os p ≡ at os2 j)
    came2 j l n = by (decide j (length os')) (decide j (length os' + 1))
      where
        by : (j ≡ length os') ⊎ (j ≢ length os') → (j ≡ length os' + 1) ⊎ (j ≢ length os' + 1) → (p : ℕ) × (p < q + 1) × (at os p ≡ at os2 j)
        by (inl x) y = absurd (n (ap (at os2) x ∙ at-hole))
        by (inr x) (inl y) = (q, omega arith, sym at-new ∙ ap (at os2) (sym y))
        by (inr x) (inr y) =
            let m : j < length os' = omega (arith, l, len2, x, y) in
            let a = get_or_append_left os' (nobody ∷ at os q ∷ []) 0 j m in
            let c = b.came j m (λ z. n (a ∙ z)) in
            (c.0, omega (arith, c.1), c.2 ∙ sym a)

    placed2 : (e : ℕ) → e < length ss2 → at ss2 e ≢ nobody → (at ss2 e < length os2) × (at os2 (at ss2 e) ≡ e)
    placed2 e l n = by (decide e (at os q))
      where
        ls : length ss2 ≡ length ss'
        ls = length-set ss' (at os q) (length os' + 1)

        by : (e ≡ at os q) ⊎ (e ≢ at os q) → (at ss2 e < length os2) × (at os2 (at ss2 e) ≡ e)
        by (inl x) =
            let a = ap (at ss2) x ∙ at-same ss' (at os q) (length os' + 1) within in
            (omega (arith, a, len2), ap (at os2) a ∙ at-new ∙ sym x)
        by (inr x) =
            let a = at-other ss' (at os q) e (length os' + 1) x in
            let h = b.placed e (omega (arith, l, ls)) (λ z. n (a ∙ z)) in
            (omega (arith, a, h.0, len2), ap (at os2) a ∙ get_or_append_left os' (nobody ∷ at os q ∷ []) 0 (at ss' e) h.0 ∙ h.1)

    pub built-entry : IsBuilt os ws free (q + 1) 0 entries os2 ws2 ss2
    built-entry =
        let lw = length-append ws' (hole ∷ at ws q ∷ []) in
        let sw = sum_by-append size ws' (hole ∷ at ws q ∷ []) in
        let two : sum (hole ∷ at ws q ∷ []) ≡ hole + at ws q = (let c = sum_by-cons size hole (at ws q ∷ []) in let d = sum_by-cons size (at ws q) [] in omega (arith, c, d)) in
        let ls = length-set ss' (at os q) (length os' + 1) in
        record {
          apart = apart2;
          places = ap (λ (l : List Place). l ++ places_in 0 (drop (q + 1) os) (drop (q + 1) ws)) places2
              ∙ append_assoc (places_in 0 os' ws') (record { holes = hole; entry = at os q; weight = at ws q } ∷ []) (places_in 0 (drop (q + 1) os) (drop (q + 1) ws))
              ∙ ap (λ (l : List Place). places_in 0 os' ws' ++ l) (sym rest) ∙ b.places;
          lengths = omega (arith, lw, len2, b.lengths);
          most = let m = owned-more os q lq o in omega (arith, len2, b.most, m);
          least = omega (arith, len2, b.least);
          sums = omega (arith, sw, two, b.sums, next-sum);
          owned = owned2;
          came = came2;
          placed = placed2;
          none = λ j l. let g = b.none j l in
              (get_or_append_left os' (nobody ∷ at os q ∷ []) 0 j (omega (arith, l, b.least)) ∙ g.0, get_or_append_left ws' (hole ∷ at ws q ∷ []) 0 j (omega (arith, l, b.least, b.lengths)) ∙ g.1);
          entries_are = ls ∙ b.entries_are;
        }

no-weights : (hole : ℕ) (os : List ℕ) → places_in hole os [] ≡ []
no-weights hole [] = refl
no-weights hole (o ∷ os) = refl

nothing-left : (hole : ℕ) (os ws : List ℕ) (q : ℕ) → length os ≤ q → places_in hole (drop q os) (drop q ws) ≡ []
nothing-left hole [] ws zero l = refl
nothing-left hole [] ws (suc q) l = refl
nothing-left hole (o ∷ os) ws zero l = absurd (omega (arith, l))
nothing-left hole (o ∷ os) [] (suc q) l = no-weights hole (drop q os)
nothing-left hole (o ∷ os) (w ∷ ws) (suc q) l = nothing-left hole os ws q (omega (arith, l))

-- once all are done
pub built-all : (os ws : List ℕ) (free hole entries : ℕ) (os' ws' ss' : List ℕ) → IsBuilt os ws free (length os) hole entries os' ws' ss' → free + 2 * owned_in os < 4294967295 → entries ≤ 4294967295
    → IsKept os' ws' (gaps_in os' ws') ss' free × (places_in 0 os' ws' ≡ places_in 0 os ws) × (sum ws' ≤ sum ws)
built-all os ws free hole entries os' ws' ss' b few fewer = (
  record {
    lengths = b.lengths;
    gaps_are = refl;
    owned = b.owned;
    placed = b.placed;
    free = b.none;
    within = b.least;
    few = let m = ap owned_in (take-length os) in omega (arith, b.most, few, m);
    fewer = omega (arith, b.entries_are, fewer);
  },
  sym (append-nil (places_in 0 os' ws')) ∙ ap (λ (l : List Place). places_in 0 os' ws' ++ l) (sym (nothing-left hole os ws (length os) (omega arith))) ∙ b.places,
  omega (arith, b.sums),
)

pub gaps-more : (made os ws : List ℕ) (q : ℕ) → length ws ≡ length os → q < length os
    → (made ++ cond (eqb (at os q) nobody) (at ws q) 0 ∷ []) ++ gaps_in (drop (q + 1) os) (drop (q + 1) ws) ≡ made ++ gaps_in (drop q os) (drop q ws)
gaps-more made os ws q s l =
    let m : q < length ws = omega (arith, l, s) in
    append_assoc made (cond (eqb (at os q) nobody) (at ws q) 0 ∷ []) (gaps_in (drop (q + 1) os) (drop (q + 1) ws))
    ∙ ap (λ (x : List ℕ). made ++ x) (sym (ap₂ gaps_in (drop_more os q 0 l) (drop_more ws q 0 m)))
