-- Owners, weights, gaps and slots stay together where an entry leaves, a hole is filled, an entry enters, and slots are added.
use Rattle.std.proofs.Common.{◌≡◌, ◌≢◌, ℕ, ◌+◌, ◌-◌, ◌≤◌, ◌<◌, eqb, Bool, true, false, List, [], ◌∷◌, ◌++◌, Some, None, refl, ap, ap₂, sym, ◌∙◌, arith, length, set, subst, sum, take, ◌⊎◌, inl, inr, suc}
use Rattle.std.proofs.lemmas.Bool.{eqb-true, eq-eqb, false≢true}
use Rattle.std.proofs.lemmas.List.{length-set, get_or-set_same, get_or-set_other, length_push, get_or_push, get_or_append_left}
use Rattle.std.proofs.lemmas.List.Sums.{sum_by-set}
use Rattle.curve_heights.specs.Places.{height, removed, filled}
use Rattle.curve_heights.specs.Slots.{nobody, places_in, IsKept}
use Rattle.curve_heights.proofs.SlotLaws.{at, size, height-none, height-slot, without-none, without-slot, gaps-left, filled-slot, gaps-filled, gap-at, gap-owned, gaps-length, filled-twice, places-entered, gaps-entered}

pub decide : (p q : ℕ) → (p ≡ q) ⊎ (p ≢ q)
decide p q = by (eqb p q) refl
  where
    by : (t : Bool) → eqb p q ≡ t → (p ≡ q) ⊎ (p ≢ q)
    by true i = inl (eqb-true p q i)
    by false i = inr (λ e. false≢true (sym i ∙ eq-eqb p q e))

pub at-same : (xs : List ℕ) (i v : ℕ) → i < length xs → at (set xs i v) i ≡ v
at-same xs i v l = get_or-set_same xs i v 0 l

pub at-other : (xs : List ℕ) (i j v : ℕ) → j ≢ i → at (set xs i v) j ≡ at xs j
at-other xs i j v n = get_or-set_other xs i j v 0 n

module _ (os ws gs ss : List ℕ) (next : ℕ) (k : IsKept os ws gs ss next) where
  not-nobody : (e : ℕ) → e < length ss → e ≢ nobody
  not-nobody e l = λ q. absurd (omega (arith, l, q, k.fewer))

  -- where an entry with a slot stands
  pub stands : (e q : ℕ) → e < length ss → at ss e ≡ q → q ≢ nobody → (q < length os) × (at os q ≡ e)
  stands e q l s n = subst (λ (x : ℕ). (x < length os) × (at os x ≡ e)) s (k.placed e l (λ x. n (sym s ∙ x)))

  pub gaps-within : (q : ℕ) → q < length os → q < length gs
  gaps-within q l = let n = gaps-length os ws k.lengths in let m = ap (λ (g : List ℕ). length g) k.gaps_are in omega (arith, l, n, m)

  pub not-owner : (e : ℕ) → e < length ss → e ≢ nobody
  not-owner e l = λ q. absurd (omega (arith, l, q, k.fewer))

  slot-is : (p : ℕ) → p < length os → at os p ≢ nobody → at ss (at os p) ≡ p
  slot-is p l n = (k.owned p l n).1

  pub one-slot : (e q : ℕ) → e < length ss → q < length os → at os q ≡ e → (p : ℕ) → p < length os → at os p ≡ e → p ≡ q
  one-slot e q le lq oq p lp op =
      let n = not-nobody e le in
      sym (slot-is p lp (λ x. n (sym op ∙ x))) ∙ ap (at ss) (op ∙ sym oq) ∙ slot-is q lq (λ x. n (sym oq ∙ x))

  pub no-slot : (e : ℕ) → (e < length ss → at ss e ≡ nobody) → (p : ℕ) → p < length os → at os p ≢ nobody → at os p ≢ e
  no-slot e none p l n = λ q.
      let o = k.owned p l n in
      let s : at ss e ≡ p = ap (at ss) (sym q) ∙ o.1 in
      let h : e < length ss = subst (λ (x : ℕ). x < length ss) q o.0 in
      let m = none h in
      absurd (omega (arith, l, k.few, s, m))

  pub height-there : (e q : ℕ) → e < length ss → q < length os → at os q ≡ e → height e (places_in 0 os ws) ≡ Some (sum (take (suc q) ws))
  height-there e q le lq oq =
      let z : 0 + sum (take (suc q) ws) ≡ sum (take (suc q) ws) = omega arith in
      height-slot e 0 os ws q (not-nobody e le) k.lengths lq oq (λ p l o. one-slot e q le lq oq p l o) ∙ ap (λ (m : ℕ). Some m) z

  pub height-gone : (e : ℕ) → (e < length ss → at ss e ≡ nobody) → height e (places_in 0 os ws) ≡ None
  height-gone e none = height-none e 0 os ws (no-slot e none)

  pub removed-there : (e q : ℕ) → e < length ss → q < length os → at os q ≡ e → places_in 0 (set os q nobody) ws ≡ removed e (places_in 0 os ws)
  removed-there e q le lq oq =
      let z : 0 ≡ 0 + 0 = omega arith in
      ap (λ (m : ℕ). places_in m (set os q nobody) ws) z ∙ without-slot e 0 0 os ws q (not-nobody e le) k.lengths lq oq (λ p l o. one-slot e q le lq oq p l o)

  pub removed-gone : (e : ℕ) → (e < length ss → at ss e ≡ nobody) → places_in 0 os ws ≡ removed e (places_in 0 os ws)
  removed-gone e none = let z : 0 ≡ 0 + 0 = omega arith in ap (λ (m : ℕ). places_in m os ws) z ∙ without-none e 0 0 os ws (no-slot e none)

  -- what the hole of an owned slot adds to the holes
  pub gap-room : (q : ℕ) → q < length os → at os q ≢ nobody → (at gs q ≡ 0) × (sum gs + at ws q ≤ sum ws)
  gap-room q l n = subst (λ (g : List ℕ). (at g q ≡ 0) × (sum g + at ws q ≤ sum ws)) (sym k.gaps_are) (gap-owned os ws q k.lengths l n)

  pub kept-left : (e q : ℕ) → e < length ss → q < length os → at os q ≡ e → IsKept (set os q nobody) ws (set gs q (at gs q + at ws q)) (set ss e nobody) next
  kept-left e q le lq oq =
      let n = not-nobody e le in
      let nq : at os q ≢ nobody = λ x. n (sym oq ∙ x) in
      let r = gap-room q lq nq in
      let lo = length-set os q nobody in
      let ls = length-set ss e nobody in
      let w : at gs q + at ws q ≡ at ws q = omega (arith, r.0) in
      record {
        lengths = k.lengths ∙ sym lo;
        gaps_are = ap₂ (λ (g : List ℕ) (v : ℕ). set g q v) k.gaps_are w ∙ sym (gaps-left os ws q k.lengths lq);
        owned = λ p l m. owned-left p (omega (arith, l, lo)) m (decide p q);
        placed = λ x l m. placed-left x (omega (arith, l, ls)) m (decide x e);
        free = λ j l. (free-left j l (decide j q), (k.free j l).1);
        within = omega (arith, lo, k.within);
        few = omega (arith, lo, k.few);
        fewer = omega (arith, ls, k.fewer);
      }
    where
      slot-q : at ss e ≡ q
      slot-q = ap (at ss) (sym oq) ∙ slot-is q lq (λ x. not-nobody e le (sym oq ∙ x))

      owned-left : (p : ℕ) → p < length os → at (set os q nobody) p ≢ nobody → (p ≡ q) ⊎ (p ≢ q)
          → (at (set os q nobody) p < length (set ss e nobody)) × (at (set ss e nobody) (at (set os q nobody) p) ≡ p)
      owned-left p l m (inl x) = absurd (m (ap (at (set os q nobody)) x ∙ at-same os q nobody lq))
      owned-left p l m (inr x) =
          let o = at-other os q p nobody x in
          let h = k.owned p l (λ y. m (o ∙ y)) in
          let ne : at os p ≢ e = λ y. x (sym h.1 ∙ ap (at ss) y ∙ slot-q) in
          let ls = length-set ss e nobody in
          (omega (arith, o, h.0, ls), ap (at (set ss e nobody)) o ∙ at-other ss e (at os p) nobody ne ∙ h.1)

      placed-left : (x : ℕ) → x < length ss → at (set ss e nobody) x ≢ nobody → (x ≡ e) ⊎ (x ≢ e)
          → (at (set ss e nobody) x < length (set os q nobody)) × (at (set os q nobody) (at (set ss e nobody) x) ≡ x)
      placed-left x l m (inl y) = absurd (m (ap (at (set ss e nobody)) y ∙ at-same ss e nobody le))
      placed-left x l m (inr y) =
          let o = at-other ss e x nobody y in
          let h = k.placed x l (λ z. m (o ∙ z)) in
          let nq : at ss x ≢ q = λ z. y (sym h.1 ∙ ap (at os) z ∙ oq) in
          let lo = length-set os q nobody in
          (omega (arith, o, h.0, lo), ap (at (set os q nobody)) o ∙ at-other os q (at ss x) nobody nq ∙ h.1)

      free-left : (j : ℕ) → j < next → (j ≡ q) ⊎ (j ≢ q) → at (set os q nobody) j ≡ nobody
      free-left j l (inl x) = ap (at (set os q nobody)) x ∙ at-same os q nobody lq
      free-left j l (inr x) = at-other os q j nobody x ∙ (k.free j l).0

  pub gone-left : (e : ℕ) → e < length ss → at (set ss e nobody) e ≡ nobody
  gone-left e le = at-same ss e nobody le

  pub hole-within : (h : ℕ) → h < length gs → h < length os
  hole-within h l = let n = gaps-length os ws k.lengths in let m = ap (λ (g : List ℕ). length g) k.gaps_are in omega (arith, l, n, m)

  pub hole-weighs : (h : ℕ) → h < length os → 0 < at gs h → (at gs h ≡ at ws h) × (at os h ≡ nobody)
  hole-weighs h l p =
      subst (λ (g : List ℕ). (at g h ≡ at ws h) × (at os h ≡ nobody)) (sym k.gaps_are) (gap-at os ws h k.lengths l (subst (λ (g : List ℕ). 0 < at g h) k.gaps_are p))

  pub kept-filled : (h t : ℕ) → h < length os → 0 < at gs h → IsKept os (set ws h (at ws h - t)) (set gs h (at gs h - t)) ss next
  kept-filled h t l p =
      let lw = length-set ws h (at ws h - t) in
      record {
        lengths = lw ∙ k.lengths;
        gaps_are = ap (λ (g : List ℕ). set g h (at g h - t)) k.gaps_are ∙ sym (gaps-filled t os ws h k.lengths l (subst (λ (g : List ℕ). 0 < at g h) k.gaps_are p));
        owned = k.owned;
        placed = k.placed;
        free = λ j m. ((k.free j m).0, free-filled j m (decide j h));
        within = k.within;
        few = k.few;
        fewer = k.fewer;
      }
    where
      free-filled : (j : ℕ) → j < next → (j ≡ h) ⊎ (j ≢ h) → at (set ws h (at ws h - t)) j ≡ 0
      free-filled j m (inl x) =
          let lh : h < length ws = omega (arith, l, k.lengths) in
          let z = ap (at ws) (sym x) ∙ (k.free j m).1 in
          let s = ap (at (set ws h (at ws h - t))) x ∙ at-same ws h (at ws h - t) lh in
          omega (arith, s, z)
      free-filled j m (inr x) = at-other ws h j (at ws h - t) x ∙ (k.free j m).1

  pub places-filled : (h t left : ℕ) → h < length os → sum (take h gs) ≡ 0 → 0 < at gs h → t ≤ at gs h → t ≤ left
      → filled (left - t) (places_in 0 os (set ws h (at ws h - t))) ≡ filled left (places_in 0 os ws)
  places-filled h t left l z p m n =
      let w = (hole-weighs h l p).0 in
      let one = filled-slot t os ws h k.lengths l (subst (λ (g : List ℕ). sum (take h g) ≡ 0) k.gaps_are z) (subst (λ (g : List ℕ). 0 < at g h) k.gaps_are p) (omega (arith, m, w)) in
      let y : t + (left - t) ≡ left = omega (arith, n) in
      ap (filled (left - t)) one ∙ filled-twice (left - t) t (places_in 0 os ws) ∙ ap (λ (x : ℕ). filled x (places_in 0 os ws)) y

  pub kept-entered : (e w : ℕ) → 0 < next → e < length ss → at ss e ≡ nobody
      → IsKept (set os (next - 1) e) (set ws (next - 1) (at ws (next - 1) + w)) gs (set ss e (next - 1)) (next - 1)
  kept-entered e w some le none =
      let s = next - 1 in
      let n = not-nobody e le in
      let ls : s < length os = omega (arith, some, k.within) in
      let f = k.free s (omega (arith, some)) in
      let lo = length-set os s e in
      let lw = length-set ws s (at ws s + w) in
      let lss = length-set ss e s in
      record {
        lengths = lw ∙ k.lengths ∙ sym lo;
        gaps_are = k.gaps_are ∙ sym (gaps-entered e (at ws s + w) os ws s n k.lengths ls f.1);
        owned = λ p l m. owned-in p (omega (arith, l, lo)) m (decide p s);
        placed = λ x l m. placed-in x (omega (arith, l, lss)) m (decide x e);
        free = λ j l. let ne : j ≢ next - 1 = omega (arith, l) in let g = k.free j (omega (arith, l)) in
            (at-other os (next - 1) j e ne ∙ g.0, at-other ws (next - 1) j (at ws (next - 1) + w) ne ∙ g.1);
        within = omega (arith, lo, k.within);
        few = omega (arith, lo, k.few);
        fewer = omega (arith, lss, k.fewer);
      }
    where
      ls : next - 1 < length os
      ls = omega (arith, some, k.within)

      owned-in : (p : ℕ) → p < length os → at (set os (next - 1) e) p ≢ nobody → (p ≡ next - 1) ⊎ (p ≢ next - 1)
          → (at (set os (next - 1) e) p < length (set ss e (next - 1))) × (at (set ss e (next - 1)) (at (set os (next - 1) e) p) ≡ p)
      owned-in p l m (inl x) =
          let o = ap (at (set os (next - 1) e)) x ∙ at-same os (next - 1) e ls in
          let lss = length-set ss e (next - 1) in
          (omega (arith, o, le, lss), ap (at (set ss e (next - 1))) o ∙ at-same ss e (next - 1) le ∙ sym x)
      owned-in p l m (inr x) =
          let o = at-other os (next - 1) p e x in
          let h = k.owned p l (λ y. m (o ∙ y)) in
          let ne : at os p ≢ e = λ y. (let t = sym h.1 ∙ ap (at ss) y ∙ none in absurd (omega (arith, t, l, k.few))) in
          let lss = length-set ss e (next - 1) in
          (omega (arith, o, h.0, lss), ap (at (set ss e (next - 1))) o ∙ at-other ss e (at os p) (next - 1) ne ∙ h.1)

      placed-in : (x : ℕ) → x < length ss → at (set ss e (next - 1)) x ≢ nobody → (x ≡ e) ⊎ (x ≢ e)
          → (at (set ss e (next - 1)) x < length (set os (next - 1) e)) × (at (set os (next - 1) e) (at (set ss e (next - 1)) x) ≡ x)
      placed-in x l m (inl y) =
          let o = ap (at (set ss e (next - 1))) y ∙ at-same ss e (next - 1) le in
          let lo = length-set os (next - 1) e in
          (omega (arith, o, ls, lo), ap (at (set os (next - 1) e)) o ∙ at-same os (next - 1) e ls ∙ sym y)
      placed-in x l m (inr y) =
          let o = at-other ss e x (next - 1) y in
          let h = k.placed x l (λ z. m (o ∙ z)) in
          let f = (k.free (next - 1) (omega (arith, some))).0 in
          let ns : at ss x ≢ next - 1 = λ z. (let t = sym h.1 ∙ ap (at os) z ∙ f in absurd (omega (arith, t, l, k.fewer))) in
          let lo = length-set os (next - 1) e in
          (omega (arith, o, h.0, lo), ap (at (set os (next - 1) e)) o ∙ at-other os (next - 1) (at ss x) e ns ∙ h.1)

  pub entered : (e w : ℕ) → 0 < next → e < length ss → places_in 0 (set os (next - 1) e) (set ws (next - 1) (at ws (next - 1) + w)) ≡ record { holes = 0; entry = e; weight = w } ∷ places_in 0 os ws
  entered e w some le =
      let ls : next - 1 < length os = omega (arith, some, k.within) in
      let f = (k.free (next - 1) (omega (arith, some))).1 in
      let z : at ws (next - 1) + w ≡ w = omega (arith, f) in
      ap (λ (v : ℕ). places_in 0 (set os (next - 1) e) (set ws (next - 1) v)) z ∙ places-entered e w os ws (next - 1) (not-nobody e le) k.lengths ls (λ j l. k.free j (omega (arith, l, some)))

  pub kept-grown : length ss < 4294967295 → IsKept os ws gs (ss ++ nobody ∷ []) next
  kept-grown few =
      let p = length_push ss nobody in
      record {
        lengths = k.lengths;
        gaps_are = k.gaps_are;
        owned = λ q l m. let h = k.owned q l m in (omega (arith, p, h.0), get_or_append_left ss (nobody ∷ []) 0 (at os q) h.0 ∙ h.1);
        placed = λ x l m. placed-on x m (decide x (length ss)) (omega (arith, l, p));
        free = k.free;
        within = k.within;
        few = k.few;
        fewer = omega (arith, p, few);
      }
    where
      placed-on : (x : ℕ) → at (ss ++ nobody ∷ []) x ≢ nobody → (x ≡ length ss) ⊎ (x ≢ length ss) → x ≤ length ss → (at (ss ++ nobody ∷ []) x < length os) × (at os (at (ss ++ nobody ∷ []) x) ≡ x)
      placed-on x m (inl y) l = absurd (m (get_or_push ss nobody 0 x (sym y)))
      placed-on x m (inr y) l =
          let b : x < length ss = omega (arith, l, y) in
          let o = get_or_append_left ss (nobody ∷ []) 0 x b in
          let h = k.placed x b (λ z. m (o ∙ z)) in
          (omega (arith, o, h.0), ap (at os) o ∙ h.1)

pub set-less : (xs : List ℕ) (i t : ℕ) → i < length xs → t ≤ at xs i → sum (set xs i (at xs i - t)) + t ≡ sum xs
set-less xs i t l m = let s = sum_by-set size xs i (at xs i - t) 0 l in omega (arith, s, m)
