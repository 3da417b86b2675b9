-- The places of cells: leaving, filling and heights are the same on both.
use Rattle.std.proofs.Common.{◌≡◌, ℕ, ◌+◌, ◌-◌, ◌≤◌, ◌&&◌, ◌||◌, ltb, eqb, Bool, true, false, cond, List, [], ◌∷◌, Option, Some, None, refl, ap, ap₂, sym, ◌∙◌, arith}
use Rattle.std.specs.Prelude.{option_map}
use Rattle.std.proofs.lemmas.Bool.{ltb-true, ltb-false}
use Rattle.cache_entries.specs.declared.entry.CacheEntryKey.{CacheEntryKey}
use Rattle.cache_entries.specs.Entry.{same_entry}
use Rattle.curve_loads.specs.Steps.{Step, asks, removes, entry_of}
use Rattle.curve_loads.specs.Cells.{Cell, taken, hole, emptied, is_there, height_of, cells_of, filled as cells_filled, height as cell_height}
use Rattle.curve_heights.specs.declared.place.Place.{Place}
use Rattle.curve_heights.specs.Places.{height, without, filled}
use Rattle.curve_sizes.specs.Numbers.{numbered, number_in, places_of}

place-equal : (h h' e w : ℕ) → h ≡ h' → let p : Place = record { holes = h; entry = e; weight = w } in let q : Place = record { holes = h'; entry = e; weight = w } in p ≡ q
place-equal h h' e w p = λ i. record { holes = p i; entry = e; weight = w }

-- ---- entries by number

same-bit : (b : Bool) → ((b && true) && (true && true)) && true ≡ b
same-bit true = refl
same-bit false = refl

pub same-numbered : (m n : ℕ) → same_entry (numbered m) (numbered n) ≡ eqb m n
same-numbered m n = by_test (eqb m n) refl
  where
    by_test : (t : Bool) → eqb m n ≡ t → same_entry (numbered m) (numbered n) ≡ t
    by_test true e = rw e refl
    by_test false e = rw e refl

abbrev pub IsNumber : CacheEntryKey → Type 0
IsNumber e = e ≡ numbered (number_in e)

pub same-number : (x e : CacheEntryKey) → IsNumber x → IsNumber e → same_entry x e ≡ eqb (number_in x) (number_in e)
same-number x e p q = ap₂ same_entry p q ∙ same-numbered (number_in x) (number_in e)

-- the cells of numbered entries
abbrev pub HasNumbers : List Cell → Type 0
HasNumbers [] = Unit {0}
HasNumbers (taken x w ∷ cells) = IsNumber x × HasNumbers cells
HasNumbers (hole w ∷ cells) = HasNumbers cells

pub numbers-emptied : (e : CacheEntryKey) (cells : List Cell) → HasNumbers cells → HasNumbers (emptied e cells)
numbers-emptied e [] h = tt
numbers-emptied e (taken x w ∷ cells) h = by_test (same_entry x e) (numbers-emptied e cells h.1)
  where
    by_test : (t : Bool) → HasNumbers (emptied e cells) → HasNumbers (cond t (hole w) (taken x w) ∷ emptied e cells)
    by_test true i = i
    by_test false i = (h.0, i)
numbers-emptied e (hole w ∷ cells) h = numbers-emptied e cells h

pub numbers-filled : (w : ℕ) (cells : List Cell) → HasNumbers cells → HasNumbers (cells_filled w cells)
numbers-filled w [] h = tt
numbers-filled w (taken x v ∷ cells) h = (h.0, numbers-filled w cells h.1)
numbers-filled w (hole v ∷ cells) h = by_test (ltb w v) (numbers-filled (w - v) cells h)
  where
    by_test : (t : Bool) → HasNumbers (cells_filled (w - v) cells) → HasNumbers (cond t (hole (v - w) ∷ cells) (cells_filled (w - v) cells))
    by_test true i = h
    by_test false i = i

-- ---- an entry leaves

pub places-emptied : (e : CacheEntryKey) (before holes : ℕ) (cells : List Cell) → IsNumber e → HasNumbers cells
    → places_of (before + holes) (emptied e cells) ≡ without (number_in e) before (places_of holes cells)
places-emptied e before holes [] n h = refl
places-emptied e before holes (taken x w ∷ cells) n h = by_test (same_entry x e) (sym (same-number x e h.0 n)) (λ k. places-emptied e k 0 cells n h.1)
  where
    by_test : (t : Bool) → eqb (number_in x) (number_in e) ≡ t → ((k : ℕ) → places_of (k + 0) (emptied e cells) ≡ without (number_in e) k (places_of 0 cells))
        → places_of (before + holes) (cond t (hole w) (taken x w) ∷ emptied e cells) ≡ without (number_in e) before (places_of holes (taken x w ∷ cells))
    by_test true i more =
        let z : before + holes + w + 0 ≡ before + holes + w = omega arith in
        rw i (ap (λ (k : ℕ). places_of k (emptied e cells)) (sym z) ∙ more (before + holes + w))
    by_test false i more =
        let z : 0 + 0 ≡ 0 = omega arith in
        rw i (ap (λ (l : List Place). record { holes = before + holes; entry = number_in x; weight = w } ∷ l) (ap (λ (k : ℕ). places_of k (emptied e cells)) (sym z) ∙ more 0))
places-emptied e before holes (hole w ∷ cells) n h =
    let z : before + holes + w ≡ before + (holes + w) = omega arith in
    ap (λ (k : ℕ). places_of k (emptied e cells)) z ∙ places-emptied e before (holes + w) cells n h

-- ---- a weight is taken from the holes

filled-none : (places : List Place) → filled 0 places ≡ places
filled-none [] = refl
filled-none (p ∷ places) =
    let a : p.holes - 0 ≡ p.holes = omega arith in
    let b : 0 - p.holes ≡ 0 = omega arith in
    ap₂ (λ (m n : ℕ). record p { holes = m } ∷ filled n places) a b ∙ ap (λ (l : List Place). p ∷ l) (filled-none places)

-- holes of w + more in front, of which w are taken
filled-front : (w more : ℕ) (cells : List Cell) → filled w (places_of (w + more) cells) ≡ places_of more cells
filled-front w more [] = refl
filled-front w more (taken x v ∷ cells) =
    let a : w + more - w ≡ more = omega arith in
    let b : w - (w + more) ≡ 0 = omega arith in
    ap₂ (λ (m n : ℕ). record { holes = m; entry = number_in x; weight = v } ∷ filled n (places_of 0 cells)) a b
    ∙ ap (λ (l : List Place). record { holes = more; entry = number_in x; weight = v } ∷ l) (filled-none (places_of 0 cells))
filled-front w more (hole v ∷ cells) =
    let z : w + more + v ≡ w + (more + v) = omega arith in
    ap (λ (k : ℕ). filled w (places_of k cells)) z ∙ filled-front w (more + v) cells

-- holes of v in front, at most w, are taken
filled-more : (w v holes : ℕ) (cells : List Cell) → v ≤ w → filled w (places_of (holes + v) cells) ≡ filled (w - v) (places_of holes cells)
filled-more w v holes [] l = refl
filled-more w v holes (taken x u ∷ cells) l =
    let a : holes + v - w ≡ holes - (w - v) = omega (arith, l) in
    let b : w - (holes + v) ≡ w - v - holes = omega (arith, l) in
    ap₂ (λ (m n : ℕ). record { holes = m; entry = number_in x; weight = u } ∷ filled n (places_of 0 cells)) a b
filled-more w v holes (hole u ∷ cells) l =
    let z : holes + v + u ≡ holes + u + v = omega arith in
    ap (λ (k : ℕ). filled w (places_of k cells)) z ∙ filled-more w v (holes + u) cells l

pub places-filled : (w : ℕ) (cells : List Cell) → places_of 0 (cells_filled w cells) ≡ filled w (places_of 0 cells)
places-filled w [] = refl
places-filled w (taken x v ∷ cells) =
    let b : w - 0 ≡ w = omega arith in
    let a : 0 - w ≡ 0 = omega arith in
    let p : Place = record { holes = 0; entry = number_in x; weight = v } in
    ap (λ (l : List Place). p ∷ l) (places-filled w cells)
    ∙ ap₂ (λ (m n : ℕ). record { holes = m; entry = number_in x; weight = v } ∷ filled n (places_of 0 cells)) (sym a) (sym b)
places-filled w (hole v ∷ cells) = by_test (ltb w v) refl (places-filled (w - v) cells)
  where
    by_test : (t : Bool) → ltb w v ≡ t → places_of 0 (cells_filled (w - v) cells) ≡ filled (w - v) (places_of 0 cells) → places_of 0 (cond t (hole (v - w) ∷ cells) (cells_filled (w - v) cells)) ≡ filled w (places_of (0 + v) cells)
    by_test true i more =
        let l = ltb-true w v i in
        let z : 0 + v ≡ w + (0 + (v - w)) = omega (arith, l) in
        sym (ap (λ (k : ℕ). filled w (places_of k cells)) z ∙ filled-front w (0 + (v - w)) cells)
    by_test false i more = more ∙ sym (filled-more w v 0 cells (ltb-false w v i))

-- ---- heights

pub places-height : (e : CacheEntryKey) (holes : ℕ) (cells : List Cell) → IsNumber e → HasNumbers cells
    → option_map (λ h. holes + h) (height_of e cells) ≡ height (number_in e) (places_of holes cells)
places-height e holes [] n h = refl
places-height e holes (hole w ∷ cells) n h = by_test (is_there e cells) (places-height e (holes + w) cells n h)
  where
    by_test : (t : Bool) → option_map (λ h. holes + w + h) (cond t (Some (cell_height e cells)) None) ≡ height (number_in e) (places_of (holes + w) cells)
        → option_map (λ h. holes + h) (cond t (Some (w + cell_height e cells)) None) ≡ height (number_in e) (places_of (holes + w) cells)
    by_test true i = let z : holes + (w + cell_height e cells) ≡ holes + w + cell_height e cells = omega arith in ap (λ (k : ℕ). Some k) z ∙ i
    by_test false i = i
places-height e holes (taken x w ∷ cells) n h = by_tests (same_entry x e) (is_there e cells) (sym (same-number x e h.0 n)) (places-height e 0 cells n h.1)
  where
    by_tests : (s t : Bool) → eqb (number_in x) (number_in e) ≡ s → option_map (λ h. 0 + h) (cond t (Some (cell_height e cells)) None) ≡ height (number_in e) (places_of 0 cells)
        → option_map (λ h. holes + h) (cond (s || t) (Some (w + cond s 0 (cell_height e cells))) None) ≡ height (number_in e) (places_of holes (taken x w ∷ cells))
    by_tests true t i j = let z : holes + (w + 0) ≡ holes + w = omega arith in rw i (ap (λ (k : ℕ). Some k) z)
    by_tests false true i j =
        let z : holes + (w + cell_height e cells) ≡ holes + w + (0 + cell_height e cells) = omega arith in
        rw i (ap (λ (k : ℕ). Some k) z ∙ ap (λ (o : Option ℕ). option_map (λ more. holes + w + more) o) j)
    by_tests false false i j = rw i (ap (λ (o : Option ℕ). option_map (λ more. holes + w + more) o) j)

-- ---- steps

abbrev pub StepsHaveNumbers : List Step → Type 0
StepsHaveNumbers [] = Unit {0}
StepsHaveNumbers (s ∷ steps) = IsNumber (entry_of s) × StepsHaveNumbers steps

pub numbers-cells : (weight : CacheEntryKey → ℕ) (steps : List Step) → StepsHaveNumbers steps → HasNumbers (cells_of weight steps)
numbers-cells weight [] h = tt
numbers-cells weight (asks e ∷ steps) h = (h.0, numbers-filled (weight e) (emptied e (cells_of weight steps)) (numbers-emptied e (cells_of weight steps) (numbers-cells weight steps h.1)))
numbers-cells weight (removes e ∷ steps) h = numbers-emptied e (cells_of weight steps) (numbers-cells weight steps h.1)
