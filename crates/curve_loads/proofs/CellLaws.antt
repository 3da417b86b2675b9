-- Cells as rows and holes.
use Rattle.std.proofs.Common.{◌≡◌, ℕ, ◌+◌, ◌-◌, ◌||◌, Bool, true, false, cond, ltb, List, [], ◌∷◌, refl, ap, sym, ◌∙◌, arith}
use Rattle.std.specs.Prelude.{not}
use Rattle.std.proofs.lemmas.Bool.{false≢true, ltb-true, ltb-false}
use Rattle.cache_entries.specs.declared.entry.CacheEntryKey.{CacheEntryKey}
use Rattle.cache_entries.specs.declared.rows.Tracked.{Tracked}
use Rattle.cache_entries.specs.Entry.{same_entry}
use Rattle.cache_entries.specs.Rows.{all_weights, without_row}
use Rattle.curve_loads.proofs.Entries.{apart}
use Rattle.curve_loads.proofs.Limits.{weights-cons}
use Rattle.curve_loads.specs.Cells.{Cell, taken, hole, emptied, filled, is_there, height}

abbrev pub row : CacheEntryKey → ℕ → Tracked
row x w = record { entry = x; weight = w }

-- the entries up to e
abbrev pub rows_to : CacheEntryKey → List Cell → List Tracked
rows_to e [] = []
rows_to e (taken x w ∷ cells) = row x w ∷ cond (same_entry x e) [] (rows_to e cells)
rows_to e (hole w ∷ cells) = rows_to e cells

-- the holes up to e
abbrev pub gaps : CacheEntryKey → List Cell → ℕ
gaps e [] = 0
gaps e (taken x w ∷ cells) = cond (same_entry x e) 0 (gaps e cells)
gaps e (hole w ∷ cells) = w + gaps e cells

pub height-parts : (e : CacheEntryKey) (cells : List Cell) → height e cells ≡ all_weights (rows_to e cells) + gaps e cells
height-parts e [] = omega arith
height-parts e (taken x w ∷ cells) = by_test (same_entry x e) (height-parts e cells)
  where
    by_test : (t : Bool) → height e cells ≡ all_weights (rows_to e cells) + gaps e cells
        → w + cond t 0 (height e cells) ≡ all_weights (row x w ∷ cond t [] (rows_to e cells)) + cond t 0 (gaps e cells)
    by_test true h = let c = weights-cons (row x w) [] in omega (arith, c)
    by_test false h = let c = weights-cons (row x w) (rows_to e cells) in omega (arith, c, h)
height-parts e (hole w ∷ cells) = let h = height-parts e cells in omega (arith, h)

-- ---- another leaves

pub rows_to-emptied : (e x : CacheEntryKey) (cells : List Cell) → same_entry x e ≡ false → rows_to e (emptied x cells) ≡ without_row x (rows_to e cells)
rows_to-emptied e x [] t = refl
rows_to-emptied e x (taken y w ∷ cells) t = by_tests (same_entry y x) (same_entry y e) refl refl (rows_to-emptied e x cells t)
  where
    by_tests : (a b : Bool) → same_entry y x ≡ a → same_entry y e ≡ b → rows_to e (emptied x cells) ≡ without_row x (rows_to e cells)
        → rows_to e (cond a (hole w) (taken y w) ∷ emptied x cells)
        ≡ cond (not a) (row y w ∷ without_row x (cond b [] (rows_to e cells))) (without_row x (cond b [] (rows_to e cells)))
    by_tests true true h i ih = absurd (false≢true (sym (apart y x e h t) ∙ i))
    by_tests true false h i ih = ih
    by_tests false true h i ih = rw i refl
    by_tests false false h i ih = rw i (ap (λ (l : List Tracked). row y w ∷ l) ih)
rows_to-emptied e x (hole w ∷ cells) t = rows_to-emptied e x cells t

pub height-emptied : (e x : CacheEntryKey) (cells : List Cell) → same_entry x e ≡ false → height e (emptied x cells) ≡ height e cells
height-emptied e x [] t = refl
height-emptied e x (taken y w ∷ cells) t = by_tests (same_entry y x) (same_entry y e) refl refl (height-emptied e x cells t)
  where
    by_tests : (a b : Bool) → same_entry y x ≡ a → same_entry y e ≡ b → height e (emptied x cells) ≡ height e cells
        → height e (cond a (hole w) (taken y w) ∷ emptied x cells) ≡ w + cond b 0 (height e cells)
    by_tests true true h i ih = absurd (false≢true (sym (apart y x e h t) ∙ i))
    by_tests true false h i ih = ap (λ (n : ℕ). w + n) ih
    by_tests false true h i ih = rw i refl
    by_tests false false h i ih = rw i (ap (λ (n : ℕ). w + n) ih)
height-emptied e x (hole w ∷ cells) t = ap (λ (n : ℕ). w + n) (height-emptied e x cells t)

pub there-emptied : (e x : CacheEntryKey) (cells : List Cell) → same_entry x e ≡ false → is_there e (emptied x cells) ≡ is_there e cells
there-emptied e x [] t = refl
there-emptied e x (taken y w ∷ cells) t = by_tests (same_entry y x) (same_entry y e) refl refl (there-emptied e x cells t)
  where
    by_tests : (a b : Bool) → same_entry y x ≡ a → same_entry y e ≡ b → is_there e (emptied x cells) ≡ is_there e cells
        → is_there e (cond a (hole w) (taken y w) ∷ emptied x cells) ≡ (b || is_there e cells)
    by_tests true true h i ih = absurd (false≢true (sym (apart y x e h t) ∙ i))
    by_tests true false h i ih = ih
    by_tests false true h i ih = rw i refl
    by_tests false false h i ih = rw i ih
there-emptied e x (hole w ∷ cells) t = there-emptied e x cells t

pub there-gone : (e : CacheEntryKey) (cells : List Cell) → is_there e (emptied e cells) ≡ false
there-gone e [] = refl
there-gone e (taken y w ∷ cells) = by_test (same_entry y e) refl (there-gone e cells)
  where
    by_test : (a : Bool) → same_entry y e ≡ a → is_there e (emptied e cells) ≡ false → is_there e (cond a (hole w) (taken y w) ∷ emptied e cells) ≡ false
    by_test true h ih = ih
    by_test false h ih = rw h ih
there-gone e (hole w ∷ cells) = there-gone e cells

-- ---- holes are filled

pub rows_to-filled : (e : CacheEntryKey) (w : ℕ) (cells : List Cell) → rows_to e (filled w cells) ≡ rows_to e cells
rows_to-filled e w [] = refl
rows_to-filled e w (taken x v ∷ cells) = ap (λ (l : List Tracked). row x v ∷ cond (same_entry x e) [] l) (rows_to-filled e w cells)
rows_to-filled e w (hole v ∷ cells) = by_test (ltb w v) (rows_to-filled e (w - v) cells)
  where
    by_test : (a : Bool) → rows_to e (filled (w - v) cells) ≡ rows_to e cells → rows_to e (cond a (hole (v - w) ∷ cells) (filled (w - v) cells)) ≡ rows_to e cells
    by_test true h = refl
    by_test false h = h

pub there-filled : (e : CacheEntryKey) (w : ℕ) (cells : List Cell) → is_there e (filled w cells) ≡ is_there e cells
there-filled e w [] = refl
there-filled e w (taken x v ∷ cells) = ap (λ (b : Bool). same_entry x e || b) (there-filled e w cells)
there-filled e w (hole v ∷ cells) = by_test (ltb w v) (there-filled e (w - v) cells)
  where
    by_test : (a : Bool) → is_there e (filled (w - v) cells) ≡ is_there e cells → is_there e (cond a (hole (v - w) ∷ cells) (filled (w - v) cells)) ≡ is_there e cells
    by_test true h = refl
    by_test false h = h

pub gaps-filled : (e : CacheEntryKey) (w : ℕ) (cells : List Cell) → gaps e (filled w cells) ≡ gaps e cells - w
gaps-filled e w [] = omega arith
gaps-filled e w (taken x v ∷ cells) = by_test (same_entry x e) (gaps-filled e w cells)
  where
    by_test : (a : Bool) → gaps e (filled w cells) ≡ gaps e cells - w → cond a 0 (gaps e (filled w cells)) ≡ cond a 0 (gaps e cells) - w
    by_test true h = omega arith
    by_test false h = h
gaps-filled e w (hole v ∷ cells) = by_test (ltb w v) refl (gaps-filled e (w - v) cells)
  where
    by_test : (a : Bool) → ltb w v ≡ a → gaps e (filled (w - v) cells) ≡ gaps e cells - (w - v) → gaps e (cond a (hole (v - w) ∷ cells) (filled (w - v) cells)) ≡ v + gaps e cells - w
    by_test true h ih = let k = ltb-true w v h in omega (arith, k)
    by_test false h ih = let k = ltb-false w v h in omega (arith, k, ih)
