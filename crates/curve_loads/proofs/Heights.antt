-- Heights are the greatest loads.
use Rattle.std.proofs.Common.{◌≡◌, ℕ, ◌+◌, ◌-◌, ◌||◌, Bool, true, false, cond, max, List, [], ◌∷◌, Option, Some, None, refl, ap, sym, ◌∙◌, subst, arith}
use Rattle.std.specs.Prelude.{option_map}
use Rattle.std.proofs.lemmas.Bool.{true≢false}
use Rattle.cache_entries.specs.declared.entry.CacheEntryKey.{CacheEntryKey}
use Rattle.cache_entries.specs.declared.rows.Tracked.{Tracked}
use Rattle.cache_entries.specs.Entry.{same_entry}
use Rattle.cache_entries.specs.Rows.{all_weights, without_row}
use Rattle.curve_loads.specs.Steps.{Step, asks, removes, row_for}
use Rattle.curve_loads.specs.Loads.{load}
use Rattle.curve_loads.specs.Peaks.{raised, peak}
use Rattle.curve_loads.proofs.Entries.{same-is}
use Rattle.curve_loads.proofs.Limits.{weights-cons}
use Rattle.curve_loads.specs.Cells.{Cell, emptied, filled, cells_of, is_there, height, height_of}
use Rattle.curve_loads.proofs.CellLaws.{rows_to, gaps, height-parts, rows_to-emptied, height-emptied, there-emptied, there-gone, rows_to-filled, there-filled, gaps-filled}

module _ (weight : CacheEntryKey → ℕ) (e : CacheEntryKey) where
  abbrev first_of : Option (ℕ × ℕ) → Option ℕ
  first_of most = option_map (λ m. m.0) most

  record IsHigh (steps : List Step) : Type 0 where
    high : height_of e (cells_of weight steps) ≡ first_of (peak weight e steps)
    rows : is_there e (cells_of weight steps) ≡ true → rows_to e (cells_of weight steps) ≡ load weight e steps

  -- where an entry is there its height is some peak's, and where it isn't there is none
  peak-there : (steps : List Step) → IsHigh steps → is_there e (cells_of weight steps) ≡ true → Some (height e (cells_of weight steps)) ≡ first_of (peak weight e steps)
  peak-there steps o h = sym (ap (λ (b : Bool). cond b (Some (height e (cells_of weight steps))) None) h) ∙ o.high

  peak-absent : (steps : List Step) → IsHigh steps → is_there e (cells_of weight steps) ≡ false → None ≡ first_of (peak weight e steps)
  peak-absent steps o h = sym (ap (λ (b : Bool). cond b (Some (height e (cells_of weight steps))) None) h) ∙ o.high

  raised-first : (most : Option (ℕ × ℕ)) (rows : List Tracked) (h : ℕ) → Some h ≡ first_of most → Some (max h (all_weights rows)) ≡ first_of (option_map (λ m. raised m rows) most)
  raised-first None rows h i = absurd cc
  raised-first (Some m) rows h i = let same : h ≡ m.0 = cc in ap (λ (n : ℕ). Some (max n (all_weights rows))) same

  none-first : (most : Option (ℕ × ℕ)) (rows : List Tracked) → None ≡ first_of most → None ≡ first_of (option_map (λ m. raised m rows) most)
  none-first None rows i = refl
  none-first (Some m) rows i = absurd cc

  -- the cells after x, another entry, was asked for
  abbrev moved : CacheEntryKey → List Step → List Cell
  moved x before = filled (weight x) (emptied x (cells_of weight before))

  there-moved : (x : CacheEntryKey) (before : List Step) → same_entry x e ≡ false → is_there e (moved x before) ≡ is_there e (cells_of weight before)
  there-moved x before t = there-filled e (weight x) (emptied x (cells_of weight before)) ∙ there-emptied e x (cells_of weight before) t

  rows-moved : (x : CacheEntryKey) (before : List Step) → same_entry x e ≡ false → IsHigh before → is_there e (cells_of weight before) ≡ true → rows_to e (moved x before) ≡ without_row x (load weight e before)
  rows-moved x before t o h = rows_to-filled e (weight x) (emptied x (cells_of weight before)) ∙ rows_to-emptied e x (cells_of weight before) t ∙ ap (without_row x) (o.rows h)

  height-moved : (x : CacheEntryKey) (before : List Step) → same_entry x e ≡ false → IsHigh before → is_there e (cells_of weight before) ≡ true
      → weight x + height e (moved x before) ≡ max (height e (cells_of weight before)) (all_weights (row_for weight x ∷ without_row x (load weight e before)))
  height-moved x before t o h =
      let cells : List Cell = emptied x (cells_of weight before) in
      let rows : ℕ = all_weights (without_row x (load weight e before)) in
      let a : height e (moved x before) ≡ all_weights (rows_to e (moved x before)) + gaps e (moved x before) = height-parts e (moved x before) in
      let b : all_weights (rows_to e (moved x before)) ≡ rows = ap all_weights (rows-moved x before t o h) in
      let c : gaps e (moved x before) ≡ gaps e cells - weight x = gaps-filled e (weight x) cells in
      let d : height e cells ≡ all_weights (rows_to e cells) + gaps e cells = height-parts e cells in
      let f : all_weights (rows_to e cells) ≡ rows = ap all_weights (rows_to-emptied e x (cells_of weight before) t ∙ ap (without_row x) (o.rows h)) in
      let g : height e cells ≡ height e (cells_of weight before) = height-emptied e x (cells_of weight before) t in
      let i : all_weights (row_for weight x ∷ without_row x (load weight e before)) ≡ weight x + rows = weights-cons (row_for weight x) (without_row x (load weight e before)) in
      omega (arith, a, b, c, d, f, g, i)

  high-asked : (x : CacheEntryKey) (before : List Step) → IsHigh before → IsHigh (asks x ∷ before)
  high-asked x before o = by_tests (same_entry x e) (is_there e (cells_of weight before)) refl refl
    where
      by_tests : (a b : Bool) → same_entry x e ≡ a → is_there e (cells_of weight before) ≡ b → IsHigh (asks x ∷ before)
      by_tests true b t h =
          let same : weight x + 0 ≡ weight e = let w : weight x ≡ weight e = ap weight (same-is x e t) in omega (arith, w) in
          record { high = rw t (ap (λ (n : ℕ). Some n) same); rows = λ k. rw t refl }
      by_tests false true t h =
          let there : is_there e (moved x before) ≡ true = there-moved x before t ∙ h in
          let high' : Some (weight x + height e (moved x before)) ≡ first_of (option_map (λ m. raised m (row_for weight x ∷ without_row x (load weight e before))) (peak weight e before)) =
          ap (λ (n : ℕ). Some n) (height-moved x before t o h)
          ∙ raised-first (peak weight e before) (row_for weight x ∷ without_row x (load weight e before)) (height e (cells_of weight before)) (peak-there before o h) in
          record {
            high = rw t (ap (λ (b : Bool). cond b (Some (weight x + height e (moved x before))) None) there ∙ high');
            rows = λ k. rw t (ap (λ (l : List Tracked). row_for weight x ∷ l) (rows-moved x before t o h));
          }
      by_tests false false t h =
          let there : is_there e (moved x before) ≡ false = there-moved x before t ∙ h in
          record {
            high = rw t (
                ap (λ (b : Bool). cond b (Some (weight x + height e (moved x before))) None) there
                ∙ none-first (peak weight e before) (row_for weight x ∷ without_row x (load weight e before)) (peak-absent before o h));
            rows = λ k. absurd (true≢false (sym k ∙ (ap (λ (b : Bool). b || is_there e (moved x before)) t ∙ there)));
          }

  high-removed : (x : CacheEntryKey) (before : List Step) → IsHigh before → IsHigh (removes x ∷ before)
  high-removed x before o = by_test (same_entry x e) refl
    where
      by_test : (a : Bool) → same_entry x e ≡ a → IsHigh (removes x ∷ before)
      by_test true t =
          let gone : is_there e (emptied x (cells_of weight before)) ≡ false =
          subst (λ (y : CacheEntryKey). is_there y (emptied x (cells_of weight before)) ≡ false) (same-is x e t) (there-gone x (cells_of weight before)) in
          record {
            high = ap (λ (b : Bool). cond b (Some (height e (emptied x (cells_of weight before)))) None) gone ∙ sym (ap (λ (b : Bool). first_of (cond b None (peak weight e before))) t);
            rows = λ k. absurd (true≢false (sym k ∙ gone));
          }
      by_test false t =
          let there = there-emptied e x (cells_of weight before) t in
          record {
            high = (λ i. cond (there i) (Some (height-emptied e x (cells_of weight before) t i)) None) ∙ o.high ∙ sym (ap (λ (b : Bool). first_of (cond b None (peak weight e before))) t);
            rows = λ k. rows_to-emptied e x (cells_of weight before) t ∙ ap (without_row x) (o.rows (sym there ∙ k));
          }

  is-high : (steps : List Step) → IsHigh steps
  is-high [] = record { high = refl; rows = λ k. refl }
  is-high (asks x ∷ before) = high-asked x before (is-high before)
  is-high (removes x ∷ before) = high-removed x before (is-high before)

  pub high-peak : (steps : List Step) → height_of e (cells_of weight steps) ≡ first_of (peak weight e steps)
  high-peak steps = (is-high steps).high
