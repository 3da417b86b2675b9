-- Where each entry counts once, weights are numbers.
use Rattle.std.proofs.Common.{◌≡◌, ℕ, Bool, true, false, cond, max, List, [], ◌∷◌, length, Option, Some, None, refl, ap, sym, ◌∙◌, arith}
use Rattle.std.specs.Prelude.{not, option_map}
use Rattle.cache_entries.specs.declared.entry.CacheEntryKey.{CacheEntryKey}
use Rattle.cache_entries.specs.declared.rows.Tracked.{Tracked}
use Rattle.cache_entries.specs.Entry.{same_entry}
use Rattle.cache_entries.specs.Rows.{all_weights, without_row}
use Rattle.curve_loads.specs.Steps.{Step, asks, removes, has_row, held}
use Rattle.curve_loads.specs.Loads.{load, AreWeighed}
use Rattle.curve_loads.specs.Peaks.{raised, peak, keeps}
use Rattle.curve_loads.proofs.Limits.{weights-cons}
use Rattle.curve_loads.proofs.Present.{weighed-load}
use Rattle.curve_loads.proofs.PeakLaws.{held-keeps}
use Rattle.curve_loads.specs.Cells.{cells_of, height_of, one_each, is_kept}
use Rattle.curve_loads.proofs.Heights.{high-peak}

-- both have the same entries in the same order
abbrev AreOfSame : List Tracked → List Tracked → Type 0
AreOfSame [] [] = Unit {0}
AreOfSame [] (q ∷ qs) = ⊥
AreOfSame (r ∷ rs) [] = ⊥
AreOfSame (r ∷ rs) (q ∷ qs) = (r.entry ≡ q.entry) × AreOfSame rs qs

same-length : (rs qs : List Tracked) → AreOfSame rs qs → length rs ≡ length qs
same-length [] [] h = refl
same-length [] (q ∷ qs) h = absurd h
same-length (r ∷ rs) [] h = absurd h
same-length (r ∷ rs) (q ∷ qs) h = let i = same-length rs qs h.1 in omega (arith, i)

same-without : (x : CacheEntryKey) (rs qs : List Tracked) → AreOfSame rs qs → AreOfSame (without_row x rs) (without_row x qs)
same-without x [] [] h = tt
same-without x [] (q ∷ qs) h = absurd h
same-without x (r ∷ rs) [] h = absurd h
same-without x (r ∷ rs) (q ∷ qs) h = by_tests (same_entry r.entry x) (same_entry q.entry x) (ap (λ (y : CacheEntryKey). same_entry y x) h.0) (same-without x rs qs h.1)
  where
    by_tests : (a b : Bool) → a ≡ b → AreOfSame (without_row x rs) (without_row x qs)
        → AreOfSame (cond (not a) (r ∷ without_row x rs) (without_row x rs)) (cond (not b) (q ∷ without_row x qs) (without_row x qs))
    by_tests true true i ih = ih
    by_tests true false i ih = absurd cc
    by_tests false true i ih = absurd cc
    by_tests false false i ih = (h.0, ih)

same-load : (v w : CacheEntryKey → ℕ) (e : CacheEntryKey) (steps : List Step) → AreOfSame (load v e steps) (load w e steps)
same-load v w e [] = tt
same-load v w e (asks x ∷ before) = (refl, by_test (same_entry x e) (same-load v w e before))
  where
    by_test : (t : Bool) → AreOfSame (load v e before) (load w e before) → AreOfSame (cond t [] (without_row x (load v e before))) (cond t [] (without_row x (load w e before)))
    by_test true h = tt
    by_test false h = same-without x (load v e before) (load w e before) h
same-load v w e (removes x ∷ before) = same-without x (load v e before) (load w e before) (same-load v w e before)

counted-once : (rows : List Tracked) → AreWeighed one_each rows → all_weights rows ≡ length rows
counted-once [] h = refl
counted-once (r ∷ rows) h =
    let c = weights-cons r rows in
    let i = counted-once rows h.1 in
    let w : r.weight ≡ 1 = h.0 in
    omega (arith, c, i, w)

load-number : (weight : CacheEntryKey → ℕ) (e : CacheEntryKey) (steps : List Step) → all_weights (load one_each e steps) ≡ length (load weight e steps)
load-number weight e steps = counted-once (load one_each e steps) (weighed-load one_each e steps) ∙ same-length (load one_each e steps) (load weight e steps) (same-load one_each weight e steps)

module _ (weight : CacheEntryKey → ℕ) (e : CacheEntryKey) where
  abbrev second_of : Option (ℕ × ℕ) → Option ℕ
  second_of most = option_map (λ m. m.1) most

  raised-both : (most most' : Option (ℕ × ℕ)) (rows rows' : List Tracked) → option_map (λ m. m.0) most ≡ second_of most' → all_weights rows ≡ length rows'
      → option_map (λ m. m.0) (option_map (λ m. raised m rows) most) ≡ second_of (option_map (λ m. raised m rows') most')
  raised-both None None rows rows' h i = refl
  raised-both None (Some m') rows rows' h i = absurd cc
  raised-both (Some m) None rows rows' h i = absurd cc
  raised-both (Some m) (Some m') rows rows' h i = let same : m.0 ≡ m'.1 = cc in λ t. Some (max (same t) (i t))

  one-peak : (steps : List Step) → option_map (λ m. m.0) (peak one_each e steps) ≡ second_of (peak weight e steps)
  one-peak [] = refl
  one-peak (asks x ∷ before) = by_test (same_entry x e) (one-peak before)
    where
      by_test : (t : Bool) → option_map (λ m. m.0) (peak one_each e before) ≡ second_of (peak weight e before)
          → option_map (λ m. m.0) (cond t (Some (one_each e, 1)) (option_map (λ m. raised m (load one_each e (asks x ∷ before))) (peak one_each e before)))
          ≡ second_of (cond t (Some (weight e, 1)) (option_map (λ m. raised m (load weight e (asks x ∷ before))) (peak weight e before)))
      by_test true ih = refl
      by_test false ih =
          raised-both (peak one_each e before) (peak weight e before) (load one_each e (asks x ∷ before)) (load weight e (asks x ∷ before)) ih (load-number weight e (asks x ∷ before))
  one-peak (removes x ∷ before) = by_test (same_entry x e) (one-peak before)
    where
      by_test : (t : Bool) → option_map (λ m. m.0) (peak one_each e before) ≡ second_of (peak weight e before)
          → option_map (λ m. m.0) (cond t None (peak one_each e before)) ≡ second_of (cond t None (peak weight e before))
      by_test true ih = refl
      by_test false ih = ih

  pub high-number : (steps : List Step) → height_of e (cells_of one_each steps) ≡ second_of (peak weight e steps)
  high-number steps = high-peak one_each e steps ∙ one-peak steps

  -- ---- what is held

  keeps-kept : (limit : ℕ) (watermark : Option ℕ) (most : Option (ℕ × ℕ)) → keeps limit watermark most ≡ is_kept limit watermark (option_map (λ m. m.0) most) (second_of most)
  keeps-kept limit watermark None = refl
  keeps-kept limit watermark (Some m) = refl

  pub held-kept : (limit : ℕ) (watermark : Option ℕ) (steps : List Step)
      → has_row e (held weight limit watermark steps) ≡ is_kept limit watermark (height_of e (cells_of weight steps)) (height_of e (cells_of one_each steps))
  held-kept limit watermark steps =
      held-keeps weight limit watermark e steps ∙ keeps-kept limit watermark (peak weight e steps)
      ∙ sym (λ i. is_kept limit watermark (high-peak weight e steps i) (high-number steps i))
