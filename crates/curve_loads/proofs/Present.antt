-- Entries that are held when they are asked for.
use Rattle.std.proofs.Common.{◌≡◌, ℕ, ◌+◌, ◌≤◌, Bool, true, false, cond, List, [], ◌∷◌, length, Option, refl, ap, sym, ◌∙◌, arith}
use Rattle.std.specs.Prelude.{not}
use Rattle.std.proofs.lemmas.Bool.{false≢true}
use Rattle.cache_entries.specs.declared.entry.CacheEntryKey.{CacheEntryKey}
use Rattle.cache_entries.specs.declared.rows.Tracked.{Tracked}
use Rattle.cache_entries.specs.Entry.{same_entry}
use Rattle.cache_entries.specs.Rows.{all_weights, without_row}
use Rattle.curve_loads.specs.Steps.{Step, asks, removes, has_row, exceeds, kept_after, row_for, put_first, held}
use Rattle.curve_loads.specs.Loads.{load, AreWeighed}
use Rattle.curve_loads.proofs.Entries.{same-is}
use Rattle.curve_loads.proofs.Limits.{weights-cons}
use Rattle.curve_loads.proofs.Rows.{has-further, without-weighs, without-counts}
use Rattle.curve_loads.proofs.Kept.{kept-all}
use Rattle.curve_loads.proofs.Held.{held-within, part-within}

module _ (weight : CacheEntryKey → ℕ) where
  pub weighed-without : (e : CacheEntryKey) (rows : List Tracked) → AreWeighed weight rows → AreWeighed weight (without_row e rows)
  weighed-without e [] h = tt
  weighed-without e (r ∷ rows) h = by_test (same_entry r.entry e) (weighed-without e rows h.1)
    where
      by_test : (t : Bool) → AreWeighed weight (without_row e rows) → AreWeighed weight (cond (not t) (r ∷ without_row e rows) (without_row e rows))
      by_test true ih = ih
      by_test false ih = (h.0, ih)

  pub weighed-load : (e : CacheEntryKey) (steps : List Step) → AreWeighed weight (load weight e steps)
  weighed-load e [] = tt
  weighed-load e (asks x ∷ before) = (refl, by_test (same_entry x e) (weighed-load e before))
    where
      by_test : (t : Bool) → AreWeighed weight (load weight e before) → AreWeighed weight (cond t [] (without_row x (load weight e before)))
      by_test true ih = tt
      by_test false ih = weighed-without x (load weight e before) ih
  weighed-load e (removes x ∷ before) = weighed-without x (load weight e before) (weighed-load e before)

  weighed-kept_after : (limit : ℕ) (watermark : Option ℕ) (w n : ℕ) (rows : List Tracked) → AreWeighed weight rows → AreWeighed weight (kept_after limit watermark w n rows)
  weighed-kept_after limit watermark w n [] h = tt
  weighed-kept_after limit watermark w n (r ∷ rows) h = by_test (exceeds limit watermark (w + r.weight) (n + 1)) (weighed-kept_after limit watermark (w + r.weight) (n + 1) rows h.1)
    where
      by_test : (a : Bool) → AreWeighed weight (kept_after limit watermark (w + r.weight) (n + 1) rows) → AreWeighed weight (cond a [] (r ∷ kept_after limit watermark (w + r.weight) (n + 1) rows))
      by_test true ih = tt
      by_test false ih = (h.0, ih)

  pub weighed-held : (limit : ℕ) (watermark : Option ℕ) (steps : List Step) → AreWeighed weight (held weight limit watermark steps)
  weighed-held limit watermark [] = tt
  weighed-held limit watermark (asks e ∷ before) =
      weighed-kept_after limit watermark 0 0 (put_first weight e (held weight limit watermark before)) (refl, weighed-without e (held weight limit watermark before) (weighed-held limit watermark before))
  weighed-held limit watermark (removes e ∷ before) = weighed-without e (held weight limit watermark before) (weighed-held limit watermark before)

  -- an entry and the other rows weigh no more than all rows, where it is among them
  less-without : (e : CacheEntryKey) (rows : List Tracked) → AreWeighed weight rows → has_row e rows ≡ true → weight e + all_weights (without_row e rows) ≤ all_weights rows
  less-without e [] h k = absurd (false≢true k)
  less-without e (r ∷ rows) h k = by_test (same_entry r.entry e) refl (less-without e rows h.1)
    where
      by_test : (t : Bool) → same_entry r.entry e ≡ t → (has_row e rows ≡ true → weight e + all_weights (without_row e rows) ≤ all_weights rows)
          → weight e + all_weights (cond (not t) (r ∷ without_row e rows) (without_row e rows)) ≤ all_weights (r ∷ rows)
      by_test true i ih =
          let c = weights-cons r rows in
          let d = without-weighs e rows in
          let s : r.weight ≡ weight e = h.0 ∙ ap weight (same-is r.entry e i) in
          omega (arith, c, d, s)
      by_test false i ih =
          let c = weights-cons r rows in
          let d = weights-cons r (without_row e rows) in
          let j = ih (sym (has-further e r rows i) ∙ k) in
          omega (arith, c, d, j)

  fewer-without : (e : CacheEntryKey) (rows : List Tracked) → has_row e rows ≡ true → 1 + length (without_row e rows) ≤ length rows
  fewer-without e [] k = absurd (false≢true k)
  fewer-without e (r ∷ rows) k = by_test (same_entry r.entry e) refl (fewer-without e rows)
    where
      by_test : (t : Bool) → same_entry r.entry e ≡ t → (has_row e rows ≡ true → 1 + length (without_row e rows) ≤ length rows)
          → 1 + length (cond (not t) (r ∷ without_row e rows) (without_row e rows)) ≤ length (r ∷ rows)
      by_test true i ih = let d = without-counts e rows in omega (arith, d)
      by_test false i ih = let j = ih (sym (has-further e r rows i) ∙ k) in omega (arith, j)

  pub held-stay : (limit : ℕ) (watermark : Option ℕ) (e : CacheEntryKey) (steps : List Step) → has_row e (held weight limit watermark steps) ≡ true
      → held weight limit watermark (asks e ∷ steps) ≡ put_first weight e (held weight limit watermark steps)
  held-stay limit watermark e steps h =
      let rows : List Tracked = held weight limit watermark steps in
      let c = weights-cons (row_for weight e) (without_row e rows) in
      let d = less-without e rows (weighed-held limit watermark steps) h in
      let f = fewer-without e rows h in
      kept-all limit watermark (put_first weight e rows)
      (part-within weight limit watermark (put_first weight e rows) rows (omega (arith, c, d)) (omega (arith, f)) (held-within weight limit watermark steps))
