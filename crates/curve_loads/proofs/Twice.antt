-- The same ask at once again.
use Rattle.std.proofs.Common.{◌≡◌, ℕ, ◌+◌, ◌&&◌, Bool, true, false, cond, List, [], ◌∷◌, Option, refl, ap, sym, ◌∙◌}
use Rattle.std.specs.Prelude.{not}
use Rattle.std.proofs.lemmas.Bool.{true≢false, cond-true, cond-false}
use Rattle.cache_entries.specs.declared.entry.CacheEntryKey.{CacheEntryKey}
use Rattle.cache_entries.specs.declared.rows.Tracked.{Tracked}
use Rattle.cache_entries.specs.Entry.{same_entry}
use Rattle.cache_entries.specs.Rows.{without_row, is_over}
use Rattle.curve_loads.specs.Steps.{Step, asks, has_row, exceeds, kept_after, kept, row_for, put_first, held}
use Rattle.curve_loads.proofs.Entries.{same-self}
use Rattle.curve_loads.proofs.Rows.{up_to, has-here, has-further, has-gone}
use Rattle.curve_loads.proofs.Kept.{over_after, has-kept_after, kept-all}
use Rattle.curve_loads.proofs.Held.{held-within}

-- an entry without a row is in no part of the rows
without-absent : (x : CacheEntryKey) (rows : List Tracked) → has_row x rows ≡ false → without_row x rows ≡ rows
without-absent x [] h = refl
without-absent x (r ∷ rows) h = by_test (same_entry r.entry x) refl (without-absent x rows)
  where
    by_test : (t : Bool) → same_entry r.entry x ≡ t → (has_row x rows ≡ false → without_row x rows ≡ rows) → cond (not t) (r ∷ without_row x rows) (without_row x rows) ≡ r ∷ rows
    by_test true t ih = absurd (true≢false (sym (has-here x r rows t) ∙ h))
    by_test false t ih = ap (λ (l : List Tracked). r ∷ l) (ih (sym (has-further x r rows t) ∙ h))

module _ (weight : CacheEntryKey → ℕ) (limit : ℕ) (watermark : Option ℕ) (e : CacheEntryKey) where
  -- rows that have none of e, after e
  abbrev after_first : List Tracked → List Tracked
  after_first rows = kept_after limit watermark (0 + weight e) (0 + 1) rows

  none-after : (rows : List Tracked) → has_row e rows ≡ false → has_row e (after_first rows) ≡ false
  none-after rows h = has-kept_after limit watermark e (0 + weight e) (0 + 1) rows ∙ ap (λ (t : Bool). t && not (over_after limit watermark (0 + weight e) (0 + 1) (up_to e rows))) h

  put-again : (rows : List Tracked) → has_row e rows ≡ false → put_first weight e (row_for weight e ∷ after_first rows) ≡ row_for weight e ∷ after_first rows
  put-again rows h =
      ap (λ (b : Bool). row_for weight e ∷ cond (not b) (row_for weight e ∷ without_row e (after_first rows)) (without_row e (after_first rows))) (same-self e)
      ∙ ap (λ (l : List Tracked). row_for weight e ∷ l) (without-absent e (after_first rows) (none-after rows h))

  kept-again : (rows : List Tracked) → has_row e rows ≡ false → is_over limit watermark (kept limit watermark (row_for weight e ∷ rows)) ≡ false
      → kept limit watermark (put_first weight e (kept limit watermark (row_for weight e ∷ rows))) ≡ kept limit watermark (row_for weight e ∷ rows)
  kept-again rows h within = by_test (exceeds limit watermark (0 + weight e) (0 + 1)) refl
    where
      by_test : (b : Bool) → exceeds limit watermark (0 + weight e) (0 + 1) ≡ b
          → kept limit watermark (put_first weight e (kept limit watermark (row_for weight e ∷ rows))) ≡ kept limit watermark (row_for weight e ∷ rows)
      by_test true i =
          let none : kept limit watermark (row_for weight e ∷ rows) ≡ [] = cond-true (exceeds limit watermark (0 + weight e) (0 + 1)) [] (row_for weight e ∷ after_first rows) i in
          let again : kept limit watermark (row_for weight e ∷ []) ≡ [] = cond-true (exceeds limit watermark (0 + weight e) (0 + 1)) [] (row_for weight e ∷ []) i in
          ap (λ (l : List Tracked). kept limit watermark (put_first weight e l)) none ∙ again ∙ sym none
      by_test false i =
          let first : kept limit watermark (row_for weight e ∷ rows) ≡ row_for weight e ∷ after_first rows = cond-false (exceeds limit watermark (0 + weight e) (0 + 1)) [] (row_for weight e ∷ after_first rows) i in
          let same : put_first weight e (kept limit watermark (row_for weight e ∷ rows)) ≡ kept limit watermark (row_for weight e ∷ rows) = ap (put_first weight e) first ∙ put-again rows h ∙ sym first in
          ap (kept limit watermark) same ∙ kept-all limit watermark (kept limit watermark (row_for weight e ∷ rows)) within

  pub held-twice : (steps : List Step) → held weight limit watermark (asks e ∷ asks e ∷ steps) ≡ held weight limit watermark (asks e ∷ steps)
  held-twice steps =
      kept-again (without_row e (held weight limit watermark steps)) (has-gone e (held weight limit watermark steps)) (held-within weight limit watermark (asks e ∷ steps))
