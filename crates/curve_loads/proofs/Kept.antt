-- What is kept of rows under limits.
use Rattle.std.proofs.Common.{◌≡◌, ℕ, ◌+◌, ◌&&◌, Bool, true, false, cond, List, [], ◌∷◌, ◌++◌, length, Option, refl, ap, sym, ◌∙◌, arith}
use Rattle.std.specs.Prelude.{not}
use Rattle.std.proofs.lemmas.Bool.{false≢true, and_right, cond-true, cond-false}
use Rattle.cache_entries.specs.declared.entry.CacheEntryKey.{CacheEntryKey}
use Rattle.cache_entries.specs.declared.rows.Tracked.{Tracked}
use Rattle.cache_entries.specs.Entry.{same_entry}
use Rattle.cache_entries.specs.Rows.{all_weights, is_over}
use Rattle.curve_loads.specs.Steps.{has_row, exceeds, kept_after, kept}
use Rattle.curve_loads.proofs.Limits.{more-exceeds, less-exceeds, exceeds-nil, exceeds-cons, exceeds-first}
use Rattle.curve_loads.proofs.Rows.{up_to, has-here, has-further}

module _ (limit : ℕ) (watermark : Option ℕ) where
  -- the rows, after those of that weight and number, exceed a limit
  abbrev pub over_after : ℕ → ℕ → List Tracked → Bool
  over_after w n rows = exceeds limit watermark (w + all_weights rows) (n + length rows)

  -- where the first row exceeds a limit, so does what is after it
  over-first : (w n : ℕ) (r : Tracked) (rows : List Tracked) → exceeds limit watermark (w + r.weight) (n + 1) ≡ true → over_after w n (r ∷ rows) ≡ true
  over-first w n r rows h =
      exceeds-cons limit watermark w n r rows
      ∙ more-exceeds limit watermark (w + r.weight) (w + r.weight + all_weights rows) (n + 1) (n + 1 + length rows) (omega arith) (omega arith) h

  within-first : (w n : ℕ) (r : Tracked) (rows : List Tracked) → over_after w n (r ∷ rows) ≡ false → exceeds limit watermark (w + r.weight) (n + 1) ≡ false
  within-first w n r rows h =
      less-exceeds limit watermark (w + r.weight) (w + r.weight + all_weights rows) (n + 1) (n + 1 + length rows) (omega arith) (omega arith)
      (sym (exceeds-cons limit watermark w n r rows) ∙ h)

  pub has-kept_after : (e : CacheEntryKey) (w n : ℕ) (rows : List Tracked) → has_row e (kept_after limit watermark w n rows) ≡ (has_row e rows && not (over_after w n (up_to e rows)))
  has-kept_after e w n [] = refl
  has-kept_after e w n (r ∷ rows) = by_tests (exceeds limit watermark (w + r.weight) (n + 1)) (same_entry r.entry e) refl refl (has-kept_after e (w + r.weight) (n + 1) rows)
    where
      by_tests : (a b : Bool) → exceeds limit watermark (w + r.weight) (n + 1) ≡ a → same_entry r.entry e ≡ b
          → has_row e (kept_after limit watermark (w + r.weight) (n + 1) rows) ≡ (has_row e rows && not (over_after (w + r.weight) (n + 1) (up_to e rows)))
          → has_row e (cond a [] (r ∷ kept_after limit watermark (w + r.weight) (n + 1) rows)) ≡ (has_row e (r ∷ rows) && not (over_after w n (r ∷ cond b [] (up_to e rows))))
      by_tests true b h i ih = sym (and_right (has_row e (r ∷ rows)) _ (ap not (over-first w n r (cond b [] (up_to e rows)) h)))
      by_tests false true h i ih =
          let here : over_after w n (r ∷ []) ≡ false = exceeds-cons limit watermark w n r [] ∙ exceeds-nil limit watermark (w + r.weight) (n + 1) ∙ h in
          has-here e r _ i ∙ sym (ap (λ (t : Bool). t && not (over_after w n (r ∷ []))) (has-here e r rows i) ∙ ap not here)
      by_tests false false h i ih =
          has-further e r _ i ∙ ih
          ∙ sym (ap (λ (t : Bool). t && not (over_after w n (r ∷ up_to e rows))) (has-further e r rows i) ∙ ap (λ (t : Bool). has_row e rows && not t) (exceeds-cons limit watermark w n r (up_to e rows)))

  pub up_to-kept_after : (e : CacheEntryKey) (w n : ℕ) (rows : List Tracked) → has_row e (kept_after limit watermark w n rows) ≡ true → up_to e (kept_after limit watermark w n rows) ≡ up_to e rows
  up_to-kept_after e w n [] h = refl
  up_to-kept_after e w n (r ∷ rows) h = by_tests (exceeds limit watermark (w + r.weight) (n + 1)) (same_entry r.entry e) refl (up_to-kept_after e (w + r.weight) (n + 1) rows) h
    where
      by_tests : (a b : Bool) → same_entry r.entry e ≡ b
          → (has_row e (kept_after limit watermark (w + r.weight) (n + 1) rows) ≡ true → up_to e (kept_after limit watermark (w + r.weight) (n + 1) rows) ≡ up_to e rows)
          → has_row e (cond a [] (r ∷ kept_after limit watermark (w + r.weight) (n + 1) rows)) ≡ true
          → up_to e (cond a [] (r ∷ kept_after limit watermark (w + r.weight) (n + 1) rows)) ≡ r ∷ cond b [] (up_to e rows)
      by_tests true b i ih h = absurd (false≢true h)
      by_tests false true i ih h = rw i refl
      by_tests false false i ih h = rw i (ap (λ (l : List Tracked). r ∷ l) (ih (sym (has-further e r _ i) ∙ h)))

  pub kept_after-within : (w n : ℕ) (rows : List Tracked) → exceeds limit watermark w n ≡ false → over_after w n (kept_after limit watermark w n rows) ≡ false
  kept_after-within w n [] h = exceeds-nil limit watermark w n ∙ h
  kept_after-within w n (r ∷ rows) h = by_test (exceeds limit watermark (w + r.weight) (n + 1)) refl (kept_after-within (w + r.weight) (n + 1) rows)
    where
      by_test : (a : Bool) → exceeds limit watermark (w + r.weight) (n + 1) ≡ a
          → (exceeds limit watermark (w + r.weight) (n + 1) ≡ false → over_after (w + r.weight) (n + 1) (kept_after limit watermark (w + r.weight) (n + 1) rows) ≡ false)
          → over_after w n (cond a [] (r ∷ kept_after limit watermark (w + r.weight) (n + 1) rows)) ≡ false
      by_test true i ih = exceeds-nil limit watermark w n ∙ h
      by_test false i ih = exceeds-cons limit watermark w n r (kept_after limit watermark (w + r.weight) (n + 1) rows) ∙ ih i

  pub kept_after-all : (w n : ℕ) (rows : List Tracked) → over_after w n rows ≡ false → kept_after limit watermark w n rows ≡ rows
  kept_after-all w n [] h = refl
  kept_after-all w n (r ∷ rows) h =
      cond-false _ [] _ (within-first w n r rows h) ∙ ap (λ (l : List Tracked). r ∷ l) (kept_after-all (w + r.weight) (n + 1) rows (sym (exceeds-cons limit watermark w n r rows) ∙ h))

  pub kept_after-push : (w n : ℕ) (r : Tracked) (rows : List Tracked) → over_after w n (rows ++ r ∷ []) ≡ true → kept_after limit watermark w n (rows ++ r ∷ []) ≡ kept_after limit watermark w n rows
  kept_after-push w n r [] h = cond-true _ [] _ (sym (exceeds-nil limit watermark (w + r.weight) (n + 1)) ∙ sym (exceeds-cons limit watermark w n r []) ∙ h)
  kept_after-push w n r (x ∷ rows) h =
      by_test (exceeds limit watermark (w + x.weight) (n + 1)) (kept_after-push (w + x.weight) (n + 1) r rows (sym (exceeds-cons limit watermark w n x (rows ++ r ∷ [])) ∙ h))
    where
      by_test : (a : Bool) → kept_after limit watermark (w + x.weight) (n + 1) (rows ++ r ∷ []) ≡ kept_after limit watermark (w + x.weight) (n + 1) rows
          → cond a [] (x ∷ kept_after limit watermark (w + x.weight) (n + 1) (rows ++ r ∷ [])) ≡ cond a [] (x ∷ kept_after limit watermark (w + x.weight) (n + 1) rows)
      by_test true ih = refl
      by_test false ih = ap (λ (l : List Tracked). x ∷ l) ih

  -- ---- with nothing in front

  pub kept-within : (rows : List Tracked) → exceeds limit watermark 0 0 ≡ false → is_over limit watermark (kept limit watermark rows) ≡ false
  kept-within rows h = sym (exceeds-first limit watermark (kept limit watermark rows)) ∙ kept_after-within 0 0 rows h

  pub kept-all : (rows : List Tracked) → is_over limit watermark rows ≡ false → kept limit watermark rows ≡ rows
  kept-all rows h = kept_after-all 0 0 rows (exceeds-first limit watermark rows ∙ h)

  pub kept-push : (r : Tracked) (rows : List Tracked) → is_over limit watermark (rows ++ r ∷ []) ≡ true → kept limit watermark (rows ++ r ∷ []) ≡ kept limit watermark rows
  kept-push r rows h = kept_after-push 0 0 r rows (exceeds-first limit watermark (rows ++ r ∷ []) ∙ h)

  -- of an entry that has a row, by the rows up to it
  pub kept-as : (e : CacheEntryKey) (rows asked : List Tracked) → has_row e rows ≡ true → up_to e rows ≡ asked → has_row e (kept limit watermark rows) ≡ not (is_over limit watermark asked)
  kept-as e rows asked h u =
      has-kept_after e 0 0 rows ∙ ap (λ (t : Bool). t && not (over_after 0 0 (up_to e rows))) h ∙ ap not (exceeds-first limit watermark (up_to e rows)) ∙ ap (λ (l : List Tracked). not (is_over limit watermark l)) u

  pub kept-front : (e : CacheEntryKey) (rows asked : List Tracked) → up_to e rows ≡ asked → has_row e (kept limit watermark rows) ≡ true → up_to e (kept limit watermark rows) ≡ asked
  kept-front e rows asked u h = up_to-kept_after e 0 0 rows h ∙ u

  pub kept-none : (e : CacheEntryKey) (rows : List Tracked) → has_row e rows ≡ false → has_row e (kept limit watermark rows) ≡ false
  kept-none e rows h = has-kept_after e 0 0 rows ∙ ap (λ (t : Bool). t && not (over_after 0 0 (up_to e rows))) h
