-- What lesser limits hold is a front of what greater ones hold.
use Rattle.std.proofs.Common.{◌≡◌, ℕ, ◌+◌, ◌≤◌, Bool, true, false, cond, List, [], ◌∷◌, ◌++◌, Option, refl, ap, sym, ◌∙◌, subst, arith}
use Rattle.std.specs.Prelude.{not}
use Rattle.std.proofs.lemmas.Bool.{true≢false, false≢true}
use Rattle.std.proofs.lemmas.List.Elements.{filter-append}
use Rattle.cache_entries.specs.declared.entry.CacheEntryKey.{CacheEntryKey}
use Rattle.cache_entries.specs.declared.rows.Tracked.{Tracked}
use Rattle.cache_entries.specs.Entry.{same_entry}
use Rattle.cache_entries.specs.Rows.{without_row}
use Rattle.curve_loads.specs.Steps.{Step, asks, removes, has_row, exceeds, kept_after, kept, row_for, put_first, held}
use Rattle.curve_loads.specs.Finds.{IsFront, IsAtMost, finds}
use Rattle.curve_loads.proofs.Limits.{at_most-exceeds}
use Rattle.curve_loads.proofs.Rows.{has-here, has-further}

front-cons : (r : Tracked) (xs ys : List Tracked) → IsFront xs ys → IsFront (r ∷ xs) (r ∷ ys)
front-cons r xs ys h = (h.0, ap (λ (l : List Tracked). r ∷ l) h.1)

front-without : (e : CacheEntryKey) (xs ys : List Tracked) → IsFront xs ys → IsFront (without_row e xs) (without_row e ys)
front-without e xs ys h = (without_row e h.0, ap (without_row e) h.1 ∙ filter-append (λ (r : Tracked). not (same_entry r.entry e)) xs h.0)

front-has : (e : CacheEntryKey) (xs ys : List Tracked) → IsFront xs ys → has_row e xs ≡ true → has_row e ys ≡ true
front-has e xs ys h k = subst (λ (l : List Tracked). has_row e l ≡ true) (sym h.1) (more xs h.0 k)
  where
    more : (xs rest : List Tracked) → has_row e xs ≡ true → has_row e (xs ++ rest) ≡ true
    more [] rest k = absurd (false≢true k)
    more (r ∷ xs) rest k = by_test (same_entry r.entry e) refl (more xs rest)
      where
        by_test : (t : Bool) → same_entry r.entry e ≡ t → (has_row e xs ≡ true → has_row e (xs ++ rest) ≡ true) → has_row e (r ∷ (xs ++ rest)) ≡ true
        by_test true h ih = has-here e r (xs ++ rest) h
        by_test false h ih = has-further e r (xs ++ rest) h ∙ ih (sym (has-further e r xs h) ∙ k)

module _ (limit limit' : ℕ) (watermark watermark' : Option ℕ) (l : limit ≤ limit') (m : IsAtMost watermark watermark') where
  front-kept_after : (w n : ℕ) (xs rest : List Tracked) → IsFront (kept_after limit watermark w n xs) (kept_after limit' watermark' w n (xs ++ rest))
  front-kept_after w n [] rest = (kept_after limit' watermark' w n rest, refl)
  front-kept_after w n (x ∷ xs) rest =
      by_tests (exceeds limit watermark (w + x.weight) (n + 1)) (exceeds limit' watermark' (w + x.weight) (n + 1)) refl refl (front-kept_after (w + x.weight) (n + 1) xs rest)
    where
      by_tests : (a b : Bool) → exceeds limit watermark (w + x.weight) (n + 1) ≡ a → exceeds limit' watermark' (w + x.weight) (n + 1) ≡ b
          → IsFront (kept_after limit watermark (w + x.weight) (n + 1) xs) (kept_after limit' watermark' (w + x.weight) (n + 1) (xs ++ rest))
          → IsFront (cond a [] (x ∷ kept_after limit watermark (w + x.weight) (n + 1) xs)) (cond b [] (x ∷ kept_after limit' watermark' (w + x.weight) (n + 1) (xs ++ rest)))
      by_tests true true h i ih = ([], refl)
      by_tests true false h i ih = (x ∷ kept_after limit' watermark' (w + x.weight) (n + 1) (xs ++ rest), refl)
      by_tests false true h i ih = absurd (true≢false (sym (at_most-exceeds limit limit' watermark watermark' (w + x.weight) (n + 1) l m i) ∙ h))
      by_tests false false h i ih = front-cons x _ _ ih

  front-kept : (xs ys : List Tracked) → IsFront xs ys → IsFront (kept limit watermark xs) (kept limit' watermark' ys)
  front-kept xs ys h = subst (λ (l : List Tracked). IsFront (kept limit watermark xs) (kept limit' watermark' l)) (sym h.1) (front-kept_after 0 0 xs h.0)

  module _ (weight : CacheEntryKey → ℕ) where
    pub front-held : (steps : List Step) → IsFront (held weight limit watermark steps) (held weight limit' watermark' steps)
    front-held [] = ([], refl)
    front-held (asks e ∷ before) =
        front-kept (put_first weight e (held weight limit watermark before)) (put_first weight e (held weight limit' watermark' before))
        (front-cons (row_for weight e) _ _ (front-without e (held weight limit watermark before) (held weight limit' watermark' before) (front-held before)))
    front-held (removes e ∷ before) = front-without e (held weight limit watermark before) (held weight limit' watermark' before) (front-held before)

    pub found-held : (steps : List Step) (e : CacheEntryKey) → has_row e (held weight limit watermark steps) ≡ true → has_row e (held weight limit' watermark' steps) ≡ true
    found-held steps e h = front-has e (held weight limit watermark steps) (held weight limit' watermark' steps) (front-held steps) h

    pub finds-held : (steps : List Step) → finds weight limit watermark steps ≤ finds weight limit' watermark' steps
    finds-held [] = omega arith
    finds-held (asks e ∷ before) = by_tests (has_row e (held weight limit watermark before)) (has_row e (held weight limit' watermark' before)) (found-held before e) (finds-held before)
      where
        by_tests : (a b : Bool) → (a ≡ true → b ≡ true) → finds weight limit watermark before ≤ finds weight limit' watermark' before
            → cond a 1 0 + finds weight limit watermark before ≤ cond b 1 0 + finds weight limit' watermark' before
        by_tests true true h ih = omega (arith, ih)
        by_tests true false h ih = absurd (false≢true (h refl))
        by_tests false true h ih = omega (arith, ih)
        by_tests false false h ih = omega (arith, ih)
    finds-held (removes e ∷ before) = finds-held before
