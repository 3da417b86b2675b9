-- What is held, by loads: the induction over the steps.
use Rattle.std.proofs.Common.{◌≡◌, ℕ, ◌≤◌, ◌||◌, ◌&&◌, Bool, true, false, List, [], ◌∷◌, length, Option, refl, ap, sym, ◌∙◌, subst}
use Rattle.std.specs.Prelude.{not}
use Rattle.std.proofs.lemmas.Bool.{true≢false, false≢true}
use Rattle.cache_entries.specs.declared.entry.CacheEntryKey.{CacheEntryKey}
use Rattle.cache_entries.specs.declared.rows.Tracked.{Tracked}
use Rattle.cache_entries.specs.Entry.{same_entry}
use Rattle.cache_entries.specs.Rows.{all_weights, without_row, is_over}
use Rattle.curve_loads.specs.Steps.{Step, asks, removes, has_row, row_for, put_first, held}
use Rattle.curve_loads.specs.Loads.{load, is_past, stays}
use Rattle.curve_loads.proofs.Entries.{same-is}
use Rattle.curve_loads.proofs.Limits.{less-exceeds, nothing-exceeds}
use Rattle.curve_loads.proofs.Rows.{up_to, has-here, has-further, without-weighs, without-counts, up_to-weighs, up_to-counts, has-without, has-gone, up_to-without}
use Rattle.curve_loads.proofs.Kept.{kept-within, kept-as, kept-front, kept-none}

-- the test of a step, where e is there and where it isn't
stays-there : (same before past : Bool) → (same || before) ≡ true → not past ≡ ((same || before) && not past)
stays-there true before past h = refl
stays-there false true past h = refl
stays-there false false past h = absurd (false≢true h)

stays-absent : (same before past : Bool) → same ≡ false → before ≡ false → ((same || before) && not past) ≡ false
stays-absent true before past h i = absurd (true≢false h)
stays-absent false true past h i = absurd (true≢false i)
stays-absent false false past h i = refl

left-there : (same before past : Bool) → same ≡ false → before ≡ true → past ≡ false → (not same && (before && not past)) ≡ true
left-there true before past h i j = absurd (true≢false h)
left-there false false past h i j = absurd (false≢true i)
left-there false true true h i j = absurd (true≢false j)
left-there false true false h i j = refl

left-absent : (same before past : Bool) → before ≡ false → (not same && (before && not past)) ≡ false
left-absent true before past i = refl
left-absent false true past i = absurd (true≢false i)
left-absent false false past i = refl

left-removed : (same before past : Bool) → same ≡ true → (not same && (before && not past)) ≡ false
left-removed true before past i = refl
left-removed false before past i = absurd (false≢true i)

module _ (weight : CacheEntryKey → ℕ) (limit : ℕ) (watermark : Option ℕ) where
  abbrev list : List Step → List Tracked
  list steps = held weight limit watermark steps

  -- part of rows that are within is within
  pub part-within : (part rows : List Tracked) → all_weights part ≤ all_weights rows → length part ≤ length rows → is_over limit watermark rows ≡ false → is_over limit watermark part ≡ false
  part-within part rows w n h = less-exceeds limit watermark (all_weights part) (all_weights rows) (length part) (length rows) w n h

  pub held-within : (steps : List Step) → is_over limit watermark (list steps) ≡ false
  held-within [] = nothing-exceeds limit watermark
  held-within (asks e ∷ before) = kept-within limit watermark (put_first weight e (list before)) (nothing-exceeds limit watermark)
  held-within (removes e ∷ before) = part-within (without_row e (list before)) (list before) (without-weighs e (list before)) (without-counts e (list before)) (held-within before)

  -- e is held where it stays, and the rows up to it are its load
  pub record IsHeldAs (e : CacheEntryKey) (steps : List Step) : Type 0 where
    pub there : has_row e (list steps) ≡ stays weight limit watermark e steps
    pub front : has_row e (list steps) ≡ true → up_to e (list steps) ≡ load weight e steps

  absent : (e : CacheEntryKey) (steps : List Step) → has_row e (list steps) ≡ false → stays weight limit watermark e steps ≡ false → IsHeldAs e steps
  absent e steps h s = record { there = h ∙ sym s; front = λ k. absurd (true≢false (sym k ∙ h)) }

  -- x is asked for, and the rows up to e are its load, before any goes
  asked-there : (e x : CacheEntryKey) (before : List Step) → (same_entry x e || stays weight limit watermark e before) ≡ true → has_row e (put_first weight x (list before)) ≡ true
      → up_to e (put_first weight x (list before)) ≡ load weight e (asks x ∷ before) → IsHeldAs e (asks x ∷ before)
  asked-there e x before s h u = record {
    there = kept-as limit watermark e (put_first weight x (list before)) (load weight e (asks x ∷ before)) h u
        ∙ stays-there (same_entry x e) (stays weight limit watermark e before) (is_past weight limit watermark e (asks x ∷ before)) s;
    front = λ k. kept-front limit watermark e (put_first weight x (list before)) (load weight e (asks x ∷ before)) u k;
  }

  held-asked : (e x : CacheEntryKey) (before : List Step) → IsHeldAs e before → IsHeldAs e (asks x ∷ before)
  held-asked e x before o = by_tests (same_entry x e) (has_row e (list before)) refl refl
    where
      by_tests : (a b : Bool) → same_entry x e ≡ a → has_row e (list before) ≡ b → IsHeldAs e (asks x ∷ before)
      by_tests true b t h = asked-there e x before (rw t refl) (has-here e (row_for weight x) (without_row x (list before)) t) (rw t refl)
      by_tests false true t h =
          asked-there e x before (rw t (sym o.there ∙ h)) (has-further e (row_for weight x) (without_row x (list before)) t ∙ has-without e x (list before) t ∙ h)
          (rw t (ap (λ (l : List Tracked). row_for weight x ∷ l) (up_to-without e x (list before) t ∙ ap (without_row x) (o.front h))))
      by_tests false false t h =
          absent e (asks x ∷ before)
          (kept-none limit watermark e (put_first weight x (list before)) (has-further e (row_for weight x) (without_row x (list before)) t ∙ has-without e x (list before) t ∙ h))
          (stays-absent (same_entry x e) (stays weight limit watermark e before) (is_past weight limit watermark e (asks x ∷ before)) t (sym o.there ∙ h))

  -- e stays where another is removed, and the rows up to it are its load
  removed-there : (e x : CacheEntryKey) (before : List Step) → same_entry x e ≡ false → stays weight limit watermark e before ≡ true → has_row e (without_row x (list before)) ≡ true
      → up_to e (without_row x (list before)) ≡ load weight e (removes x ∷ before) → IsHeldAs e (removes x ∷ before)
  removed-there e x before t s h u =
      let rows : List Tracked = without_row x (list before) in
      let within : is_over limit watermark (up_to e rows) ≡ false = part-within (up_to e rows) rows (up_to-weighs e rows) (up_to-counts e rows) (held-within (removes x ∷ before)) in
      let past : is_past weight limit watermark e (removes x ∷ before) ≡ false = subst (λ (l : List Tracked). is_over limit watermark l ≡ false) u within in
      record { there = h ∙ sym (left-there (same_entry x e) (stays weight limit watermark e before) (is_past weight limit watermark e (removes x ∷ before)) t s past); front = λ k. u }

  held-removed : (e x : CacheEntryKey) (before : List Step) → IsHeldAs e before → IsHeldAs e (removes x ∷ before)
  held-removed e x before o = by_tests (same_entry x e) (has_row e (list before)) refl refl
    where
      by_tests : (a b : Bool) → same_entry x e ≡ a → has_row e (list before) ≡ b → IsHeldAs e (removes x ∷ before)
      by_tests true b t h =
          absent e (removes x ∷ before) (subst (λ (y : CacheEntryKey). has_row y (without_row x (list before)) ≡ false) (same-is x e t) (has-gone x (list before)))
          (left-removed (same_entry x e) (stays weight limit watermark e before) (is_past weight limit watermark e (removes x ∷ before)) t)
      by_tests false true t h =
          removed-there e x before t (sym o.there ∙ h) (has-without e x (list before) t ∙ h) (up_to-without e x (list before) t ∙ ap (without_row x) (o.front h))
      by_tests false false t h =
          absent e (removes x ∷ before) (has-without e x (list before) t ∙ h)
          (left-absent (same_entry x e) (stays weight limit watermark e before) (is_past weight limit watermark e (removes x ∷ before)) (sym o.there ∙ h))

  held-as : (e : CacheEntryKey) (steps : List Step) → IsHeldAs e steps
  held-as e [] = record { there = refl; front = λ k. refl }
  held-as e (asks x ∷ before) = held-asked e x before (held-as e before)
  held-as e (removes x ∷ before) = held-removed e x before (held-as e before)

  pub held-stays : (e : CacheEntryKey) (steps : List Step) → has_row e (list steps) ≡ stays weight limit watermark e steps
  held-stays e steps = (held-as e steps).there
