-- Peaks report what is held.
use Rattle.std.proofs.Common.{◌≡◌, ℕ, ◌+◌, ◌||◌, ◌&&◌, Bool, true, false, cond, ltb, max, List, [], ◌∷◌, length, Option, Some, None, refl, ap, sym, ◌∙◌, arith}
use Rattle.std.specs.Prelude.{not, option_map}
use Rattle.std.proofs.lemmas.Bool.{true≢false, false≢true, ltb-true, ltb-false, lt-ltb, le-ltb}
use Rattle.cache_entries.specs.declared.entry.CacheEntryKey.{CacheEntryKey}
use Rattle.cache_entries.specs.declared.rows.Tracked.{Tracked}
use Rattle.cache_entries.specs.Entry.{same_entry}
use Rattle.cache_entries.specs.Rows.{all_weights, without_row, is_over}
use Rattle.curve_loads.specs.Steps.{Step, asks, removes, passes, exceeds, row_for, has_row, held}
use Rattle.curve_loads.specs.Loads.{load, is_past, stays}
use Rattle.curve_loads.specs.Finds.{finds}
use Rattle.curve_loads.specs.Peaks.{raised, peak, keeps, counted}
use Rattle.curve_loads.proofs.Entries.{same-is}
use Rattle.curve_loads.proofs.Limits.{weights-cons, less-exceeds}
use Rattle.curve_loads.proofs.Rows.{without-weighs, without-counts}
use Rattle.curve_loads.proofs.Held.{held-stays}

-- ---- the greater of two

ltb-max : (m a b : ℕ) → ltb m (max a b) ≡ (ltb m a || ltb m b)
ltb-max m a b = by_tests (ltb m a) (ltb m b) refl refl
  where
    by_tests : (x y : Bool) → ltb m a ≡ x → ltb m b ≡ y → ltb m (max a b) ≡ (x || y)
    by_tests true y h i = let k = ltb-true m a h in lt-ltb m (max a b) (omega (arith, k))
    by_tests false true h i = let k = ltb-true m b i in lt-ltb m (max a b) (omega (arith, k))
    by_tests false false h i =
        let k = ltb-false m a h in
        let j = ltb-false m b i in
        le-ltb m (max a b) (omega (arith, k, j))

passes-max : (watermark : Option ℕ) (a b : ℕ) → passes watermark (max a b) ≡ (passes watermark a || passes watermark b)
passes-max None a b = refl
passes-max (Some mark) a b = ltb-max mark a b

either-both : (p q r s : Bool) → ((p || q) || (r || s)) ≡ ((p || r) || (q || s))
either-both true q true s = refl
either-both true q false s = refl
either-both false true true s = refl
either-both false true false s = refl
either-both false false r s = refl

neither-both : (p q : Bool) → not (p || q) ≡ (not p && not q)
neither-both true q = refl
neither-both false q = refl

exceeds-max : (limit : ℕ) (watermark : Option ℕ) (w w' n n' : ℕ) → exceeds limit watermark (max w w') (max n n') ≡ (exceeds limit watermark w n || exceeds limit watermark w' n')
exceeds-max limit watermark w w' n n' =
    (λ i. ltb-max limit w w' i || passes-max watermark n n' i) ∙ either-both (ltb limit w) (ltb limit w') (passes watermark n) (passes watermark n')

-- ---- by steps

stays-within : (same before past : Bool) → same ≡ false → ((same || before) && not past) ≡ true → past ≡ false
stays-within true before past h k = absurd (true≢false h)
stays-within false true true h k = absurd (false≢true k)
stays-within false true false h k = refl
stays-within false false past h k = absurd (false≢true k)

left-within : (same before past : Bool) → (not same && (before && not past)) ≡ true → past ≡ false
left-within true before past k = absurd (false≢true k)
left-within false true true k = absurd (false≢true k)
left-within false true false k = refl
left-within false false past k = absurd (false≢true k)

first-within : (before past : Bool) → ((true || before) && not past) ≡ true → past ≡ false
first-within before true k = absurd (false≢true k)
first-within before false k = refl

and_true : (p : Bool) → (p && true) ≡ p
and_true true = refl
and_true false = refl

module _ (weight : CacheEntryKey → ℕ) (limit : ℕ) (watermark : Option ℕ) (e : CacheEntryKey) where
  -- an entry that stays has a load within the limits
  within-now : (steps : List Step) → stays weight limit watermark e steps ≡ true → is_past weight limit watermark e steps ≡ false
  within-now [] h = absurd (false≢true h)
  within-now (asks x ∷ before) h = by_test (same_entry x e) refl
    where
      by_test : (t : Bool) → same_entry x e ≡ t → is_past weight limit watermark e (asks x ∷ before) ≡ false
      by_test true t =
          first-within (stays weight limit watermark e before) (is_past weight limit watermark e (asks x ∷ before))
          (ap (λ (b : Bool). (b || stays weight limit watermark e before) && not (is_past weight limit watermark e (asks x ∷ before))) (sym t) ∙ h)
      by_test false t = stays-within (same_entry x e) (stays weight limit watermark e before) (is_past weight limit watermark e (asks x ∷ before)) t h
  within-now (removes x ∷ before) h = left-within (same_entry x e) (stays weight limit watermark e before) (is_past weight limit watermark e (removes x ∷ before)) h

  -- where another is removed the load shrinks
  past-less : (x : CacheEntryKey) (before : List Step) → is_past weight limit watermark e before ≡ false → is_past weight limit watermark e (removes x ∷ before) ≡ false
  past-less x before h =
      less-exceeds limit watermark (all_weights (without_row x (load weight e before))) (all_weights (load weight e before)) (length (without_row x (load weight e before))) (length (load weight e before))
      (without-weighs x (load weight e before)) (without-counts x (load weight e before)) h

  keeps-raised : (most : Option (ℕ × ℕ)) (rows : List Tracked) → keeps limit watermark (option_map (λ m. raised m rows) most) ≡ (keeps limit watermark most && not (is_over limit watermark rows))
  keeps-raised None rows = refl
  keeps-raised (Some m) rows = ap not (exceeds-max limit watermark m.0 (all_weights rows) m.1 (length rows)) ∙ neither-both (exceeds limit watermark m.0 m.1) (is_over limit watermark rows)

  one-weighs : (x : CacheEntryKey) → same_entry x e ≡ true → all_weights (row_for weight x ∷ []) ≡ weight e
  one-weighs x t =
      let c = weights-cons (row_for weight x) [] in
      let s : weight x ≡ weight e = ap weight (same-is x e t) in
      omega (arith, c, s)

  stays-keeps : (steps : List Step) → stays weight limit watermark e steps ≡ keeps limit watermark (peak weight e steps)
  stays-keeps [] = refl
  stays-keeps (asks x ∷ before) = by_test (same_entry x e) refl (stays-keeps before)
    where
      by_test : (t : Bool) → same_entry x e ≡ t → stays weight limit watermark e before ≡ keeps limit watermark (peak weight e before)
          → stays weight limit watermark e (asks x ∷ before) ≡ keeps limit watermark (peak weight e (asks x ∷ before))
      by_test true t ih = rw t (ap (λ (w : ℕ). not (exceeds limit watermark w 1)) (one-weighs x t))
      by_test false t ih =
          rw t (
          ap (λ (b : Bool). b && not (is_over limit watermark (row_for weight x ∷ without_row x (load weight e before)))) ih
          ∙ sym (keeps-raised (peak weight e before) (row_for weight x ∷ without_row x (load weight e before))))
  stays-keeps (removes x ∷ before) = by_test (same_entry x e) refl (stays weight limit watermark e before) refl (stays-keeps before)
    where
      by_test : (t : Bool) → same_entry x e ≡ t → (s : Bool) → stays weight limit watermark e before ≡ s → stays weight limit watermark e before ≡ keeps limit watermark (peak weight e before)
          → stays weight limit watermark e (removes x ∷ before) ≡ keeps limit watermark (peak weight e (removes x ∷ before))
      by_test true t s i ih = rw t refl
      by_test false t true i ih =
          let past : is_past weight limit watermark e (removes x ∷ before) ≡ false = past-less x before (within-now before i) in
          rw t (ap (λ (b : Bool). stays weight limit watermark e before && not b) past ∙ ap (λ (b : Bool). b && true) ih ∙ and_true (keeps limit watermark (peak weight e before)))
      by_test false t false i ih = rw t (ap (λ (b : Bool). b && not (is_past weight limit watermark e (removes x ∷ before))) i ∙ sym i ∙ ih)

  pub held-keeps : (steps : List Step) → has_row e (held weight limit watermark steps) ≡ keeps limit watermark (peak weight e steps)
  held-keeps steps = held-stays weight limit watermark e steps ∙ stays-keeps steps

module _ (weight : CacheEntryKey → ℕ) (limit : ℕ) (watermark : Option ℕ) where
  pub finds-counted : (steps : List Step) → finds weight limit watermark steps ≡ counted weight limit watermark steps
  finds-counted [] = refl
  finds-counted (asks e ∷ before) = λ i. cond (held-keeps weight limit watermark e before i) 1 0 + finds-counted before i
  finds-counted (removes e ∷ before) = finds-counted before
