-- Who is in a load.
use Rattle.std.proofs.Common.{◌≡◌, ℕ, ◌||◌, ◌&&◌, Bool, true, false, cond, List, [], ◌∷◌, ◌++◌, Option, None, Some, refl, ap, sym, ◌∙◌, subst}
use Rattle.std.specs.Prelude.{not, is_some}
use Rattle.std.specs.List.{AllByRecursion}
use Rattle.std.proofs.lemmas.Bool.{true≢false, false≢true}
use Rattle.cache_entries.specs.declared.entry.CacheEntryKey.{CacheEntryKey}
use Rattle.cache_entries.specs.declared.rows.Tracked.{Tracked}
use Rattle.cache_entries.specs.Entry.{same_entry}
use Rattle.cache_entries.specs.Rows.{row_of, without_row, AreDistinct}
use Rattle.curve_loads.specs.Steps.{Step, asks, removes, entry_of, has_row, row_for}
use Rattle.curve_loads.specs.Loads.{load, is_asked}
use Rattle.curve_loads.proofs.Entries.{same-self, same-is, flipped}
use Rattle.curve_loads.proofs.Rows.{has-here, has-further, has-without, has-gone}

-- ---- none twice

none-of : (e : CacheEntryKey) (rows : List Tracked) → has_row e rows ≡ false → row_of e rows ≡ None
none-of e rows h = by_row (row_of e rows) refl
  where
    by_row : (o : Option Tracked) → row_of e rows ≡ o → row_of e rows ≡ None
    by_row None i = i
    by_row (Some r) i = absurd (true≢false (sym (ap (λ (x : Option Tracked). is_some x) i) ∙ h))

has-no : (e : CacheEntryKey) (rows : List Tracked) → row_of e rows ≡ None → has_row e rows ≡ false
has-no e rows h = ap (λ (x : Option Tracked). is_some x) h

-- an entry without a row has none among some of the rows
still-none : (e x : CacheEntryKey) (rows : List Tracked) → row_of e rows ≡ None → row_of e (without_row x rows) ≡ None
still-none e x rows h = by_test (same_entry x e) refl
  where
    by_test : (t : Bool) → same_entry x e ≡ t → row_of e (without_row x rows) ≡ None
    by_test true t = subst (λ (y : CacheEntryKey). row_of y (without_row x rows) ≡ None) (same-is x e t) (none-of x (without_row x rows) (has-gone x rows))
    by_test false t = none-of e (without_row x rows) (has-without e x rows t ∙ has-no e rows h)

pub distinct-without : (x : CacheEntryKey) (rows : List Tracked) → AreDistinct rows → AreDistinct (without_row x rows)
distinct-without x [] d = tt
distinct-without x (r ∷ rows) d = by_test (same_entry r.entry x) (distinct-without x rows d.1)
  where
    by_test : (t : Bool) → AreDistinct (without_row x rows) → AreDistinct (cond (not t) (r ∷ without_row x rows) (without_row x rows))
    by_test true ih = ih
    by_test false ih = (still-none r.entry x rows d.0, ih)

module _ (weight : CacheEntryKey → ℕ) (e : CacheEntryKey) where
  pub distinct-load : (steps : List Step) → AreDistinct (load weight e steps)
  distinct-load [] = tt
  distinct-load (asks x ∷ before) = by_test (same_entry x e) (distinct-load before)
    where
      by_test : (t : Bool) → AreDistinct (load weight e before) → AreDistinct (row_for weight x ∷ cond t [] (without_row x (load weight e before)))
      by_test true ih = (refl, tt)
      by_test false ih = (none-of x (without_row x (load weight e before)) (has-gone x (load weight e before)), distinct-without x (load weight e before) ih)
  distinct-load (removes x ∷ before) = distinct-without x (load weight e before) (distinct-load before)

  -- ---- members

  either-true : (a b c : Bool) → b ≡ true → (a || (b || c)) ≡ true
  either-true true b c h = refl
  either-true false true c h = refl
  either-true false false c h = absurd (false≢true h)

  either-further : (a b c : Bool) → b ≡ false → (a || (b || c)) ≡ (a || c)
  either-further true b c h = refl
  either-further false true c h = absurd (true≢false h)
  either-further false false c h = refl

  neither : (a b c : Bool) → a ≡ false → b ≡ true → (a || (not b && c)) ≡ false
  neither true b c h i = absurd (true≢false h)
  neither false true c h i = refl
  neither false false c h i = absurd (false≢true i)

  either-left : (a b c : Bool) → b ≡ false → (a || (not b && c)) ≡ (a || c)
  either-left true b c h = refl
  either-left false true c h = absurd (true≢false h)
  either-left false false c h = refl

  -- one row alone
  alone : (x : CacheEntryKey) → has_row x (row_for weight e ∷ []) ≡ (same_entry e x || false)
  alone x = by_test (same_entry e x) refl
    where
      by_test : (t : Bool) → same_entry e x ≡ t → has_row x (row_for weight e ∷ []) ≡ (same_entry e x || false)
      by_test true t = has-here x (row_for weight e) [] t ∙ sym (ap (λ (b : Bool). b || false) t)
      by_test false t = has-further x (row_for weight e) [] t ∙ sym (ap (λ (b : Bool). b || false) t)

  pub members-of : (x : CacheEntryKey) (later before : List Step) → AllByRecursion (λ s. same_entry (entry_of s) e ≡ false) later → has_row x (load weight e (later ++ asks e ∷ before)) ≡ (same_entry e x || is_asked x later)
  members-of x [] before o = ap (λ (t : Bool). has_row x (row_for weight e ∷ cond t [] (without_row e (load weight e before)))) (same-self e) ∙ alone x
  members-of x (asks y ∷ later) before o = by_test (same_entry y x) refl (members-of x later before o.1)
    where
      by_test : (t : Bool) → same_entry y x ≡ t → has_row x (load weight e (later ++ asks e ∷ before)) ≡ (same_entry e x || is_asked x later)
          → has_row x (load weight e (asks y ∷ (later ++ asks e ∷ before))) ≡ (same_entry e x || (same_entry y x || is_asked x later))
      by_test true t ih = has-here x (row_for weight y) _ t ∙ sym (either-true (same_entry e x) (same_entry y x) (is_asked x later) t)
      by_test false t ih =
          let rows : List Tracked = load weight e (later ++ asks e ∷ before) in
          has-further x (row_for weight y) (cond (same_entry y e) [] (without_row y rows)) t ∙ ap (λ (b : Bool). has_row x (cond b [] (without_row y rows))) o.0 ∙ has-without x y rows t ∙ ih
          ∙ sym (either-further (same_entry e x) (same_entry y x) (is_asked x later) t)
  members-of x (removes y ∷ later) before o = by_test (same_entry y x) refl (members-of x later before o.1)
    where
      by_test : (t : Bool) → same_entry y x ≡ t → has_row x (load weight e (later ++ asks e ∷ before)) ≡ (same_entry e x || is_asked x later)
          → has_row x (without_row y (load weight e (later ++ asks e ∷ before))) ≡ (same_entry e x || (not (same_entry y x) && is_asked x later))
      by_test true t ih =
          let rows : List Tracked = load weight e (later ++ asks e ∷ before) in
          let other : same_entry e x ≡ false = subst (λ (z : CacheEntryKey). same_entry e z ≡ false) (same-is y x t) (flipped y e o.0) in
          subst (λ (z : CacheEntryKey). has_row z (without_row y rows) ≡ false) (same-is y x t) (has-gone y rows) ∙ sym (neither (same_entry e x) (same_entry y x) (is_asked x later) other t)
      by_test false t ih =
          has-without x y (load weight e (later ++ asks e ∷ before)) t ∙ ih ∙ sym (either-left (same_entry e x) (same_entry y x) (is_asked x later) t)
