-- Rows of which no two have one entry.
use Rattle.std.proofs.Common.{◌≡◌, ℕ, ◌+◌, ◌||◌, Bool, true, false, cond, List, [], ◌∷◌, ◌++◌, Option, Some, None, refl, ap, sym, ◌∙◌, subst}
use Rattle.std.specs.Prelude.{not, is_some}
use Rattle.std.proofs.lemmas.Bool.{true≢false}
use Rattle.std.proofs.lemmas.List.Elements.{filter-append}
use Rattle.cache_entries.specs.declared.entry.CacheEntryKey.{CacheEntryKey}
use Rattle.cache_entries.specs.declared.rows.Tracked.{Tracked}
use Rattle.cache_entries.specs.Entry.{same_entry}
use Rattle.cache_entries.specs.Rows.{row_of, without_row, AreDistinct}
use Rattle.curve_loads.specs.Steps.{Step, asks, removes, has_row, exceeds, kept_after, put_first, held}
use Rattle.curve_loads.proofs.Entries.{same-self, turned}
use Rattle.curve_loads.proofs.Rows.{has-here, has-further, has-gone}
use Rattle.curve_loads.proofs.Members.{distinct-without}

none-of : (e : CacheEntryKey) (rows : List Tracked) → has_row e rows ≡ false → row_of e rows ≡ None
none-of e rows h = by_row (row_of e rows) refl
  where
    by_row : (o : Option Tracked) → row_of e rows ≡ o → row_of e rows ≡ None
    by_row None i = i
    by_row (Some r) i = absurd (true≢false (sym (ap (λ (x : Option Tracked). is_some x) i) ∙ h))

has-no : (e : CacheEntryKey) (rows : List Tracked) → row_of e rows ≡ None → has_row e rows ≡ false
has-no e rows h = ap (λ (x : Option Tracked). is_some x) h

pub without-absent : (e : CacheEntryKey) (rows : List Tracked) → has_row e rows ≡ false → without_row e rows ≡ rows
without-absent e [] h = refl
without-absent e (r ∷ rows) h = by_test (same_entry r.entry e) refl (without-absent e rows)
  where
    by_test : (t : Bool) → same_entry r.entry e ≡ t → (has_row e rows ≡ false → without_row e rows ≡ rows) → cond (not t) (r ∷ without_row e rows) (without_row e rows) ≡ r ∷ rows
    by_test true t ih = absurd (true≢false (sym (has-here e r rows t) ∙ h))
    by_test false t ih = ap (λ (l : List Tracked). r ∷ l) (ih (sym (has-further e r rows t) ∙ h))

-- ---- the last row

pub has-push : (e : CacheEntryKey) (front : List Tracked) (r : Tracked) → has_row e (front ++ r ∷ []) ≡ (has_row e front || same_entry r.entry e)
has-push e [] r = by_test (same_entry r.entry e) refl
  where
    by_test : (t : Bool) → same_entry r.entry e ≡ t → has_row e (r ∷ []) ≡ same_entry r.entry e
    by_test true t = has-here e r [] t ∙ sym t
    by_test false t = has-further e r [] t ∙ sym t
has-push e (x ∷ front) r = by_test (same_entry x.entry e) refl (has-push e front r)
  where
    by_test : (t : Bool) → same_entry x.entry e ≡ t → has_row e (front ++ r ∷ []) ≡ (has_row e front || same_entry r.entry e) → has_row e (x ∷ (front ++ r ∷ [])) ≡ (has_row e (x ∷ front) || same_entry r.entry e)
    by_test true t ih = has-here e x (front ++ r ∷ []) t ∙ sym (ap (λ (b : Bool). b || same_entry r.entry e) (has-here e x front t))
    by_test false t ih = has-further e x (front ++ r ∷ []) t ∙ ih ∙ sym (ap (λ (b : Bool). b || same_entry r.entry e) (has-further e x front t))

either-right : (a b : Bool) → b ≡ true → (a || b) ≡ true
either-right true b h = refl
either-right false b h = h

-- the last entry has no other row
pub last-once : (front : List Tracked) (r : Tracked) → AreDistinct (front ++ r ∷ []) → has_row r.entry front ≡ false
last-once [] r d = refl
last-once (x ∷ front) r d = by_test (same_entry x.entry r.entry) refl (last-once front r d.1)
  where
    by_test : (t : Bool) → same_entry x.entry r.entry ≡ t → has_row r.entry front ≡ false → has_row r.entry (x ∷ front) ≡ false
    by_test true t ih =
        let there : has_row x.entry (front ++ r ∷ []) ≡ true =
        has-push x.entry front r ∙ either-right (has_row x.entry front) (same_entry r.entry x.entry) (turned x.entry r.entry t) in
        absurd (true≢false (sym there ∙ has-no x.entry (front ++ r ∷ []) d.0))
    by_test false t ih = has-further r.entry x front t ∙ ih

pub without-last : (front : List Tracked) (r : Tracked) → AreDistinct (front ++ r ∷ []) → without_row r.entry (front ++ r ∷ []) ≡ front
without-last front r d =
    let kept' : without_row r.entry front ≡ front = without-absent r.entry front (last-once front r d) in
    let gone : without_row r.entry (r ∷ []) ≡ [] = ap (λ (b : Bool). cond (not b) (r ∷ []) []) (same-self r.entry) in
    filter-append (λ (x : Tracked). not (same_entry x.entry r.entry)) front (r ∷ []) ∙ (λ i. kept' i ++ gone i) ∙ append-nil' front
  where
    append-nil' : (xs : List Tracked) → xs ++ [] ≡ xs
    append-nil' [] = refl
    append-nil' (x ∷ xs) = ap (λ (l : List Tracked). x ∷ l) (append-nil' xs)

pub distinct-front : (front : List Tracked) (r : Tracked) → AreDistinct (front ++ r ∷ []) → AreDistinct front
distinct-front front r d = subst AreDistinct (without-last front r d) (distinct-without r.entry (front ++ r ∷ []) d)

-- ---- what is held

still-none : (limit : ℕ) (watermark : Option ℕ) (e : CacheEntryKey) (w n : ℕ) (rows : List Tracked) → has_row e rows ≡ false → has_row e (kept_after limit watermark w n rows) ≡ false
still-none limit watermark e w n [] h = refl
still-none limit watermark e w n (r ∷ rows) h = by_tests (exceeds limit watermark (w + r.weight) (n + 1)) (same_entry r.entry e) refl (still-none limit watermark e (w + r.weight) (n + 1) rows)
  where
    by_tests : (a b : Bool) → same_entry r.entry e ≡ b → (has_row e rows ≡ false → has_row e (kept_after limit watermark (w + r.weight) (n + 1) rows) ≡ false)
        → has_row e (cond a [] (r ∷ kept_after limit watermark (w + r.weight) (n + 1) rows)) ≡ false
    by_tests true b i ih = refl
    by_tests false true i ih = absurd (true≢false (sym (has-here e r rows i) ∙ h))
    by_tests false false i ih = has-further e r (kept_after limit watermark (w + r.weight) (n + 1) rows) i ∙ ih (sym (has-further e r rows i) ∙ h)

distinct-kept_after : (limit : ℕ) (watermark : Option ℕ) (w n : ℕ) (rows : List Tracked) → AreDistinct rows → AreDistinct (kept_after limit watermark w n rows)
distinct-kept_after limit watermark w n [] d = tt
distinct-kept_after limit watermark w n (r ∷ rows) d = by_test (exceeds limit watermark (w + r.weight) (n + 1)) (distinct-kept_after limit watermark (w + r.weight) (n + 1) rows d.1)
  where
    by_test : (a : Bool) → AreDistinct (kept_after limit watermark (w + r.weight) (n + 1) rows) → AreDistinct (cond a [] (r ∷ kept_after limit watermark (w + r.weight) (n + 1) rows))
    by_test true ih = tt
    by_test false ih =
        (none-of r.entry (kept_after limit watermark (w + r.weight) (n + 1) rows) (still-none limit watermark r.entry (w + r.weight) (n + 1) rows (has-no r.entry rows d.0)), ih)

pub distinct-put : (weight : CacheEntryKey → ℕ) (e : CacheEntryKey) (rows : List Tracked) → AreDistinct rows → AreDistinct (put_first weight e rows)
distinct-put weight e rows d = (none-of e (without_row e rows) (has-gone e rows), distinct-without e rows d)

pub distinct-held : (weight : CacheEntryKey → ℕ) (limit : ℕ) (watermark : Option ℕ) (steps : List Step) → AreDistinct (held weight limit watermark steps)
distinct-held weight limit watermark [] = tt
distinct-held weight limit watermark (asks e ∷ before) =
    distinct-kept_after limit watermark 0 0 (put_first weight e (held weight limit watermark before)) (distinct-put weight e (held weight limit watermark before) (distinct-held weight limit watermark before))
distinct-held weight limit watermark (removes e ∷ before) = distinct-without e (held weight limit watermark before) (distinct-held weight limit watermark before)
