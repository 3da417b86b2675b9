-- Rows up to that of an entry, and rows with another's taken out.
use Rattle.std.proofs.Common.{◌≡◌, ◌≤◌, Bool, true, false, cond, List, [], ◌∷◌, length, refl, ap, sym, ◌∙◌, arith}
use Rattle.std.specs.Prelude.{not}
use Rattle.std.proofs.lemmas.Bool.{false≢true}
use Rattle.cache_entries.specs.declared.entry.CacheEntryKey.{CacheEntryKey}
use Rattle.cache_entries.specs.declared.rows.Tracked.{Tracked}
use Rattle.cache_entries.specs.Entry.{same_entry}
use Rattle.cache_entries.specs.Rows.{all_weights, without_row}
use Rattle.curve_loads.specs.Steps.{has_row}
use Rattle.curve_loads.proofs.Entries.{apart}
use Rattle.curve_loads.proofs.Limits.{weights-cons}

-- the rows up to that of e, and it
abbrev pub up_to : CacheEntryKey → List Tracked → List Tracked
up_to e [] = []
up_to e (r ∷ rows) = r ∷ cond (same_entry r.entry e) [] (up_to e rows)

pub has-here : (e : CacheEntryKey) (r : Tracked) (rows : List Tracked) → same_entry r.entry e ≡ true → has_row e (r ∷ rows) ≡ true
has-here e r rows h = rw h refl

pub has-further : (e : CacheEntryKey) (r : Tracked) (rows : List Tracked) → same_entry r.entry e ≡ false → has_row e (r ∷ rows) ≡ has_row e rows
has-further e r rows h = rw h refl

-- ---- sums

pub without-weighs : (e : CacheEntryKey) (rows : List Tracked) → all_weights (without_row e rows) ≤ all_weights rows
without-weighs e [] = omega arith
without-weighs e (r ∷ rows) = by_test (same_entry r.entry e) (without-weighs e rows)
  where
    by_test : (t : Bool) → all_weights (without_row e rows) ≤ all_weights rows → all_weights (cond (not t) (r ∷ without_row e rows) (without_row e rows)) ≤ all_weights (r ∷ rows)
    by_test true h = let c = weights-cons r rows in omega (arith, h, c)
    by_test false h =
        let c = weights-cons r rows in
        let d = weights-cons r (without_row e rows) in
        omega (arith, h, c, d)

pub without-counts : (e : CacheEntryKey) (rows : List Tracked) → length (without_row e rows) ≤ length rows
without-counts e [] = omega arith
without-counts e (r ∷ rows) = by_test (same_entry r.entry e) (without-counts e rows)
  where
    by_test : (t : Bool) → length (without_row e rows) ≤ length rows → length (cond (not t) (r ∷ without_row e rows) (without_row e rows)) ≤ length (r ∷ rows)
    by_test true h = omega (arith, h)
    by_test false h = omega (arith, h)

pub up_to-weighs : (e : CacheEntryKey) (rows : List Tracked) → all_weights (up_to e rows) ≤ all_weights rows
up_to-weighs e [] = omega arith
up_to-weighs e (r ∷ rows) = by_test (same_entry r.entry e) (up_to-weighs e rows)
  where
    by_test : (t : Bool) → all_weights (up_to e rows) ≤ all_weights rows → all_weights (r ∷ cond t [] (up_to e rows)) ≤ all_weights (r ∷ rows)
    by_test true h =
        let c = weights-cons r rows in
        let d = weights-cons r [] in
        omega (arith, c, d)
    by_test false h =
        let c = weights-cons r rows in
        let d = weights-cons r (up_to e rows) in
        omega (arith, h, c, d)

pub up_to-counts : (e : CacheEntryKey) (rows : List Tracked) → length (up_to e rows) ≤ length rows
up_to-counts e [] = omega arith
up_to-counts e (r ∷ rows) = by_test (same_entry r.entry e) (up_to-counts e rows)
  where
    by_test : (t : Bool) → length (up_to e rows) ≤ length rows → length (r ∷ cond t [] (up_to e rows)) ≤ length (r ∷ rows)
    by_test true h = omega arith
    by_test false h = omega (arith, h)

-- ---- another's row taken out

pub has-without : (e x : CacheEntryKey) (rows : List Tracked) → same_entry x e ≡ false → has_row e (without_row x rows) ≡ has_row e rows
has-without e x [] t = refl
has-without e x (r ∷ rows) t = by_tests (same_entry r.entry x) (same_entry r.entry e) refl refl (has-without e x rows t)
  where
    by_tests : (a b : Bool) → same_entry r.entry x ≡ a → same_entry r.entry e ≡ b → has_row e (without_row x rows) ≡ has_row e rows
        → has_row e (cond (not a) (r ∷ without_row x rows) (without_row x rows)) ≡ has_row e (r ∷ rows)
    by_tests true true h i ih = absurd (false≢true (sym (apart r.entry x e h t) ∙ i))
    by_tests true false h i ih = ih ∙ sym (has-further e r rows i)
    by_tests false true h i ih = has-here e r (without_row x rows) i ∙ sym (has-here e r rows i)
    by_tests false false h i ih = has-further e r (without_row x rows) i ∙ ih ∙ sym (has-further e r rows i)

pub has-gone : (e : CacheEntryKey) (rows : List Tracked) → has_row e (without_row e rows) ≡ false
has-gone e [] = refl
has-gone e (r ∷ rows) = by_test (same_entry r.entry e) refl (has-gone e rows)
  where
    by_test : (t : Bool) → same_entry r.entry e ≡ t → has_row e (without_row e rows) ≡ false → has_row e (cond (not t) (r ∷ without_row e rows) (without_row e rows)) ≡ false
    by_test true h ih = ih
    by_test false h ih = has-further e r (without_row e rows) h ∙ ih

pub up_to-without : (e x : CacheEntryKey) (rows : List Tracked) → same_entry x e ≡ false → up_to e (without_row x rows) ≡ without_row x (up_to e rows)
up_to-without e x [] t = refl
up_to-without e x (r ∷ rows) t = by_tests (same_entry r.entry x) (same_entry r.entry e) refl refl (up_to-without e x rows t)
  where
    by_tests : (a b : Bool) → same_entry r.entry x ≡ a → same_entry r.entry e ≡ b → up_to e (without_row x rows) ≡ without_row x (up_to e rows)
        → up_to e (cond (not a) (r ∷ without_row x rows) (without_row x rows)) ≡ cond (not a) (r ∷ without_row x (cond b [] (up_to e rows))) (without_row x (cond b [] (up_to e rows)))
    by_tests true true h i ih = absurd (false≢true (sym (apart r.entry x e h t) ∙ i))
    by_tests true false h i ih = ih
    by_tests false true h i ih = rw i refl
    by_tests false false h i ih = rw i (ap (λ (l : List Tracked). r ∷ l) ih)
