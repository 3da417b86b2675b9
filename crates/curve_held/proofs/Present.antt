-- What is held has no entry twice, and only numbered ones; what it weighs with an entry more or less.
use Rattle.std.proofs.Common.{◌≡◌, ℕ, ◌+◌, ◌<◌, ◌&&◌, eqb, Bool, true, false, cond, List, [], ◌∷◌, length, Option, Some, None, refl, ap, sym, ◌∙◌, arith}
use Rattle.std.specs.Prelude.{not, is_some}
use Rattle.std.specs.List.{AllByRecursion}
use Rattle.std.proofs.lemmas.Bool.{true≢false, eqb-true}
use Rattle.cache_entries.specs.declared.entry.CacheEntryKey.{CacheEntryKey}
use Rattle.cache_entries.specs.declared.rows.Tracked.{Tracked}
use Rattle.cache_entries.specs.Entry.{same_entry}
use Rattle.cache_entries.specs.Rows.{row_of, all_weights, without_row, is_over, AreDistinct}
use Rattle.curve_loads.specs.Steps.{Step, asks, removes, has_row, exceeds, kept_after, kept, row_for, put_first, held}
use Rattle.curve_loads.specs.Loads.{AreWeighed}
use Rattle.curve_loads.proofs.Entries.{same-self, same-is}
use Rattle.curve_loads.proofs.Limits.{weights-cons, nothing-exceeds, exceeds-nil, exceeds-cons, exceeds-first}
use Rattle.curve_loads.proofs.Rows.{up_to, has-here, has-further, has-without, has-gone}
use Rattle.curve_loads.proofs.Kept.{over_after, has-kept_after}
use Rattle.curve_loads.proofs.Members.{distinct-without}
use Rattle.curve_loads.proofs.Present.{weighed-without}
use Rattle.curve_sizes.specs.Requests.{Request, steps_of}
use Rattle.curve_sizes.specs.Requests as requests
use Rattle.curve_sizes.specs.Numbers.{numbered, number_in, AreNumbered}
use Rattle.curve_sizes.proofs.CellPlaces.{same-numbered}
use Rattle.curve_held.specs.State.{present}
use Rattle.curve_held.proofs.Folds.{HaveNumbers, eqb-other}

none-of : (e : CacheEntryKey) (rows : List Tracked) → has_row e rows ≡ false → row_of e rows ≡ None
none-of e rows h = by_row (row_of e rows) refl
  where
    by_row : (o : Option Tracked) → row_of e rows ≡ o → row_of e rows ≡ None
    by_row None i = i
    by_row (Some r) i = absurd (true≢false (sym (ap (λ (x : Option Tracked). is_some x) i) ∙ h))

pub without-none : (e : CacheEntryKey) (rows : List Tracked) → has_row e rows ≡ false → without_row e rows ≡ rows
without-none e [] h = refl
without-none e (r ∷ rows) h = by_test (same_entry r.entry e) refl (without-none e rows)
  where
    by_test : (t : Bool) → same_entry r.entry e ≡ t → (has_row e rows ≡ false → without_row e rows ≡ rows) → cond (not t) (r ∷ without_row e rows) (without_row e rows) ≡ r ∷ rows
    by_test true i ih = absurd (true≢false (sym (has-here e r rows i) ∙ h))
    by_test false i ih = ap (λ (l : List Tracked). r ∷ l) (ih (sym (has-further e r rows i) ∙ h))

-- ---- what holds of each row holds of each that is left

module _ (P : Tracked → Type 0) where
  all-without : (e : CacheEntryKey) (rows : List Tracked) → AllByRecursion P rows → AllByRecursion P (without_row e rows)
  all-without e [] h = tt
  all-without e (r ∷ rows) h = by_test (same_entry r.entry e) (all-without e rows h.1)
    where
      by_test : (t : Bool) → AllByRecursion P (without_row e rows) → AllByRecursion P (cond (not t) (r ∷ without_row e rows) (without_row e rows))
      by_test true i = i
      by_test false i = (h.0, i)

  all-kept : (limit : ℕ) (mark : Option ℕ) (w n : ℕ) (rows : List Tracked) → AllByRecursion P rows → AllByRecursion P (kept_after limit mark w n rows)
  all-kept limit mark w n [] h = tt
  all-kept limit mark w n (r ∷ rows) h = by_test (exceeds limit mark (w + r.weight) (n + 1)) (all-kept limit mark (w + r.weight) (n + 1) rows h.1)
    where
      by_test : (t : Bool) → AllByRecursion P (kept_after limit mark (w + r.weight) (n + 1) rows) → AllByRecursion P (cond t [] (r ∷ kept_after limit mark (w + r.weight) (n + 1) rows))
      by_test true i = tt
      by_test false i = (h.0, i)

distinct-kept : (limit : ℕ) (mark : Option ℕ) (w n : ℕ) (rows : List Tracked) → AreDistinct rows → AreDistinct (kept_after limit mark w n rows)
distinct-kept limit mark w n [] d = tt
distinct-kept limit mark w n (r ∷ rows) d = by_test (exceeds limit mark (w + r.weight) (n + 1)) (distinct-kept limit mark (w + r.weight) (n + 1) rows d.1)
  where
    gone : has_row r.entry rows ≡ false → has_row r.entry (kept_after limit mark (w + r.weight) (n + 1) rows) ≡ false
    gone h = has-kept_after limit mark r.entry (w + r.weight) (n + 1) rows ∙ ap (λ (b : Bool). b && not (over_after limit mark (w + r.weight) (n + 1) (up_to r.entry rows))) h

    by_test : (t : Bool) → AreDistinct (kept_after limit mark (w + r.weight) (n + 1) rows) → AreDistinct (cond t [] (r ∷ kept_after limit mark (w + r.weight) (n + 1) rows))
    by_test true i = tt
    by_test false i = (none-of r.entry (kept_after limit mark (w + r.weight) (n + 1) rows) (gone (ap (λ (o : Option Tracked). is_some o) d.0)), i)

distinct-first : (weight : CacheEntryKey → ℕ) (e : CacheEntryKey) (rows : List Tracked) → AreDistinct rows → AreDistinct (put_first weight e rows)
distinct-first weight e rows d = (none-of e (without_row e rows) (has-gone e rows), distinct-without e rows d)

module _ (weight : CacheEntryKey → ℕ) where
  pub distinct-held : (limit : ℕ) (mark : Option ℕ) (steps : List Step) → AreDistinct (held weight limit mark steps)
  distinct-held limit mark [] = tt
  distinct-held limit mark (asks e ∷ before) =
      distinct-kept limit mark 0 0 (put_first weight e (held weight limit mark before)) (distinct-first weight e (held weight limit mark before) (distinct-held limit mark before))
  distinct-held limit mark (removes e ∷ before) = distinct-without e (held weight limit mark before) (distinct-held limit mark before)

  pub numbers-held : (limit : ℕ) (mark : Option ℕ) (n : ℕ) (rs : List Request) → AreNumbered n rs → HaveNumbers n (held weight limit mark (steps_of rs))
  numbers-held limit mark n [] a = tt
  numbers-held limit mark n (requests.asks e w t ∷ before) a =
      let P : Tracked → Type 0 = λ r. (r.entry ≡ numbered (number_in r.entry)) × (number_in r.entry < n) in
      all-kept P limit mark 0 0 (put_first weight e (held weight limit mark (steps_of before)))
      (a.0, all-without P e (held weight limit mark (steps_of before)) (numbers-held limit mark n before a.1))
  numbers-held limit mark n (requests.removes e ∷ before) a =
      all-without (λ r. (r.entry ≡ numbered (number_in r.entry)) × (number_in r.entry < n)) e (held weight limit mark (steps_of before)) (numbers-held limit mark n before a.1)

  pub distinct-present : (steps : List Step) → AreDistinct (present weight steps)
  distinct-present [] = tt
  distinct-present (asks e ∷ before) = distinct-first weight e (present weight before) (distinct-present before)
  distinct-present (removes e ∷ before) = distinct-without e (present weight before) (distinct-present before)

  pub weighed-present : (steps : List Step) → AreWeighed weight (present weight steps)
  weighed-present [] = tt
  weighed-present (asks e ∷ before) = (refl, weighed-without weight e (present weight before) (weighed-present before))
  weighed-present (removes e ∷ before) = weighed-without weight e (present weight before) (weighed-present before)

  -- ---- an entry more or less

  pub without-weighs : (e : CacheEntryKey) (rows : List Tracked) → AreWeighed weight rows → AreDistinct rows → has_row e rows ≡ true → weight e + all_weights (without_row e rows) ≡ all_weights rows
  without-weighs e [] a d h = absurd (true≢false (sym h))
  without-weighs e (r ∷ rows) a d h = by_test (same_entry r.entry e) refl (without-weighs e rows a.1 d.1)
    where
      by_test : (t : Bool) → same_entry r.entry e ≡ t → (has_row e rows ≡ true → weight e + all_weights (without_row e rows) ≡ all_weights rows)
          → weight e + all_weights (cond (not t) (r ∷ without_row e rows) (without_row e rows)) ≡ all_weights (r ∷ rows)
      by_test true i ih =
          let c = weights-cons r rows in
          let q = same-is r.entry e i in
          let s : r.weight ≡ weight e = a.0 ∙ ap weight q in
          let n : has_row e rows ≡ false = ap (λ (x : CacheEntryKey). has_row x rows) (sym q) ∙ ap (λ (o : Option Tracked). is_some o) d.0 in
          let z = ap (λ (l : List Tracked). all_weights l) (without-none e rows n) in
          omega (arith, c, s, z)
      by_test false i ih =
          let c = weights-cons r rows in
          let k = weights-cons r (without_row e rows) in
          let j = ih (sym (has-further e r rows i) ∙ h) in
          omega (arith, c, k, j)

  pub without-counts : (e : CacheEntryKey) (rows : List Tracked) → AreDistinct rows → has_row e rows ≡ true → 1 + length (without_row e rows) ≡ length rows
  without-counts e [] d h = absurd (true≢false (sym h))
  without-counts e (r ∷ rows) d h = by_test (same_entry r.entry e) refl (without-counts e rows d.1)
    where
      by_test : (t : Bool) → same_entry r.entry e ≡ t → (has_row e rows ≡ true → 1 + length (without_row e rows) ≡ length rows)
          → 1 + length (cond (not t) (r ∷ without_row e rows) (without_row e rows)) ≡ length (r ∷ rows)
      by_test true i ih =
          let q = same-is r.entry e i in
          let n : has_row e rows ≡ false = ap (λ (x : CacheEntryKey). has_row x rows) (sym q) ∙ ap (λ (o : Option Tracked). is_some o) d.0 in
          let z = ap (λ (l : List Tracked). length l) (without-none e rows n) in
          omega (arith, z)
      by_test false i ih =
          let j = ih (sym (has-further e r rows i) ∙ h) in
          omega (arith, j)

-- ---- which numbers have a row

eqb-self : (k : ℕ) → eqb k k ≡ true
eqb-self k = sym (same-numbered k k) ∙ same-self (numbered k)

pub there-first : (weight : CacheEntryKey → ℕ) (n entry : ℕ) (rows : List Tracked) → has_row (numbered n) (put_first weight (numbered entry) rows) ≡ cond (eqb n entry) true (has_row (numbered n) rows)
there-first weight n entry rows = by_test (eqb n entry) refl
  where
    by_test : (t : Bool) → eqb n entry ≡ t → has_row (numbered n) (put_first weight (numbered entry) rows) ≡ cond t true (has_row (numbered n) rows)
    by_test true i =
        has-here (numbered n) (row_for weight (numbered entry)) (without_row (numbered entry) rows)
        (ap (λ (k : ℕ). same_entry (numbered entry) (numbered k)) (eqb-true n entry i) ∙ same-self (numbered entry))
    by_test false i =
        let o : same_entry (numbered entry) (numbered n) ≡ false = same-numbered entry n ∙ eqb-other entry n (λ e. true≢false (sym (ap (λ (k : ℕ). eqb n k) e ∙ eqb-self n) ∙ i)) in
        has-further (numbered n) (row_for weight (numbered entry)) (without_row (numbered entry) rows) o ∙ has-without (numbered n) (numbered entry) rows o

pub there-without : (n entry : ℕ) (rows : List Tracked) → has_row (numbered n) (without_row (numbered entry) rows) ≡ cond (eqb n entry) false (has_row (numbered n) rows)
there-without n entry rows = by_test (eqb n entry) refl
  where
    by_test : (t : Bool) → eqb n entry ≡ t → has_row (numbered n) (without_row (numbered entry) rows) ≡ cond t false (has_row (numbered n) rows)
    by_test true i = ap (λ (k : ℕ). has_row (numbered k) (without_row (numbered entry) rows)) (eqb-true n entry i) ∙ has-gone (numbered entry) rows
    by_test false i =
        let o : same_entry (numbered entry) (numbered n) ≡ false = same-numbered entry n ∙ eqb-other entry n (λ e. true≢false (sym (ap (λ (k : ℕ). eqb n k) e ∙ eqb-self n) ∙ i)) in
        has-without (numbered n) (numbered entry) rows o

-- ---- what passes the limits isn't kept whole

kept-fewer : (limit : ℕ) (mark : Option ℕ) (w n : ℕ) (rows : List Tracked) → exceeds limit mark w n ≡ false → exceeds limit mark (w + all_weights rows) (n + length rows) ≡ true
    → length (kept_after limit mark w n rows) < length rows
kept-fewer limit mark w n [] f t = absurd (true≢false (sym t ∙ exceeds-nil limit mark w n ∙ f))
kept-fewer limit mark w n (r ∷ rows) f t = by_test (exceeds limit mark (w + r.weight) (n + 1)) refl (kept-fewer limit mark (w + r.weight) (n + 1) rows)
  where
    by_test : (b : Bool) → exceeds limit mark (w + r.weight) (n + 1) ≡ b
        → (exceeds limit mark (w + r.weight) (n + 1) ≡ false → exceeds limit mark (w + r.weight + all_weights rows) (n + 1 + length rows) ≡ true → length (kept_after limit mark (w + r.weight) (n + 1) rows) < length rows)
        → length (cond b [] (r ∷ kept_after limit mark (w + r.weight) (n + 1) rows)) < length (r ∷ rows)
    by_test true i ih = omega arith
    by_test false i ih = let j = ih i (sym (exceeds-cons limit mark w n r rows) ∙ t) in omega (arith, j)

pub over-fewer : (limit : ℕ) (mark : Option ℕ) (rows : List Tracked) → is_over limit mark rows ≡ true → length (kept limit mark rows) < length rows
over-fewer limit mark rows t = kept-fewer limit mark 0 0 rows (nothing-exceeds limit mark) (exceeds-first limit mark rows ∙ t)
