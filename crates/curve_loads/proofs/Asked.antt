-- Where nothing is removed loads only grow.
use Rattle.std.proofs.Common.{◌≡◌, ℕ, ◌+◌, ◌≤◌, ◌||◌, ◌&&◌, Bool, true, false, cond, List, [], ◌∷◌, length, Option, None, refl, ap, sym, ◌∙◌, subst, arith}
use Rattle.std.specs.Prelude.{not}
use Rattle.cache_entries.specs.declared.entry.CacheEntryKey.{CacheEntryKey}
use Rattle.cache_entries.specs.declared.rows.Tracked.{Tracked}
use Rattle.cache_entries.specs.Entry.{same_entry}
use Rattle.cache_entries.specs.Rows.{row_of, all_weights, without_row, AreDistinct, is_over}
use Rattle.curve_loads.specs.Steps.{Step, asks, removes, row_for}
use Rattle.curve_loads.specs.Loads.{load, is_past, stays, is_asked, AreAsks, AreWeighed}
use Rattle.curve_loads.proofs.Entries.{same-is}
use Rattle.curve_loads.proofs.Limits.{weights-cons, more-exceeds}
use Rattle.curve_loads.proofs.Present.{weighed-load}
use Rattle.curve_loads.proofs.Members.{distinct-load}

-- without the entry of no row all rows are left
without-none : (x : CacheEntryKey) (rows : List Tracked) → row_of x rows ≡ None → without_row x rows ≡ rows
without-none x [] h = refl
without-none x (r ∷ rows) h = by_test (same_entry r.entry x) refl (without-none x rows)
  where
    by_test : (t : Bool) → same_entry r.entry x ≡ t → (row_of x rows ≡ None → without_row x rows ≡ rows) → cond (not t) (r ∷ without_row x rows) (without_row x rows) ≡ r ∷ rows
    by_test true t ih = absurd cc
    by_test false t ih = ap (λ (l : List Tracked). r ∷ l) (ih (rw t at h))

module _ (weight : CacheEntryKey → ℕ) where
  grows : (x : CacheEntryKey) (rows : List Tracked) → AreWeighed weight rows → AreDistinct rows → (all_weights rows ≤ weight x + all_weights (without_row x rows)) × (length rows ≤ 1 + length (without_row x rows))
  grows x [] w d = (omega arith, omega arith)
  grows x (r ∷ rows) w d = by_test (same_entry r.entry x) refl (grows x rows w.1 d.1)
    where
      by_test : (t : Bool) → same_entry r.entry x ≡ t → (all_weights rows ≤ weight x + all_weights (without_row x rows)) × (length rows ≤ 1 + length (without_row x rows))
          → (all_weights (r ∷ rows) ≤ weight x + all_weights (cond (not t) (r ∷ without_row x rows) (without_row x rows)))
          × (length (r ∷ rows) ≤ 1 + length (cond (not t) (r ∷ without_row x rows) (without_row x rows)))
      by_test true t ih =
          let same : r.entry ≡ x = same-is r.entry x t in
          let all : without_row x rows ≡ rows = without-none x rows (subst (λ (y : CacheEntryKey). row_of y rows ≡ None) same d.0) in
          let a : all_weights (without_row x rows) ≡ all_weights rows = ap all_weights all in
          let b : length (without_row x rows) ≡ length rows = ap length all in
          let c = weights-cons r rows in
          let v : r.weight ≡ weight x = w.0 ∙ ap weight same in
          (omega (arith, a, c, v), omega (arith, b))
      by_test false t ih =
          let c = weights-cons r rows in
          let f = weights-cons r (without_row x rows) in
          let i = ih.0 in
          let j = ih.1 in
          (omega (arith, c, f, i), omega (arith, j))

  module _ (limit : ℕ) (watermark : Option ℕ) (e : CacheEntryKey) where
    -- a load that is past a limit stays so
    past-more : (x : CacheEntryKey) (before : List Step) → same_entry x e ≡ false → is_past weight limit watermark e before ≡ true → is_past weight limit watermark e (asks x ∷ before) ≡ true
    past-more x before t h =
        let rows : List Tracked = load weight e before in
        let new : List Tracked = row_for weight x ∷ without_row x rows in
        let g = grows x rows (weighed-load weight e before) (distinct-load weight e before) in
        let c = weights-cons (row_for weight x) (without_row x rows) in
        let i = g.0 in
        let j = g.1 in
        let more : is_over limit watermark new ≡ true = more-exceeds limit watermark (all_weights rows) (all_weights new) (length rows) (length new) (omega (arith, c, i)) (omega (arith, j)) h in
        subst (λ (b : Bool). is_over limit watermark (row_for weight x ∷ cond b [] (without_row x rows)) ≡ true) (sym t) more

    by_bools : (same asked before past new : Bool) → before ≡ (asked && not past) → (same ≡ false → past ≡ true → new ≡ true) → ((same || before) && not new) ≡ ((same || asked) && not new)
    by_bools true asked before past new h g = refl
    by_bools false false before past new h g = ap (λ (b : Bool). b && not new) h
    by_bools false true before false new h g = ap (λ (b : Bool). b && not new) h
    by_bools false true before true new h g = ap (λ (b : Bool). b && not new) h ∙ sym (ap not (g refl refl))

    pub stays-asked : (steps : List Step) → AreAsks steps → stays weight limit watermark e steps ≡ (is_asked e steps && not (is_past weight limit watermark e steps))
    stays-asked [] h = refl
    stays-asked (asks x ∷ before) h =
        by_bools (same_entry x e) (is_asked e before) (stays weight limit watermark e before) (is_past weight limit watermark e before) (is_past weight limit watermark e (asks x ∷ before))
        (stays-asked before h.1) (past-more x before)
    stays-asked (removes x ∷ before) h = absurd cc
