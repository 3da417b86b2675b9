-- What a change does to the rows of one shard: the same to that list alone, or nothing.
use Rattle.std.proofs.Common.{◌≡◌, ℕ, refl, ap, sym, ◌∙◌, true, false, subst, cond, [], ◌∷◌}
use Rattle.std.specs.Prelude.{Bool, ◌==◌, List, Option, Some, None, option_map, unwrap_or, is_some, not}
use Rattle.cache_entries.specs.declared.entry.CacheEntryKey.{CacheEntryKey}
use Rattle.cache_entries.specs.declared.rows.Tracked.{Tracked}
use Rattle.cache_entries.specs.Entry.{same_entry}
use Rattle.cache_entries.specs.Rows.{weight_of, without_row, admitted, used}
use Rattle.cache_entries.specs.SameEntry.{same_entry-tells}
use Rattle.cache_changes.specs.Changes.{Change, admits, uses, reweighs, departs, evicts}
use Rattle.cache_changes.specs.Uses.{with_weight, reweighed, rows_after, shard_of, in_shard, changes_shard}
use Rattle.cache_changes.proofs.RowLaws.{not_false, was_false, filter-swap, filter-kept, find-kept}

module _ (n s : ℕ) (e : CacheEntryKey) where
  in_shard-without : (rows : List Tracked) → in_shard n s (without_row e rows) ≡ without_row e (in_shard n s rows)
  in_shard-without rows = filter-swap (λ r. shard_of n r.entry == s) (λ r. not (same_entry r.entry e)) rows

  apart : (shard_of n e == s) ≡ false → (r : Tracked) → (shard_of n r.entry == s) ≡ true → not (same_entry r.entry e) ≡ true
  apart other r here = not_false (same_entry r.entry e) (by_test (same_entry r.entry e) refl)
    where
      by_test : (v : Bool) → same_entry r.entry e ≡ v → v ≡ false
      by_test false t = refl
      by_test true t = let there : (shard_of n e == s) ≡ true = subst (λ (x : CacheEntryKey). (shard_of n x == s) ≡ true) (same_entry-tells.equal r.entry e t) here in absurd cc

  in_shard-other : (shard_of n e == s) ≡ false → (rows : List Tracked) → in_shard n s (without_row e rows) ≡ in_shard n s rows
  in_shard-other other rows =
      in_shard-without rows ∙ filter-kept (λ r. shard_of n r.entry == s) (λ r. not (same_entry r.entry e)) rows (apart other)

  in_shard-weight : (shard_of n e == s) ≡ true → (rows : List Tracked) → weight_of e (in_shard n s rows) ≡ weight_of e rows
  in_shard-weight same rows =
      ap (option_map (λ r. r.weight)) (find-kept (λ r. same_entry r.entry e) (λ r. shard_of n r.entry == s) rows
      (λ r t. subst (λ (x : CacheEntryKey). (shard_of n x == s) ≡ true) (sym (same_entry-tells.equal r.entry e t)) same))

  in_shard-admitted : (w : ℕ) → (shard_of n e == s) ≡ true → (rows : List Tracked) → in_shard n s (admitted e w rows) ≡ admitted e w (in_shard n s rows)
  in_shard-admitted w same rows = rw same (ap (λ (l : List Tracked). record { entry = e; weight = w } ∷ l) (in_shard-without rows))

  in_shard-used : (w : ℕ) → (shard_of n e == s) ≡ true → (rows : List Tracked) → in_shard n s (used e w rows) ≡ used e w (in_shard n s rows)
  in_shard-used w same rows =
      in_shard-admitted (unwrap_or (weight_of e rows) w) same rows
      ∙ ap (λ (o : Option ℕ). admitted e (unwrap_or o w) (in_shard n s rows)) (sym (in_shard-weight same rows))

  in_shard-admitted_other : (w : ℕ) → (shard_of n e == s) ≡ false → (rows : List Tracked) → in_shard n s (admitted e w rows) ≡ in_shard n s rows
  in_shard-admitted_other w other rows = rw other (in_shard-other other rows)

  -- weighed anew at its place
  weighed_here : (w : ℕ) (r : Tracked) → (shard_of n (cond (same_entry r.entry e) (record r { weight = w }) r).entry == s) ≡ (shard_of n r.entry == s)
  weighed_here w r = by_test (same_entry r.entry e)
    where
      by_test : (v : Bool) → (shard_of n (cond v (record r { weight = w }) r).entry == s) ≡ (shard_of n r.entry == s)
      by_test true = refl
      by_test false = refl

  in_shard-weighed : (w : ℕ) (rows : List Tracked) → in_shard n s (with_weight e w rows) ≡ with_weight e w (in_shard n s rows)
  in_shard-weighed w [] = refl
  in_shard-weighed w (r ∷ rows) = rw (weighed_here w r) (by_test (shard_of n r.entry == s) (in_shard-weighed w rows))
    where
      by_test : (v : Bool) → in_shard n s (with_weight e w rows) ≡ with_weight e w (in_shard n s rows)
          → cond v (cond (same_entry r.entry e) (record r { weight = w }) r ∷ in_shard n s (with_weight e w rows)) (in_shard n s (with_weight e w rows))
          ≡ with_weight e w (cond v (r ∷ in_shard n s rows) (in_shard n s rows))
      by_test true ih = ap (λ (l : List Tracked). cond (same_entry r.entry e) (record r { weight = w }) r ∷ l) ih
      by_test false ih = ih

  in_shard-weighed_other : (w : ℕ) → (shard_of n e == s) ≡ false → (rows : List Tracked) → in_shard n s (with_weight e w rows) ≡ in_shard n s rows
  in_shard-weighed_other w other [] = refl
  in_shard-weighed_other w other (r ∷ rows) = rw (weighed_here w r) (by_test (shard_of n r.entry == s) refl (in_shard-weighed_other w other rows))
    where
      by_test : (v : Bool) → (shard_of n r.entry == s) ≡ v → in_shard n s (with_weight e w rows) ≡ in_shard n s rows
          → cond v (cond (same_entry r.entry e) (record r { weight = w }) r ∷ in_shard n s (with_weight e w rows)) (in_shard n s (with_weight e w rows))
          ≡ cond v (r ∷ in_shard n s rows) (in_shard n s rows)
      by_test true here ih = rw (was_false (same_entry r.entry e) (apart other r here)) (ap (λ (l : List Tracked). r ∷ l) ih)
      by_test false here ih = ih

  in_shard-reweighed : (w : ℕ) → (shard_of n e == s) ≡ true → (rows : List Tracked) → in_shard n s (reweighed e w rows) ≡ reweighed e w (in_shard n s rows)
  in_shard-reweighed w same rows =
      by_weight (weight_of e rows) ∙ ap (λ (o : Option ℕ). cond (is_some o) (with_weight e w (in_shard n s rows)) (admitted e w (in_shard n s rows))) (sym (in_shard-weight same rows))
    where
      by_weight : (o : Option ℕ) → in_shard n s (cond (is_some o) (with_weight e w rows) (admitted e w rows))
          ≡ cond (is_some o) (with_weight e w (in_shard n s rows)) (admitted e w (in_shard n s rows))
      by_weight None = in_shard-admitted w same rows
      by_weight (Some x) = in_shard-weighed w rows

  in_shard-reweighed_other : (w : ℕ) → (shard_of n e == s) ≡ false → (rows : List Tracked) → in_shard n s (reweighed e w rows) ≡ in_shard n s rows
  in_shard-reweighed_other w other rows = by_weight (weight_of e rows)
    where
      by_weight : (o : Option ℕ) → in_shard n s (cond (is_some o) (with_weight e w rows) (admitted e w rows)) ≡ in_shard n s rows
      by_weight None = in_shard-admitted_other w other rows
      by_weight (Some x) = in_shard-weighed_other w other rows

-- a change of an entry of the shard
pub in_shard-same : {M : Type 0} (n s : ℕ) (c : Change M) (rows : List Tracked) → changes_shard n s c ≡ true → in_shard n s (rows_after c rows) ≡ rows_after c (in_shard n s rows)
in_shard-same n s (admits e w) rows h = in_shard-admitted n s e w h rows
in_shard-same n s (uses e w) rows h = in_shard-used n s e w h rows
in_shard-same n s (reweighs e w) rows h = in_shard-reweighed n s e w h rows
in_shard-same n s (departs e) rows h = in_shard-without n s e rows
in_shard-same n s (evicts e) rows h = in_shard-without n s e rows
in_shard-same n s _ rows h = refl

-- any other change
pub in_shard-unchanged : {M : Type 0} (n s : ℕ) (c : Change M) (rows : List Tracked) → changes_shard n s c ≡ false → in_shard n s (rows_after c rows) ≡ in_shard n s rows
in_shard-unchanged n s (admits e w) rows h = in_shard-admitted_other n s e w h rows
in_shard-unchanged n s (uses e w) rows h = in_shard-admitted_other n s e (unwrap_or (weight_of e rows) w) h rows
in_shard-unchanged n s (reweighs e w) rows h = in_shard-reweighed_other n s e w h rows
in_shard-unchanged n s (departs e) rows h = in_shard-other n s e h rows
in_shard-unchanged n s (evicts e) rows h = in_shard-other n s e h rows
in_shard-unchanged n s _ rows h = refl
