-- Rows that are put into an empty shard.
use Rattle.std.proofs.Common.{◌≡◌, ℕ, ◌<◌, Bool, true, false, cond, List, [], ◌∷◌, ◌++◌, length, set, Option, Some, None, sym, refl, ap, ◌∙◌, subst, append_assoc}
use Rattle.std.specs.Prelude.{unwrap_or, option_map}
use Rattle.std.specs.List.{AllByRecursion}
use Rattle.std.proofs.lemmas.List.{append-nil, set-set, set-get_or, get_or-set_same}
use Rattle.cache_entries.specs.declared.entry.CacheEntryKey.{CacheEntryKey}
use Rattle.cache_entries.specs.declared.rows.Tracked.{Tracked}
use Rattle.cache_entries.specs.Entry.{same_entry}
use Rattle.cache_entries.specs.SameEntry.{same_entry-tells, same-sym}
use Rattle.cache_entries.specs.Rows.{row_of, AreDistinct, admitted}
use Rattle.cache_evict.specs.declared.tracker.loading.Again.{Again}
use Rattle.cache_evict.specs.declared.tracker.loading.Again.TheVariants.{PassedOver, MovedFirst}
use Rattle.cache_evict.specs.Managed.{Managed, shard_of, rows_at, rows_of, with_rows}
use Rattle.cache_evict.specs.Loads.{loaded, all_put}

-- a test that finds nothing is false of each
found_nothing : (b : Bool) (x : Tracked) (o : Option Tracked) → cond b (Some x) o ≡ None → (b ≡ false) × (o ≡ None)
found_nothing true x o h = absurd (let f : Some x ≡ None = h in cc)
found_nothing false x o h = (refl, h)

not_that : (e : CacheEntryKey) (front : List Tracked) (r : Tracked) (rest : List Tracked) → row_of e (front ++ r ∷ rest) ≡ None → same_entry r.entry e ≡ false
not_that e [] r rest h = (found_nothing (same_entry r.entry e) r (row_of e rest) h).0
not_that e (x ∷ front) r rest h = not_that e front r rest (found_nothing (same_entry x.entry e) x (row_of e (front ++ r ∷ rest)) h).1

not_before : (front : List Tracked) (r : Tracked) (rest : List Tracked) → AreDistinct (front ++ r ∷ rest) → row_of r.entry front ≡ None
not_before [] r rest h = refl
not_before (x ∷ front) r rest h =
    rw (same-sym same_entry same_entry-tells x.entry r.entry, not_that x.entry front r rest h.0) (not_before front r rest h.1)

module _ (again : Again) (n s : ℕ) (m : Managed) (b : s < length m.shards) where
  abbrev holding : List Tracked → Managed
  holding rows = record m { shards = set m.shards s rows }

  new_last : (again' : Again) (r : Tracked) (mid : Managed) → row_of r.entry (rows_of n r.entry mid) ≡ None → loaded again' n r mid ≡ with_rows n r.entry (rows_of n r.entry mid ++ r ∷ []) mid
  new_last PassedOver r mid none =
      let rows = rows_of n r.entry mid in
      ap (λ (o : Option Tracked). with_rows n r.entry (unwrap_or (option_map (λ _. rows) o) (rows ++ r ∷ [])) mid) none
  new_last MovedFirst r mid none =
      let rows = rows_of n r.entry mid in
      ap (λ (o : Option Tracked). with_rows n r.entry (unwrap_or (option_map (λ _. admitted r.entry r.weight rows) o) (rows ++ r ∷ [])) mid) none

  one_put : (front : List Tracked) (r : Tracked) → shard_of n r.entry ≡ s → row_of r.entry front ≡ None → loaded again n r (holding front) ≡ holding (front ++ r ∷ [])
  one_put front r home none =
      let held : rows_of n r.entry (holding front) ≡ front = ap (λ (i : ℕ). rows_at (set m.shards s front) i) home ∙ get_or-set_same m.shards s front [] b in
      new_last again r (holding front) (ap (row_of r.entry) held ∙ none)
      ∙ ap (λ (l : List Tracked). with_rows n r.entry (l ++ r ∷ []) (holding front)) held
      ∙ ap (λ (i : ℕ). record m { shards = set (set m.shards s front) i (front ++ r ∷ []) }) home
      ∙ ap (λ (l : List (List Tracked)). record m { shards = l }) (set-set m.shards s front (front ++ r ∷ []))

  all_after : (front rows : List Tracked) → AreDistinct (front ++ rows) → AllByRecursion (λ r. shard_of n r.entry ≡ s) rows → all_put (loaded again n) rows (holding front) ≡ holding (front ++ rows)
  all_after front [] d h = ap holding (sym (append-nil front))
  all_after front (r ∷ rows) d h =
      let more = append_assoc front (r ∷ []) rows in
      ap (all_put (loaded again n) rows) (one_put front r h.0 (not_before front r rows d))
      ∙ all_after (front ++ r ∷ []) rows (subst AreDistinct (sym more) d) h.1
      ∙ ap holding more

  pub put_again : (rows : List Tracked) → rows_at m.shards s ≡ [] → AreDistinct rows → AllByRecursion (λ r. shard_of n r.entry ≡ s) rows → all_put (loaded again n) rows m ≡ record m { shards = set m.shards s rows }
  put_again rows empty d h =
      let none : set m.shards s [] ≡ m.shards = ap (set m.shards s) (sym empty) ∙ set-get_or m.shards s [] in
      ap (λ (l : List (List Tracked)). all_put (loaded again n) rows (record m { shards = l })) (sym none) ∙ all_after [] rows d h
