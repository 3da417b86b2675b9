-- Folds over the numbers of entries.
use Rattle.std.specs.Prelude.{◌≡◌, ℕ, suc, zero, ◌+◌, ◌<◌, Bool, if◌then◌else◌, List, length, slice_index, slice_index_or, Option, Some, None}
use Rattle.std.specs.List.{slice_get}
use Rattle.cache_entries.specs.declared.entry.CacheEntryKey.{CacheEntryKey}
use Rattle.cache_entries.specs.declared.rows.Tracked.{Tracked}
use Rattle.curve_loads.specs.Steps.{has_row, held}
use Rattle.curve_runs.specs.declared.spans.Spans.{Spans}
use Rattle.curve_runs.specs.Counts.{counted}
use Rattle.curve_sizes.specs.Requests.{Request, steps_of}
use Rattle.curve_sizes.specs.Rows.{limits_of}
use Rattle.curve_sizes.specs.Numbers.{numbered, mark_of, Agrees, IsFed}
use Rattle.curve_sizes.specs.declared.curve.SizeCurve.{SizeCurve}
use Rattle.curve_held.specs.Held.{sooner}
use Rattle.curve_held.specs.State.{running}
use Rattle.curve_held.specs.declared.row.Full.{Full}
use Rattle.curve_held.specs.declared.row.HeldRow.{HeldRow}

-- what the numbers below one give together that pass a test
abbrev pub below : {M : Type 0} → (M → M → M) → M → (ℕ → M) → (ℕ → Bool) → ℕ → M
below op unit value test zero = unit
below op unit value test (suc n) = op (if test n then value n else unit) (below op unit value test n)

-- how many of the first entries have a row
abbrev pub count_below : ℕ → List Tracked → ℕ
count_below n rows = below (λ x y. x + y) 0 (λ i. 1) (λ i. has_row (numbered i) rows) n

-- the least moment of those
abbrev pub oldest_below : List ℕ → ℕ → List Tracked → Option ℕ
oldest_below latest n rows = below sooner None (λ i. Some (slice_index latest i)) (λ i. has_row (numbered i) rows) n

-- the first entries were counted under each limit
pub record IsWalked (c : SizeCurve) (latest : List ℕ) (n : ℕ) (counts : Spans) (oldest : List (Option ℕ)) : Type 0 where
  pub sizes : length counts.begun.items ≡ length c.table
  pub places : length oldest ≡ length c.table
  pub counts_are : (requests : List Request) → IsFed c requests → (weight : CacheEntryKey → ℕ) → Agrees weight c.weights.items → (k : ℕ) → k < length c.table
      → counted k counts ≡ count_below n (held weight (slice_index (limits_of c.table) k) (mark_of c.watermark) (steps_of requests))
  pub oldest_are : (requests : List Request) → IsFed c requests → (weight : CacheEntryKey → ℕ) → Agrees weight c.weights.items → (k : ℕ) → k < length c.table
      → slice_index_or (running None oldest) k None ≡ oldest_below latest n (held weight (slice_index (limits_of c.table) k) (mark_of c.watermark) (steps_of requests))

-- the row at a place
abbrev pub row_at : List ℕ → List (Option ℕ) → List Full → ℕ → HeldRow
row_at counts oldest full k = record { entries = slice_index counts k; oldest = slice_index_or oldest k None; full = slice_get full k }
