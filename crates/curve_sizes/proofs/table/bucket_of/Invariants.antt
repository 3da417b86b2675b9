use Rattle.std.proofs.Common.{ℕ, ◌-◌, ◌≤◌, ◌<◌, length, slice_index_or}
use Rattle.curve_sizes.specs.declared.row.CurveRow.{CurveRow}
use Rattle.curve_sizes.proofs.table.bucket_of.Given as goal

abbrev pub invariant-loop-low : goal.invariant-loop-low
invariant-loop-low l = (l.low ≤ l.high) × (l.high ≤ length l.buckets)
    × ((k : ℕ) (d : CurveRow) → k < l.low → (slice_index_or l.buckets k d).limit < l.height)
    × ((k : ℕ) (d : CurveRow) → l.high ≤ k → k < length l.buckets → l.height ≤ (slice_index_or l.buckets k d).limit)

abbrev pub decreases-loop-low : goal.decreases-loop-low
decreases-loop-low l = l.high - l.low
