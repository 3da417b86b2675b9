use Rattle.std.proofs.Common.{◌≡◌, ◌++◌, ◌+◌, ◌≤◌, drop}
use Rattle.curve_sizes.specs.Rows.{running, all_finds, all_bytes}
use Rattle.curve_sizes.proofs.table.Table.rows.Given as goal

abbrev pub invariant-loop-bucket : goal.invariant-loop-bucket
invariant-loop-bucket l = (l.rows.items ++ running l.finds l.bytes (drop l.bucket-index l.bucket-items) ≡ running 0 0 l.bucket-items)
    × (l.finds + all_finds (drop l.bucket-index l.bucket-items) ≤ all_finds l.bucket-items)
    × (l.bytes + all_bytes (drop l.bucket-index l.bucket-items) ≤ all_bytes l.bucket-items)
