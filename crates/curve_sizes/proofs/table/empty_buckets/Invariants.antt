use Rattle.std.proofs.Common.{◌≡◌, take, map}
use Rattle.curve_sizes.specs.Rows.{empty_row}
use Rattle.curve_sizes.proofs.table.empty_buckets.Given as goal

abbrev pub invariant-loop-limit : goal.invariant-loop-limit
invariant-loop-limit l = l.buckets.items ≡ map empty_row (take l.limit-index l.limits)
