use Rattle.std.proofs.Common.{arith}
use Rattle.curve_sizes.proofs.TableLaws.{running-empty, finds-empty, bytes-empty, rising-empty}
use Rattle.curve_sizes.proofs.table.Table.new.Goals as goal

pub invariant_of-result : goal.invariant_of-result
invariant_of-result c =
    let ls = c.args.limits.now in
    let f = finds-empty ls in
    let b = bytes-empty ls in
    rw c.in_ok-empty_buckets.ensures (rising-empty ls c.requires, f, b, omega arith, omega arith)

pub returns : goal.returns
returns c = rw c.in_ok-empty_buckets.ensures (running-empty c.args.limits.now)
