use Rattle.std.proofs.Common.{arith}
use Rattle.curve_sums.proofs.Blocks.{same-sum}
use Rattle.curve_sums.proofs.Fronts.{front-all}
use Rattle.curve_sums.proofs.sums.BlockSums.of.Goals as goal

pub blocks_of-requires-2 : goal.blocks_of-requires-2
blocks_of-requires-2 c =
    let a0 = rw c.as_slice.ensures.value at c.in_ok-blocks.ensures in
    let s0 = same-sum c.args.cells.items c.in_ok-blocks.blocks.items a0 in
    rw c.as_slice-2.ensures.value (omega (arith, s0, c.requires))

pub blocks_of-requires-3 : goal.blocks_of-requires-3
blocks_of-requires-3 c =
    let a0 = rw c.as_slice.ensures.value at c.in_ok-blocks.ensures in
    let s0 = same-sum c.args.cells.items c.in_ok-blocks.blocks.items a0 in
    let a1 = rw c.as_slice-2.ensures.value at c.in_ok-seconds.ensures in
    let s1 = same-sum c.in_ok-blocks.blocks.items c.in_ok-seconds.seconds.items a1 in
    rw c.as_slice-3.ensures.value (omega (arith, s0, s1, c.requires))

pub blocks_of-requires-4 : goal.blocks_of-requires-4
blocks_of-requires-4 c =
    let a0 = rw c.as_slice.ensures.value at c.in_ok-blocks.ensures in
    let s0 = same-sum c.args.cells.items c.in_ok-blocks.blocks.items a0 in
    let a1 = rw c.as_slice-2.ensures.value at c.in_ok-seconds.ensures in
    let s1 = same-sum c.in_ok-blocks.blocks.items c.in_ok-seconds.seconds.items a1 in
    let a2 = rw c.as_slice-3.ensures.value at c.in_ok-thirds.ensures in
    let s2 = same-sum c.in_ok-seconds.seconds.items c.in_ok-thirds.thirds.items a2 in
    rw c.as_slice-4.ensures.value (omega (arith, s0, s1, s2, c.requires))

pub between-total-requires-clause-fits : goal.between-total-requires-clause-fits
between-total-requires-clause-fits c =
    let a0 = rw c.as_slice.ensures.value at c.in_ok-blocks.ensures in
    let s0 = same-sum c.args.cells.items c.in_ok-blocks.blocks.items a0 in
    let a1 = rw c.as_slice-2.ensures.value at c.in_ok-seconds.ensures in
    let s1 = same-sum c.in_ok-blocks.blocks.items c.in_ok-seconds.seconds.items a1 in
    let a2 = rw c.as_slice-3.ensures.value at c.in_ok-thirds.ensures in
    let s2 = same-sum c.in_ok-seconds.seconds.items c.in_ok-thirds.thirds.items a2 in
    let a3 = rw c.as_slice-4.ensures.value at c.in_ok-fourths.ensures in
    let s3 = same-sum c.in_ok-thirds.thirds.items c.in_ok-fourths.fourths.items a3 in
    rw c.as_slice-5.ensures.value (omega (arith, s0, s1, s2, s3, c.requires))

pub invariant_of-result : goal.invariant_of-result
invariant_of-result c =
    let a0 = rw c.as_slice.ensures.value at c.in_ok-blocks.ensures in
    let s0 = same-sum c.args.cells.items c.in_ok-blocks.blocks.items a0 in
    let a1 = rw c.as_slice-2.ensures.value at c.in_ok-seconds.ensures in
    let s1 = same-sum c.in_ok-blocks.blocks.items c.in_ok-seconds.seconds.items a1 in
    let a2 = rw c.as_slice-3.ensures.value at c.in_ok-thirds.ensures in
    let s2 = same-sum c.in_ok-seconds.seconds.items c.in_ok-thirds.thirds.items a2 in
    let a3 = rw c.as_slice-4.ensures.value at c.in_ok-fourths.ensures in
    let s3 = same-sum c.in_ok-thirds.thirds.items c.in_ok-fourths.fourths.items a3 in
    let b = rw c.as_slice-5.ensures.value at c.between-total.ensures in
    let f = front-all c.in_ok-fourths.fourths.items c.len.result (omega (arith, c.len.ensures, c.in_ok-fourths.fourths.ok.0)) in
    (record { first = a0; second = a1; third = a2; fourth = a3; all = omega (arith, s0, s1, s2, s3, b, f) }, omega (arith, s0, s1, s2, s3, b, f, c.requires))
