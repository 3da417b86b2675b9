use Rattle.std.proofs.Common.{◌+◌, ◌-◌, ◌/◌, ◌≤◌, ◌<◌, length, arith, ap}
use Rattle.curve_sizes.specs.declared.row.CurveRow.{CurveRow}
use Rattle.std.proofs.lemmas.List.{get_or_default}
use Rattle.curve_sizes.proofs.table.bucket_of.Goals as goal

pub loop-low-preserved-then-buckets-middle : goal.loop-low-preserved-then-buckets-middle
loop-low-preserved-then-buckets-middle c =
    let bs = c.args.buckets.now in
    let m = c.loop-low.low + (c.loop-low.high - c.loop-low.low) / 2 in
    let i = c.loop-low.invariant in
    let t = c.loop-low-test.true in
    let none : CurveRow = record { limit = 0; finds = 0; bytes = 0 } in
    let within : m < length bs = omega (arith, i.0, i.1, t) in (
      omega (arith, t),
      i.1,
      λ k d l. let le : k ≤ m = omega (arith, l) in
          let r = c.requires k m d le within in
          let e = ap (λ (x : CurveRow). x.limit) (get_or_default bs m d none within) in
          omega (arith, r, e, c.if-buckets-middle.true),
      i.3,
    )

pub loop-low-preserved : goal.loop-low-preserved
loop-low-preserved c =
    let bs = c.args.buckets.now in
    let m = c.loop-low.low + (c.loop-low.high - c.loop-low.low) / 2 in
    let i = c.loop-low.invariant in
    let t = c.loop-low-test.true in
    let none : CurveRow = record { limit = 0; finds = 0; bytes = 0 } in
    let within : m < length bs = omega (arith, i.0, i.1, t) in (
      omega arith,
      omega (arith, i.1, t),
      i.2,
      λ k d l h.
          let r = c.requires m k d l h in
          let e = ap (λ (x : CurveRow). x.limit) (get_or_default bs m d none within) in
          omega (arith, r, e, c.if-buckets-middle.false),
    )
