use Rattle.std.proofs.Common.{arith, ap, length, List}
use Rattle.curve_sizes.specs.declared.row.CurveRow.{CurveRow}
use Rattle.curve_sizes.proofs.TableLaws.{length-running}
use Rattle.curve_sizes.proofs.table.Table.len.Goals as goal

pub returns : goal.returns
returns c =
    let n = length-running 0 0 c.self.inside.buckets.items in
    let v = ap (λ (l : List CurveRow). length l) c.self.view_is in
    omega (arith, n, v, c.len.ensures, c.self.inside.buckets.ok.0)
