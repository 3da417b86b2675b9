use Rattle.std.proofs.Common.{length, get_or, arith, ap, sym, ℕ, List, nat_lt, ◌∙◌}
use Rattle.std.specs.Prelude.{not}
use Rattle.curve_sizes.specs.declared.row.CurveRow.{CurveRow}
use Rattle.curve_sizes.proofs.TableLaws.{running-limits, length-running, first-limit}
use Rattle.curve_sizes.proofs.table.Table.first.Goals as goal

pub returns-clause-within : goal.returns-clause-within
returns-clause-within c =
    let n = length-running 0 0 c.self.inside.buckets.items in
    let v = ap (λ (l : List CurveRow). length l) c.self.view_is in
    let s = ap (λ (l : List CurveRow). length l) c.as_slice.ensures.value in
    omega (arith, n, v, s, c.bucket_of.ensures.within)

pub returns-clause-first : goal.returns-clause-first
returns-clause-first c =
    let bs = c.self.inside.buckets.items in
    let r = rw c.as_slice.ensures.value at c.bucket_of.ensures in
    rw (← c.self.view_is) (λ k l.
    let n = length-running 0 0 bs in
    first-limit bs c.args.height c.bucket_of.result r.lesser r.others k (omega (arith, l, n)) ∙ ap (λ (ls : List ℕ). not (nat_lt (get_or ls k 0) c.args.height)) (sym (running-limits 0 0 bs)))
