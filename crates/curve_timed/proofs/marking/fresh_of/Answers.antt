use Rattle.std.proofs.Common.{arith, ap, sym, ◌∙◌, subst, map, List}
use Rattle.std.proofs.lemmas.List.{length-map}
use Rattle.curve_sizes.specs.declared.row.CurveRow.{CurveRow}
use Rattle.curve_sizes.specs.Numbers.{mark_of}
use Rattle.curve_timed.specs.declared.row.FreshRow.{FreshRow}
use Rattle.curve_timed.specs.Timed.{timed_of}
use Rattle.curve_timed.specs.Rows.{AreFresh}
use Rattle.curve_timed.specs.Zipped.{zipped}
use Rattle.curve_timed.proofs.FreshRows.{rows-fresh, zipped-limits}
use Rattle.curve_timed.proofs.marking.fresh_of.Goals as goal

pub returns-in_ok-all-in-Some-clause-rows : goal.returns-in_ok-all-in-Some-clause-rows
returns-in_ok-all-in-Some-clause-rows c = λ requests f weight a.
    let curve = c.args.curve.now in
    let fed = rw c.in-Some.is at f in
    let rows = c.as_slice.ensures.value ∙ c.in_ok-rows-in-Some.ensures in
    let finds = c.as_slice-in-Some.ensures.value in
    let bytes = c.as_slice-in-Some-2.ensures.value in
    let f' = c.in_ok-finds-in-Some.ensures in
    let b' = c.in_ok-bytes-in-Some.ensures in
    subst (AreFresh weight (mark_of curve.watermark) (timed_of requests)) (sym (c.in_ok-all-in-Some.ensures ∙ (λ i. zipped (rows i) (finds i) (bytes i))))
    (rows-fresh weight (mark_of curve.watermark) requests curve.table c.in_ok-finds-in-Some.finds.items c.in_ok-bytes-in-Some.bytes.items curve.weights.items c.in-Some.table a fed
    f'.rows f'.sizes b'.rows b'.sizes)

pub returns-in_ok-all-in-Some-clause-limits : goal.returns-in_ok-all-in-Some-clause-limits
returns-in_ok-all-in-Some-clause-limits c = λ _.
    let curve = c.args.curve.now in
    let s = (rw c.in-Some.is at c.requires.1).shape in
    let n = length-map curve.table (λ (r : CurveRow). r.limit) in
    let rows = c.as_slice.ensures.value ∙ c.in_ok-rows-in-Some.ensures in
    let finds = c.as_slice-in-Some.ensures.value in
    let bytes = c.as_slice-in-Some-2.ensures.value in
    let f' = c.in_ok-finds-in-Some.ensures in
    let b' = c.in_ok-bytes-in-Some.ensures in
    ap (λ (l : List FreshRow). map (λ (r : FreshRow). r.limit) l) (c.in_ok-all-in-Some.ensures ∙ (λ i. zipped (rows i) (finds i) (bytes i)))
    ∙ zipped-limits curve.table c.in_ok-finds-in-Some.finds.items c.in_ok-bytes-in-Some.bytes.items (omega (arith, f'.sizes, s.finds_are, n)) (omega (arith, b'.sizes, s.bytes_are, n))
