use Rattle.std.proofs.Common.{◌-◌, arith}
use Rattle.std.proofs.lemmas.Bool.{ltb-true, ltb-false}
use Rattle.curve_heights.specs.Places.{removed}
use Rattle.curve_heights.proofs.WeightLaws.{heavy-when, fits-when}
use Rattle.curve_heights.proofs.heights.TraceHeights.is_too_heavy.Goals as goal

pub returns-clause-yes : goal.returns-clause-yes
returns-clause-yes c = λ t.
    let l = ltb-true (18446744073709551615 - c.others-others.result) c.args.weight t in
    let w = rw (c.as_slice.ensures.value, c.self.view_is) at c.others-others.ensures.weights in
    heavy-when c.others-others.result c.args.weight (removed c.args.entry c.args.self.now) w (omega (arith, l))

pub returns-clause-no : goal.returns-clause-no
returns-clause-no c = λ t.
    let l = ltb-false (18446744073709551615 - c.others-others.result) c.args.weight t in
    let w = rw (c.as_slice.ensures.value, c.self.view_is) at c.others-others.ensures.weights in
    let s = rw (c.as_slice.ensures.value, c.self.view_is) at c.others-others.ensures.sizes in
    fits-when c.others-others.result c.args.weight (removed c.args.entry c.args.self.now) w s (omega (arith, l, c.others-others.type_inv))
