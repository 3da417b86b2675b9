use Rattle.std.proofs.Common.{◌∙◌, arith, ap, sym, sum}
use Rattle.curve_heights.specs.Places.{all_weights}
use Rattle.curve_heights.specs.Slots.{places_in}
use Rattle.curve_heights.proofs.SlotLaws.{gaps-sum}
use Rattle.curve_heights.proofs.KeptLaws.{removed-there, removed-gone, stands, gap-room, not-owner}
use Rattle.curve_heights.proofs.WeightLaws.{weights-in, weights-left, sizes-in, sizes-removed}
use Rattle.curve_heights.proofs.slots.others.Goals as goal

pub overflow_sub-all : goal.overflow_sub-all
overflow_sub-all c =
    let g = ap sum c.requires.gaps_are in
    let l = gaps-sum c.args.owners.now c.args.sums.now in
    omega (arith, g, l, c.total.ensures, c.total-2.ensures)

pub overflow_sub-result : goal.overflow_sub-result
overflow_sub-result c =
    let s = c.in-Some.ensures.some in
    let k = c.requires in
    let p = stands c.args.owners.now c.args.sums.now c.args.gaps.now c.args.slots.now c.args.next c.requires c.args.entry c.in-Some.slot s.0 s.1 s.2 in
    let o = not-owner c.args.owners.now c.args.sums.now c.args.gaps.now c.args.slots.now c.args.next c.requires c.args.entry s.0 in
    let r = gap-room c.args.owners.now c.args.sums.now c.args.gaps.now c.args.slots.now c.args.next c.requires c.in-Some.slot p.0 (λ x. o (sym p.1 ∙ x)) in
    omega (arith, r.1, c.get.ensures, c.total.ensures, c.total-2.ensures)

pub returns-in-None-clause-weights : goal.returns-in-None-clause-weights
returns-in-None-clause-weights c =
    let r = ap all_weights (removed-gone c.args.owners.now c.args.sums.now c.args.gaps.now c.args.slots.now c.args.next c.requires c.args.entry (c.slot_of.ensures.none c.in-None.is)) in
    let w = weights-in 0 c.args.owners.now c.args.sums.now c.requires.lengths in
    let g = ap sum c.requires.gaps_are in
    omega (arith, r, w, g, c.total.ensures, c.total-2.ensures)

pub returns-in-None-clause-sizes : goal.returns-in-None-clause-sizes
returns-in-None-clause-sizes c =
    let a = sizes-removed c.args.entry 0 (places_in 0 c.args.owners.now c.args.sums.now) in
    let b = sizes-in 0 c.args.owners.now c.args.sums.now in
    omega (arith, a, b, c.total.ensures, c.total.type_inv)

pub returns-in-Some-clause-weights : goal.returns-in-Some-clause-weights
returns-in-Some-clause-weights c =
    let s = c.in-Some.ensures.some in
    let k = c.requires in
    let p = stands c.args.owners.now c.args.sums.now c.args.gaps.now c.args.slots.now c.args.next c.requires c.args.entry c.in-Some.slot s.0 s.1 s.2 in
    let o = not-owner c.args.owners.now c.args.sums.now c.args.gaps.now c.args.slots.now c.args.next c.requires c.args.entry s.0 in
    let r = ap all_weights (removed-there c.args.owners.now c.args.sums.now c.args.gaps.now c.args.slots.now c.args.next c.requires c.args.entry c.in-Some.slot s.0 p.0 p.1) in
    let w = weights-left c.args.owners.now c.args.sums.now c.in-Some.slot k.lengths p.0 (λ x. o (sym p.1 ∙ x)) in
    let g = ap sum k.gaps_are in
    omega (arith, r, w, g, c.get.ensures, c.total.ensures, c.total-2.ensures)

pub returns-in-Some-clause-sizes : goal.returns-in-Some-clause-sizes
returns-in-Some-clause-sizes c =
    let a = sizes-removed c.args.entry 0 (places_in 0 c.args.owners.now c.args.sums.now) in
    let b = sizes-in 0 c.args.owners.now c.args.sums.now in
    omega (arith, a, b, c.total.ensures, c.total.type_inv)
