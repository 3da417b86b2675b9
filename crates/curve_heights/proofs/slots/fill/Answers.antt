use Rattle.std.proofs.Common.{◌≡◌, ◌≤◌, ℕ, List, arith, rules, sym, ap, ◌∙◌, sum, subst}
use Rattle.curve_heights.specs.Places.{filled}
use Rattle.curve_heights.specs.Slots.{places_in}
use Rattle.curve_heights.proofs.SlotLaws.{at, filled-none, filled-empty}
use Rattle.curve_heights.proofs.KeptLaws.{hole-within, hole-weighs, kept-filled, places-filled, set-less}
use Rattle.curve_heights.proofs.slots.fill.Goals as goal

pub returns-in_default-clause-places : goal.returns-in_default-clause-places
returns-in_default-clause-places c =
    let i = c.loop-left.invariant in
    sym (filled-empty c.loop-left.left c.args.owners.now c.loop-left.sums (subst (λ (g : List ℕ). sum g ≡ 0) i.kept.gaps_are c.in_default.ensures)) ∙ i.places

pub take-requires-in-loop-left-clause-within : goal.take-requires-in-loop-left-clause-within
take-requires-in-loop-left-clause-within c =
    let k = c.loop-left.invariant.kept in
    let l = hole-within c.args.owners.now c.loop-left.sums c.loop-left.gaps c.args.slots.now c.args.next k c.in-Some.hole c.in-Some.ensures.0 in
    omega (arith, l, k.lengths)

pub take-requires-in-loop-left-clause-enough : goal.take-requires-in-loop-left-clause-enough
take-requires-in-loop-left-clause-enough c =
    let k = c.loop-left.invariant.kept in
    let l = hole-within c.args.owners.now c.loop-left.sums c.loop-left.gaps c.args.slots.now c.args.next k c.in-Some.hole c.in-Some.ensures.0 in
    let w = hole-weighs c.args.owners.now c.loop-left.sums c.loop-left.gaps c.args.slots.now c.args.next k c.in-Some.hole l c.in-Some.ensures.2 in
    omega (arith, w.0, c.get.ensures, c.min-taken.ensures)

pub loop-left-preserved : goal.loop-left-preserved
loop-left-preserved c =
    let i = c.loop-left.invariant in
    let h = c.in-Some.hole in
    let t = c.min-taken.result in
    let l = hole-within c.args.owners.now c.loop-left.sums c.loop-left.gaps c.args.slots.now c.args.next i.kept h c.in-Some.ensures.0 in
    let one : t ≤ at c.loop-left.gaps h = omega (arith, c.get.ensures, c.min-taken.ensures) in
    let two : t ≤ c.loop-left.left = omega (arith, c.get.ensures, c.min-taken.ensures) in
    let kept = kept-filled c.args.owners.now c.loop-left.sums c.loop-left.gaps c.args.slots.now c.args.next i.kept h t l c.in-Some.ensures.2 in
    let places = places-filled c.args.owners.now c.loop-left.sums c.loop-left.gaps c.args.slots.now c.args.next i.kept h t c.loop-left.left l c.in-Some.ensures.1 c.in-Some.ensures.2 one two in
    let w = hole-weighs c.args.owners.now c.loop-left.sums c.loop-left.gaps c.args.slots.now c.args.next i.kept h l c.in-Some.ensures.2 in
    let less = set-less c.loop-left.sums h t (omega (arith, l, i.kept.lengths)) (omega (arith, one, w.0)) in
    record {
      kept = rw (c.take-in-loop-left.ensures, c.take.ensures) kept;
      places = rw c.take-in-loop-left.ensures (places ∙ i.places);
      spent = rw c.take-in-loop-left.ensures (omega (arith, less, i.spent, two));
    }

pub returns-clause-places : goal.returns-clause-places
returns-clause-places c =
    let i = c.loop-left.invariant in
    let z : c.loop-left.left ≡ 0 = search rules in
    sym (filled-none (places_in 0 c.args.owners.now c.loop-left.sums)) ∙ ap (λ (x : ℕ). filled x (places_in 0 c.args.owners.now c.loop-left.sums)) (sym z) ∙ i.places
