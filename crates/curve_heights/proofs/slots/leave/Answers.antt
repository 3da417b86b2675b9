use Rattle.std.proofs.Common.{arith, sym, ◌∙◌}
use Rattle.curve_heights.proofs.KeptLaws.{kept-left, removed-there, removed-gone, stands, gaps-within, gap-room, not-owner}
use Rattle.curve_heights.proofs.slots.leave.Goals as goal

pub returns-in_default-clause-places : goal.returns-in_default-clause-places
returns-in_default-clause-places c =
    removed-gone c.args.owners.now.items c.args.sums.now c.args.gaps.now c.args.slots.now.items c.args.next c.requires c.args.entry (rw c.as_slice.ensures.value at (c.slot_of.ensures.none c.in_default.is))

pub add-requires-clause-within : goal.add-requires-clause-within
add-requires-clause-within c =
    let s = rw c.as_slice.ensures.value at c.in-Some.ensures.some in
    let p = stands c.args.owners.now.items c.args.sums.now c.args.gaps.now c.args.slots.now.items c.args.next c.requires c.args.entry c.in-Some.slot s.0 s.1 s.2 in
    gaps-within c.args.owners.now.items c.args.sums.now c.args.gaps.now c.args.slots.now.items c.args.next c.requires c.in-Some.slot p.0

pub add-requires-clause-fits : goal.add-requires-clause-fits
add-requires-clause-fits c =
    let s = rw c.as_slice.ensures.value at c.in-Some.ensures.some in
    let k = c.requires in
    let p = stands c.args.owners.now.items c.args.sums.now c.args.gaps.now c.args.slots.now.items c.args.next k c.args.entry c.in-Some.slot s.0 s.1 s.2 in
    let n = not-owner c.args.owners.now.items c.args.sums.now c.args.gaps.now c.args.slots.now.items c.args.next k c.args.entry s.0 in
    let r = gap-room c.args.owners.now.items c.args.sums.now c.args.gaps.now c.args.slots.now.items c.args.next k c.in-Some.slot p.0 (λ x. n (sym p.1 ∙ x)) in
    omega (arith, r.1, c.get-weight.ensures, c.total-total.ensures, c.total-total.type_inv)

pub returns-clause-kept : goal.returns-clause-kept
returns-clause-kept c =
    let s = rw c.as_slice.ensures.value at c.in-Some.ensures.some in
    let p = stands c.args.owners.now.items c.args.sums.now c.args.gaps.now c.args.slots.now.items c.args.next c.requires c.args.entry c.in-Some.slot s.0 s.1 s.2 in
    rw (c.add.ensures, c.get-weight.ensures) (kept-left c.args.owners.now.items c.args.sums.now c.args.gaps.now c.args.slots.now.items c.args.next c.requires c.args.entry c.in-Some.slot s.0 p.0 p.1)

pub returns-clause-places : goal.returns-clause-places
returns-clause-places c =
    let s = rw c.as_slice.ensures.value at c.in-Some.ensures.some in
    let p = stands c.args.owners.now.items c.args.sums.now c.args.gaps.now c.args.slots.now.items c.args.next c.requires c.args.entry c.in-Some.slot s.0 s.1 s.2 in
    removed-there c.args.owners.now.items c.args.sums.now c.args.gaps.now c.args.slots.now.items c.args.next c.requires c.args.entry c.in-Some.slot s.0 p.0 p.1
