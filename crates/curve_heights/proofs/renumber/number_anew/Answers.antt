use Rattle.std.proofs.Common.{◌+◌, ◌*◌, ◌<◌, ◌∙◌, ℕ, List, ap, ap₂, arith, sym, subst, length, sum}
use Rattle.curve_heights.specs.Slots.{IsKept, owned_in, gaps_in}
use Rattle.curve_heights.proofs.WeightLaws.{places-many}
use Rattle.curve_heights.proofs.SlotLaws.{gaps-sum}
use Rattle.curve_heights.proofs.BuiltLaws.{built-all}
use Rattle.curve_heights.proofs.renumber.number_anew.Goals as goal

pub returns-clause-kept : goal.returns-clause-kept
returns-clause-kept c =
    let b = c.in_ok-built.built in
    let free = c.free_slots-free.result in
    let few : free + 2 * owned_in c.args.owners.now < 4294967295 = omega (arith, c.free_slots-free.ensures.fits, c.in_use-used.ensures) in
    let r = built-all c.args.owners.now c.args.sums.now free c.in_ok-built.ensures.0 (length c.args.slots.now) b.owners.items b.cells.items b.slots.items c.in_ok-built.ensures.1 few c.requires.2.fewer in
    let g = c.in_ok-gaps.ensures ∙ ap₂ gaps_in c.as_slice.ensures.value c.as_slice-2.ensures.value in
    subst (λ (x : List ℕ). IsKept b.owners.items b.cells.items x b.slots.items free) (sym g) r.0

pub returns-clause-places : goal.returns-clause-places
returns-clause-places c =
    let b = c.in_ok-built.built in
    let free = c.free_slots-free.result in
    let few : free + 2 * owned_in c.args.owners.now < 4294967295 = omega (arith, c.free_slots-free.ensures.fits, c.in_use-used.ensures) in
    let r = built-all c.args.owners.now c.args.sums.now free c.in_ok-built.ensures.0 (length c.args.slots.now) b.owners.items b.cells.items b.slots.items c.in_ok-built.ensures.1 few c.requires.2.fewer in
    r.1

pub returns-clause-sums : goal.returns-clause-sums
returns-clause-sums c =
    let b = c.in_ok-built.built in
    let free = c.free_slots-free.result in
    let few : free + 2 * owned_in c.args.owners.now < 4294967295 = omega (arith, c.free_slots-free.ensures.fits, c.in_use-used.ensures) in
    let r = built-all c.args.owners.now c.args.sums.now free c.in_ok-built.ensures.0 (length c.args.slots.now) b.owners.items b.cells.items b.slots.items c.in_ok-built.ensures.1 few c.requires.2.fewer in
    let g = c.in_ok-gaps.ensures ∙ ap₂ gaps_in c.as_slice.ensures.value c.as_slice-2.ensures.value in
    let s = ap (λ (x : List ℕ). sum x) g in
    let m = gaps-sum b.owners.items b.cells.items in
    (omega (arith, r.2, c.total-total.ensures, c.total-total.type_inv), omega (arith, r.2, s, m, c.total-total.ensures, c.total-total.type_inv))

pub returns-then-least-clause-fault : goal.returns-then-least-clause-fault
returns-then-least-clause-fault c =
    let m = places-many 0 c.args.owners.now c.args.sums.now c.requires.2.lengths in
    omega (arith, m, c.in_use-used.ensures, c.if-least.true)
