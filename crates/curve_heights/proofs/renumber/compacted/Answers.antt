use Rattle.std.proofs.Common.{refl, ◌≡◌, ◌+◌, ◌<◌, arith, length, inl, inr}
use Rattle.curve_heights.specs.Slots.{nobody}
use Rattle.curve_heights.proofs.SlotLaws.{at}
use Rattle.curve_heights.proofs.WeightLaws.{owned-more, owned-le}
use Rattle.curve_heights.proofs.KeptLaws.{decide, one-slot}
use Rattle.curve_heights.proofs.BuiltLaws.{built-begin, built-hole, built-entry, next-sum}
use Rattle.curve_heights.proofs.renumber.compacted.Goals as goal

pub loop-at-init : goal.loop-at-init
loop-at-init c =
    let e = c.in_ok-built.ensures in
    rw (e.0, e.1, e.2) (built-begin c.args.owners.now c.args.sums.now c.args.free c.args.entries)

pub step-requires-clause-few : goal.step-requires-clause-few
step-requires-clause-few c = λ n.
    let a = owned-more c.args.owners.now c.loop-at.at c.loop-at-test.true n in
    let b = owned-le c.args.owners.now (c.loop-at.at + 1) in
    omega (arith, a, b, c.loop-at.invariant.most, c.requires.few)

pub step-requires-clause-within : goal.step-requires-clause-within
step-requires-clause-within c = λ n.
    let k = c.requires.kept in
    let o = k.3.owned c.loop-at.at c.loop-at-test.true n in
    omega (arith, o.0, k.4, c.loop-at.invariant.entries_are)

pub step-requires-clause-fits : goal.step-requires-clause-fits
step-requires-clause-fits c =
    let k = c.requires.kept in
    let s = next-sum c.args.owners.now c.args.sums.now c.args.free c.loop-at.at c.loop-at.hole c.args.entries c.loop-at.built.owners.items c.loop-at.built.cells.items c.loop-at.built.slots.items c.loop-at.invariant k.3.lengths c.loop-at-test.true in
    omega (arith, c.loop-at.invariant.sums, s, c.get-weight.ensures, c.total-total.ensures, c.total-total.type_inv)

pub loop-at-preserved : goal.loop-at-preserved
loop-at-preserved c =
    let k = c.requires.kept in
    let os = c.args.owners.now in
    let q = c.loop-at.at in
    let b = c.loop-at.built in
    let inv = c.loop-at.invariant in
    let lq = c.loop-at-test.true in
    elim (decide (at os q) nobody) [
      | inl o ↦ rw (c.in_ok-after.ensures.same o, c.in_ok-after.ensures.hole o, c.get-weight.ensures)
          (built-hole os c.args.sums.now c.args.free q c.loop-at.hole c.args.entries b.owners.items b.cells.items b.slots.items inv k.3.lengths lq o)
      | inr o ↦
          let own = k.3.owned q lq o in
          let within : at os q < length b.slots.items = omega (arith, own.0, k.4, inv.entries_are) in
          rw (c.in_ok-after.ensures.owners o, c.in_ok-after.ensures.cells o, c.in_ok-after.ensures.slots o, c.in_ok-after.ensures.none o, c.get-weight.ensures)
          (built-entry os c.args.sums.now c.args.free q c.loop-at.hole c.args.entries b.owners.items b.cells.items b.slots.items inv k.3.lengths lq o within
          (λ p l e. one-slot os c.args.sums.now k.0 k.1 k.2 k.3 (at os q) q own.0 lq (let r : at os q ≡ at os q = refl in r) p l e))
    ]
