use Rattle.std.proofs.Common.{◌≡◌, ◌∙◌, arith, ap, sum, inl, inr}
use Rattle.std.proofs.lemmas.Bool.{cases_lt}
use Rattle.curve_heights.specs.Places.{removed, filled, all_sizes}
use Rattle.curve_heights.specs.Slots.{places_in}
use Rattle.curve_heights.proofs.WeightLaws.{weights-in, weights-le}
use Rattle.curve_heights.proofs.heights.TraceHeights.put_first.Goals as goal

pub enter-requires-clause-within : goal.enter-requires-clause-within
enter-requires-clause-within c = omega (arith, c.leave.ensures.lengths, c.if-entry-len.false, c.len.ensures)

pub enter-requires-clause-nowhere : goal.enter-requires-clause-nowhere
enter-requires-clause-nowhere c = c.leave.ensures.gone (omega (arith, c.leave.ensures.lengths, c.if-entry-len.false, c.len.ensures))

-- what is left is the holes' alone, or the entries' alone
pub enter-requires-clause-fits : goal.enter-requires-clause-fits
enter-requires-clause-fits c =
    let k = rw (c.as_slice.ensures.value, c.as_slice-2.ensures.value) at c.fill.ensures.kept in
    let f = rw c.as_slice.ensures.value at c.fill.ensures.places in
    let p : places_in 0 c.leave.new.owners.items c.fill.new.sums ≡ filled c.args.weight (removed c.args.entry c.args.self.now)
    = f ∙ ap (filled c.args.weight) (c.leave.ensures.places ∙ ap (removed c.args.entry) c.self.view_is) in
    elim (cases_lt 0 (sum c.fill.new.gaps)) [
      | inl l ↦ omega (arith, c.fill.ensures.spent l, c.total-total.ensures, c.total-total.type_inv)
      | inr l ↦
          let a = weights-in 0 c.leave.new.owners.items c.fill.new.sums k.lengths in
          let g = ap sum k.gaps_are in
          let b = weights-le (places_in 0 c.leave.new.owners.items c.fill.new.sums) in
          let s = ap all_sizes p in
          omega (arith, l, a, g, b, s, c.requires)
    ]

pub invariant_of-self : goal.invariant_of-self
invariant_of-self c = c.enter.ensures.kept c.fill.new.gaps (rw (c.as_slice.ensures.value, c.as_slice-2.ensures.value) at c.fill.ensures.kept)
