use Rattle.std.proofs.Common.{arith, ap, sum, length}
use Rattle.curve_sums.proofs.Stack.{totals, raised}
use Rattle.curve_sums.proofs.sums.BlockSums.add.Goals as goal

pub raise-requires-2-clause-fits : goal.raise-requires-2-clause-fits
raise-requires-2-clause-fits c =
    let t = totals c.self.inside.cells.items c.self.inside.blocks.items c.self.inside.seconds.items c.self.inside.thirds.items c.self.inside.fourths.items c.self.inside.total c.self.invariant.0 in
    let s = ap sum c.self.view_is in
    omega (arith, t.one, c.self.invariant.0.all, s, c.requires.fits)

pub raise-requires-3-clause-fits : goal.raise-requires-3-clause-fits
raise-requires-3-clause-fits c =
    let t = totals c.self.inside.cells.items c.self.inside.blocks.items c.self.inside.seconds.items c.self.inside.thirds.items c.self.inside.fourths.items c.self.inside.total c.self.invariant.0 in
    let s = ap sum c.self.view_is in
    omega (arith, t.two, c.self.invariant.0.all, s, c.requires.fits)

pub raise-requires-4-clause-fits : goal.raise-requires-4-clause-fits
raise-requires-4-clause-fits c =
    let t = totals c.self.inside.cells.items c.self.inside.blocks.items c.self.inside.seconds.items c.self.inside.thirds.items c.self.inside.fourths.items c.self.inside.total c.self.invariant.0 in
    let s = ap sum c.self.view_is in
    omega (arith, t.three, c.self.invariant.0.all, s, c.requires.fits)

pub raise-requires-5-clause-fits : goal.raise-requires-5-clause-fits
raise-requires-5-clause-fits c =
    let t = totals c.self.inside.cells.items c.self.inside.blocks.items c.self.inside.seconds.items c.self.inside.thirds.items c.self.inside.fourths.items c.self.inside.total c.self.invariant.0 in
    let s = ap sum c.self.view_is in
    omega (arith, t.four, c.self.invariant.0.all, s, c.requires.fits)

pub invariant_of-self : goal.invariant_of-self
invariant_of-self c =
    let l = ap length c.self.view_is in
    let s = ap sum c.self.view_is in
    let r = raised c.self.inside.cells.items c.self.inside.blocks.items c.self.inside.seconds.items c.self.inside.thirds.items c.self.inside.fourths.items c.self.inside.total c.self.invariant.0 c.args.at c.args.more (omega (arith, l, c.requires.within)) in
    (rw (c.raise.ensures, c.raise-2.ensures, c.raise-3.ensures, c.raise-4.ensures, c.raise-5.ensures) r, omega (arith, c.self.invariant.0.all, s, c.requires.fits))
