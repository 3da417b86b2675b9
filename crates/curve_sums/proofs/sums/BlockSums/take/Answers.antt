use Rattle.std.proofs.Common.{ℕ, List, arith, ap, length}
use Rattle.curve_sums.proofs.Fronts.{at}
use Rattle.curve_sums.proofs.Stack.{enough, lowered}
use Rattle.curve_sums.proofs.sums.BlockSums.take.Goals as goal

pub lower-requires-2-clause-enough : goal.lower-requires-2-clause-enough
lower-requires-2-clause-enough c =
    let v = ap (λ (xs : List ℕ). at xs c.args.at) c.self.view_is in
    let e = enough c.self.inside.cells.items c.self.inside.blocks.items c.self.inside.seconds.items c.self.inside.thirds.items c.self.inside.fourths.items c.self.inside.total c.self.invariant.0 c.args.at c.args.less (omega (arith, v, c.requires.enough)) in
    e.one

pub lower-requires-3-clause-enough : goal.lower-requires-3-clause-enough
lower-requires-3-clause-enough c =
    let v = ap (λ (xs : List ℕ). at xs c.args.at) c.self.view_is in
    let e = enough c.self.inside.cells.items c.self.inside.blocks.items c.self.inside.seconds.items c.self.inside.thirds.items c.self.inside.fourths.items c.self.inside.total c.self.invariant.0 c.args.at c.args.less (omega (arith, v, c.requires.enough)) in
    e.two

pub lower-requires-4-clause-enough : goal.lower-requires-4-clause-enough
lower-requires-4-clause-enough c =
    let v = ap (λ (xs : List ℕ). at xs c.args.at) c.self.view_is in
    let e = enough c.self.inside.cells.items c.self.inside.blocks.items c.self.inside.seconds.items c.self.inside.thirds.items c.self.inside.fourths.items c.self.inside.total c.self.invariant.0 c.args.at c.args.less (omega (arith, v, c.requires.enough)) in
    e.three

pub lower-requires-5-clause-enough : goal.lower-requires-5-clause-enough
lower-requires-5-clause-enough c =
    let v = ap (λ (xs : List ℕ). at xs c.args.at) c.self.view_is in
    let e = enough c.self.inside.cells.items c.self.inside.blocks.items c.self.inside.seconds.items c.self.inside.thirds.items c.self.inside.fourths.items c.self.inside.total c.self.invariant.0 c.args.at c.args.less (omega (arith, v, c.requires.enough)) in
    e.four

pub invariant_of-self : goal.invariant_of-self
invariant_of-self c =
    let l = ap length c.self.view_is in
    let v = ap (λ (xs : List ℕ). at xs c.args.at) c.self.view_is in
    let r = lowered c.self.inside.cells.items c.self.inside.blocks.items c.self.inside.seconds.items c.self.inside.thirds.items c.self.inside.fourths.items c.self.inside.total c.self.invariant.0 c.args.at c.args.less (omega (arith, l, c.requires.within)) (omega (arith, v, c.requires.enough)) in
    (rw (c.lower.ensures, c.lower-2.ensures, c.lower-3.ensures, c.lower-4.ensures, c.lower-5.ensures) r, omega (arith, c.self.invariant.1))
