use Rattle.std.proofs.Common.{arith}
use Rattle.curve_sizes.proofs.curve.SizeCurve.entries.Goals as goal

pub returns-clause-counted : goal.returns-clause-counted
returns-clause-counted c = λ requests f. omega (arith, c.len.ensures, f.entries, c.args.self.now.weights.ok.0)
