use Rattle.curve_sizes.proofs.EntryLaws.{fed-asks, fed-removed}
use Rattle.curve_sizes.proofs.curve.SizeCurve.totals.Goals as goal

pub returns-clause-asks : goal.returns-clause-asks
returns-clause-asks c = λ requests f. fed-asks c.args.self.now requests f

pub returns-clause-removed : goal.returns-clause-removed
returns-clause-removed c = λ requests f. fed-removed c.args.self.now requests f
