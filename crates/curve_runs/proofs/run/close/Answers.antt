use Rattle.curve_runs.proofs.RunLaws.{given-empty}
use Rattle.curve_runs.proofs.run.close.Goals as goal

pub returns-else-run-gt0 : goal.returns-else-run-gt0
returns-else-run-gt0 c = λ i. given-empty i c.args.runs.now.items c.args.run c.if-run-gt0.false
