use Rattle.curve_runs.proofs.RunLaws.{IsRenewed}
use Rattle.curve_runs.proofs.run.renew.Given as goal

abbrev pub invariant-loop-run : goal.invariant-loop-run
invariant-loop-run l = IsRenewed l.load l.old l.new.items l.run-index l.last
