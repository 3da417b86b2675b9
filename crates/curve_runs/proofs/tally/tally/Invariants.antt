use Rattle.curve_runs.proofs.TallyLaws.{IsTallied}
use Rattle.curve_runs.proofs.tally.tally.Given as goal

abbrev pub invariant-loop-run : goal.invariant-loop-run
invariant-loop-run l = IsTallied l.load l.runs l.value l.run-index l.begin l.fn.counts l.counts
