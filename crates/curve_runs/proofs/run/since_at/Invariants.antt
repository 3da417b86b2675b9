use Rattle.std.proofs.Common.{◌≡◌, drop}
use Rattle.curve_runs.specs.Runs.{at}
use Rattle.curve_runs.proofs.run.since_at.Given as goal

abbrev pub invariant-loop-run : goal.invariant-loop-run
invariant-loop-run l = at l.size (drop l.run-index l.runs) ≡ at l.size l.runs
