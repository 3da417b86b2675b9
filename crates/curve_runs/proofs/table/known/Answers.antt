use Rattle.std.proofs.Common.{ap, ◌∙◌}
use Rattle.curve_runs.specs.Runs.{runs_of}
use Rattle.curve_runs.proofs.EntryRuns.{runs-push}
use Rattle.curve_runs.proofs.table.known.Goals as goal

pub returns-in_ok-push-clause-same : goal.returns-in_ok-push-clause-same
returns-in_ok-push-clause-same c = λ e. ap (runs_of e) c.in_ok-push.ensures.items ∙ runs-push c.args.runs.now.items c.new.result c.new.ensures.items e
