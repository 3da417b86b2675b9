use Rattle.trace_replay.specs.CommandLine.{app}
use Rattle.trace_replay.proofs.command.command.Goals as goal

pub returns : goal.returns
unfolding app
returns c = c.with_options.ensures
