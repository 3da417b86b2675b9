-- The rows that are left make of the command what all rows make of the first.
use Rattle.std.proofs.Common.{◌≡◌, drop}
use Rattle.clap.specs.Simple.{app_of}
use Rattle.trace_replay.specs.CommandLine.{named_app}
use Rattle.trace_replay.specs.Rows.{with_rows}
use Rattle.trace_replay.proofs.command.with_options.Given as goal

abbrev pub invariant-loop-row : goal.invariant-loop-row
invariant-loop-row l = with_rows (app_of l.command) (drop l.row-index l.rows) ≡ with_rows named_app l.rows
