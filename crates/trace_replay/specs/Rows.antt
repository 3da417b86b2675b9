-- What rows of options add to a command.
use Rattle.std.specs.Prelude.{List, [], ◌∷◌}
use Rattle.clap.specs.Simple.{App, with_rule}
use Rattle.trace_replay.specs.CommandLine.{option_rule}
use Rattle.trace_replay.specs.declared.command.Described.{Described}

-- the command with an option for each row, in their order
abbrev pub with_rows : App → List Described → App
with_rows app [] = app
with_rows app (row ∷ rows) = with_rows (with_rule app (option_rule row.name.now row.required)) rows
