-- The exit status of a program whose command line gives no options.
use Rattle.std.specs.Prelude.{ℕ}
use Rattle.clap.specs.Values.{kind_of}
use Rattle.clap.specs.declared.error.kind.ErrorKind.{ErrorKind}
use Rattle.clap.specs.declared.error.kind.ErrorKind.TheVariants as kind
use Rattle.trace_replay.specs.declared.options.OptionsError.{OptionsError}
use Rattle.trace_replay.specs.declared.options.OptionsError.TheVariants.{CommandLine, NoLimit, WrongValue, NotUtf8, Memory}

-- a text that was requested is no mistake
abbrev pub command_line_status : ErrorKind → ℕ
command_line_status kind.DisplayHelp = 0
command_line_status kind.DisplayVersion = 0
command_line_status _ = 2

-- 0 of a help text, 1 of out of memory, 2 of a mistake in the command line
abbrev pub status_of : OptionsError → ℕ
status_of (CommandLine error) = command_line_status (kind_of error)
status_of NoLimit = 2
status_of (WrongValue name error) = 2
status_of (NotUtf8 error) = 2
status_of Memory = 1
