use Rattle.std.proofs.Common.{sym}
use Rattle.rules_ffi_arguments.proofs.Ends.{no_end}
use Rattle.rules_ffi_arguments.proofs.words.is_end.Goals as goal

pub returns-in-Some : goal.returns-in-Some
returns-in-Some c = rw c.in-Some.is (sym (no_end c.args.row.now c.in-Some.field-0.now))
