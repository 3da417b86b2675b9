use Rattle.std.proofs.Common.{◌≡◌, ◌++◌, drop}
use Rattle.http1_message_parts.specs.Views.{made_fields}
use Rattle.rules_ffi_arguments.specs.Rooms.{block}
use Rattle.rules_ffi_results.proofs.heads.add_made.Given as goal

abbrev pub invariant-loop-line : goal.invariant-loop-line
invariant-loop-line l = l.text.items ++ block (made_fields (drop l.line-index l.lines)) ≡ l.fn.text.items ++ block (made_fields l.lines)
