use Rattle.std.proofs.Common.{◌≡◌, ◌++◌, drop}
use Rattle.rules_fields.specs.Fields.{fields}
use Rattle.rules_ffi_arguments.specs.Rooms.{block}
use Rattle.rules_quick.specs.Requests.{asked_lines}
use Rattle.rules_quick.proofs.told_request.add_asked_lines.Given as goal

abbrev pub invariant-loop-line : goal.invariant-loop-line
invariant-loop-line l = l.text.items ++ block (asked_lines (fields (drop l.line-index l.lines))) ≡ l.fn.text.items ++ block (asked_lines (fields l.lines))
