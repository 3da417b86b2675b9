use Rattle.std.proofs.Common.{◌≡◌, ◌++◌, drop}
use Rattle.rules_response.specs.Sent.{sent_fields}
use Rattle.rules_ffi_arguments.specs.Rooms.{block}
use Rattle.rules_ffi_results.proofs.heads.add_sent.Given as goal

abbrev pub invariant-loop-line : goal.invariant-loop-line
invariant-loop-line l = l.text.items ++ block (sent_fields (drop l.line-index l.lines)) ≡ l.fn.text.items ++ block (sent_fields l.lines)
