use Rattle.std.proofs.Common.{◌≡◌, ◌++◌, drop}
use Rattle.rules_fields.specs.Fields.{fields}
use Rattle.rules_response.specs.Confirm.{merged_lines}
use Rattle.rules_response.proofs.confirming.merged_lines.Given as goal

abbrev pub invariant-loop-line : goal.invariant-loop-line
invariant-loop-line l = fields l.lines.items ++ fields (drop l.line-index l.line-items) ≡ merged_lines (fields l.stored) (fields l.fn.sent)
