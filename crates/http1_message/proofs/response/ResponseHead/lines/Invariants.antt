use Rattle.std.proofs.Common.{◌≡◌, take}
use Rattle.rules_fields.specs.Fields.{fields}
use Rattle.http1_message.proofs.response.ResponseHead.lines.Given as goal

abbrev pub invariant-loop-line : goal.invariant-loop-line
invariant-loop-line l = fields l.lines.items ≡ fields (take l.line-index l.self.lines.items)
