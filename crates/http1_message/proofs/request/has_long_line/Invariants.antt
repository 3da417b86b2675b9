use Rattle.std.proofs.Common.{◌≡◌, drop}
use Rattle.rules_fields.specs.Fields.{fields}
use Rattle.rules_fields.specs.Types.{chosen}
use Rattle.http1_message.specs.Request.{has_long_line}
use Rattle.http1_message.proofs.request.has_long_line.Given as goal

abbrev pub invariant-loop-line : goal.invariant-loop-line
invariant-loop-line l = has_long_line (fields (drop l.line-index l.lines)) (chosen l.options) ≡ has_long_line (fields l.lines) (chosen l.options)
