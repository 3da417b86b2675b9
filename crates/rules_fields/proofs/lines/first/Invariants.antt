use Rattle.std.proofs.Common.{◌≡◌, drop}
use Rattle.rules_fields.specs.Fields.{fields, first}
use Rattle.rules_fields.proofs.lines.first.Given as goal

abbrev pub invariant-loop-line : goal.invariant-loop-line
invariant-loop-line l = first l.name (fields (drop l.line-index l.lines)) ≡ first l.name (fields l.lines)
