use Rattle.std.proofs.Common.{◌≡◌, drop}
use Rattle.rules_fields.specs.Texts.{small}
use Rattle.rules_fields.specs.Fields.{fields, has_line}
use Rattle.rules_response.proofs.confirming.has_name.Given as goal

abbrev pub invariant-loop-line : goal.invariant-loop-line
invariant-loop-line l = has_line (small l.name) (fields (drop l.line-index l.lines)) ≡ has_line (small l.name) (fields l.lines)
