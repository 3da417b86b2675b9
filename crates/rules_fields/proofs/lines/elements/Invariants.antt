use Rattle.std.proofs.Common.{◌≡◌, ◌++◌, map, drop}
use Rattle.rules_fields.specs.Fields.{fields, elements}
use Rattle.rules_fields.proofs.lines.elements.Given as goal

abbrev pub invariant-loop-line : goal.invariant-loop-line
invariant-loop-line l = map (λ e. e.now) l.found.items ++ elements l.name (fields (drop l.line-index l.lines)) ≡ elements l.name (fields l.lines)
