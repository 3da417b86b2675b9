use Rattle.std.proofs.Common.{◌≡◌, ◌++◌, map, drop}
use Rattle.rules_fields.specs.Fields.{fields, all}
use Rattle.rules_fields.proofs.lines.all.Given as goal

abbrev pub invariant-loop-line : goal.invariant-loop-line
invariant-loop-line l = map (λ v. v.now) l.values.items ++ all l.name (fields (drop l.line-index l.lines)) ≡ all l.name (fields l.lines)
