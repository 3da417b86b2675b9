use Rattle.std.proofs.Common.{◌≡◌, ◌++◌, map, drop}
use Rattle.rules_fields.specs.Fields.{fields, without}
use Rattle.rules_fields.proofs.lines.without.Given as goal

abbrev pub invariant-loop-line : goal.invariant-loop-line
invariant-loop-line l = fields l.kept.items ++ without (map (λ n. n.now) l.names) (fields (drop l.line-index l.lines)) ≡ without (map (λ n. n.now) l.names) (fields l.lines)
