use Rattle.std.proofs.Common.{◌≡◌, drop}
use Rattle.std.specs.Prelude.{bytes_eq}
use Rattle.std.specs.List.{list_any}
use Rattle.rules_fields.specs.Fields.{fields, tokens}
use Rattle.rules_fields.proofs.lines.lists.Given as goal

abbrev pub invariant-loop-line : goal.invariant-loop-line
invariant-loop-line l = list_any (λ t. bytes_eq t l.wanted) (tokens l.name (fields (drop l.line-index l.lines))) ≡ list_any (λ t. bytes_eq t l.wanted) (tokens l.name (fields l.lines))
