use Rattle.std.proofs.Common.{◌≡◌, ◌++◌, not, drop}
use Rattle.std.specs.Prelude.{filter}
use Rattle.rules_fields.specs.Texts.{small}
use Rattle.rules_fields.specs.Fields.{fields, has_line}
use Rattle.rules_response.proofs.confirming.unsent.Given as goal

abbrev pub invariant-loop-line : goal.invariant-loop-line
invariant-loop-line l = fields l.lines.items ++ filter (λ f. not (has_line (small f.0) (fields l.sent))) (fields (drop l.line-index l.stored)) ≡ filter (λ f. not (has_line (small f.0) (fields l.sent))) (fields l.stored)
