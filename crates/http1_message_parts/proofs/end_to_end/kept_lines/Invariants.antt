use Rattle.std.proofs.Common.{◌≡◌, ◌++◌, drop, map}
use Rattle.rules_fields.specs.Texts.{small}
use Rattle.rules_fields.specs.Fields.{fields}
use Rattle.http1_message_parts.specs.EndToEnd.{kept_lines}
use Rattle.http1_message_parts.proofs.end_to_end.kept_lines.Given as goal

abbrev pub invariant-loop-line : goal.invariant-loop-line
invariant-loop-line l = fields l.kept.items ++ kept_lines (map small (map (λ n. n.now) l.connection)) (fields (drop l.line-index l.lines)) ≡ kept_lines (map small (map (λ n. n.now) l.connection)) (fields l.lines)
