use Rattle.std.proofs.Common.{◌≡◌, ◌++◌, map, drop}
use Rattle.rules_fields.specs.Fields.{fields, without}
use Rattle.rules_response.specs.Sent.{sent_fields}
use Rattle.rules_response.proofs.lines.add_without.Given as goal

abbrev pub invariant-loop-line : goal.invariant-loop-line
invariant-loop-line l = sent_fields l.sent.items ++ without (map (λ n. n.now) l.names) (fields (drop l.line-index l.lines)) ≡ sent_fields l.fn.sent.items ++ without (map (λ n. n.now) l.names) (fields l.lines)
