use Rattle.std.proofs.Common.{◌≡◌, ◌++◌, map, drop}
use Rattle.std.specs.Prelude.{filter}
use Rattle.rules_fields.specs.Texts.{small}
use Rattle.rules_fields.specs.Tables.{among}
use Rattle.rules_fields.specs.Fields.{fields}
use Rattle.rules_response.specs.Sent.{sent_fields}
use Rattle.rules_response.proofs.lines.add_among.Given as goal

abbrev pub invariant-loop-line : goal.invariant-loop-line
invariant-loop-line l = sent_fields l.sent.items ++ filter (λ f. among (map (λ n. n.now) l.names) (small f.0)) (fields (drop l.line-index l.lines)) ≡ sent_fields l.fn.sent.items ++ filter (λ f. among (map (λ n. n.now) l.names) (small f.0)) (fields l.lines)
