use Rattle.std.proofs.Common.{◌≡◌, drop}
use Rattle.rules_fields.specs.Fields.{first}
use Rattle.rules_response.specs.Sent.{sent_fields}
use Rattle.rules_serving.proofs.answering.value_of.Given as goal

abbrev pub invariant-loop-line : goal.invariant-loop-line
invariant-loop-line l = first l.name (sent_fields (drop l.line-index l.lines)) ≡ first l.name (sent_fields l.lines)
