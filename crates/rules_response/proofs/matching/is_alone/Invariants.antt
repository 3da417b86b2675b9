use Rattle.std.proofs.Common.{◌≡◌, ◌≤◌, ◌+◌, length, drop}
use Rattle.rules_fields.specs.Fields.{fields, all}
use Rattle.rules_response.proofs.matching.is_alone.Given as goal

abbrev pub invariant-loop-line : goal.invariant-loop-line
invariant-loop-line l = record {
  count : l.n + length (all l.name (fields (drop l.line-index l.lines))) ≡ length (all l.name (fields l.lines));
  within : l.n ≤ l.line-index;
}
