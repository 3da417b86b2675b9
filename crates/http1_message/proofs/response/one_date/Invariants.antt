use Rattle.std.proofs.Common.{◌≡◌, ◌++◌, drop, false}
use Rattle.rules_fields.specs.Fields.{fields}
use Rattle.http1_message.specs.Response.{one_date}
use Rattle.http1_message.proofs.response.one_date.Given as goal

abbrev pub invariant-loop-line : goal.invariant-loop-line
invariant-loop-line l = fields l.kept.items ++ one_date l.came (fields (drop l.line-index l.lines)) ≡ one_date false (fields l.lines)
