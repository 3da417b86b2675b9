use Rattle.std.proofs.Common.{◌≡◌, ◌++◌, drop}
use Rattle.rules_fields.specs.Fields.{fields, all}
use Rattle.http1_message_parts.specs.Via.{listed}
use Rattle.http1_message_parts.proofs.via.add_listed.Given as goal

abbrev pub invariant-loop-line : goal.invariant-loop-line
invariant-loop-line l = l.text.items ++ listed (all l.name (fields (drop l.line-index l.lines))) ≡ l.fn.text.items ++ listed (all l.name (fields l.lines))
