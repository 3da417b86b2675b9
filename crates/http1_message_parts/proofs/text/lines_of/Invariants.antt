use Rattle.std.proofs.Common.{◌≡◌, ◌++◌, drop}
use Rattle.rules_fields.specs.Fields.{fields}
use Rattle.http1_message_parts.specs.Views.{made_fields}
use Rattle.http1_message_parts.proofs.text.lines_of.Given as goal

abbrev pub invariant-loop-line : goal.invariant-loop-line
invariant-loop-line l = fields l.lines.items ++ made_fields (drop l.line-index l.made) ≡ made_fields l.made
