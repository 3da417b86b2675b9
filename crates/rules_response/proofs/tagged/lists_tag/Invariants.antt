use Rattle.std.proofs.Common.{◌≡◌, ◌++◌, map, drop}
use Rattle.rules_fields.specs.Fields.{fields}
use Rattle.rules_response.specs.Tagged.{members}
use Rattle.rules_response.proofs.tagged.lists_tag.Given as goal

abbrev pub invariant-loop-line : goal.invariant-loop-line
invariant-loop-line l = map (λ m. m.now) l.found.items ++ members l.name (fields (drop l.line-index l.lines)) ≡ members l.name (fields l.lines)
