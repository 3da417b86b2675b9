use Rattle.std.proofs.Common.{◌≡◌, ◌++◌, drop}
use Rattle.rules_fields.specs.Fields.{fields}
use Rattle.rules_fields.specs.Meaning.{meanings}
use Rattle.rules_fields.specs.Directives.{directives}
use Rattle.rules_fields.proofs.reading.directives.Given as goal

abbrev pub invariant-loop-line : goal.invariant-loop-line
invariant-loop-line l = meanings l.found.items ++ directives l.name (fields (drop l.line-index l.lines)) ≡ directives l.name (fields l.lines)
