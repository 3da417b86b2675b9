use Rattle.std.proofs.Common.{◌≡◌, ◌++◌, drop}
use Rattle.rules_fields.specs.Fields.{fields}
use Rattle.rules_fields.specs.Meaning.{meanings}
use Rattle.rules_fields.specs.Types.{chosen}
use Rattle.rules_storage.specs.Judge.{stored_lines}
use Rattle.rules_storage.proofs.stored.stored_lines.Given as goal

abbrev pub invariant-loop-line : goal.invariant-loop-line
invariant-loop-line l = fields l.kept.items ++ stored_lines (meanings l.ds) (chosen l.options) (fields (drop l.line-index l.lines)) ≡ stored_lines (meanings l.ds) (chosen l.options) (fields l.lines)
