use Rattle.std.proofs.Common.{◌≡◌, drop, map}
use Rattle.rules_fields.specs.Fields.{fields, all}
use Rattle.rules_fields.specs.Tags.{tags_over, tags_of}
use Rattle.rules_fields.specs.TagValues.{tag_value}
use Rattle.rules_fields.proofs.tags.tags_of.Given as goal

abbrev pub invariant-loop-line : goal.invariant-loop-line
invariant-loop-line l = tags_over (map tag_value l.found.items) (all l.name (fields (drop l.line-index l.lines))) ≡ tags_of l.name (fields l.lines)
