use Rattle.std.proofs.Common.{◌≡◌, drop}
use Rattle.rules_fields.specs.Texts.{small}
use Rattle.rules_fields.specs.Meaning.{meanings}
use Rattle.rules_fields.specs.Asking.{lists_field}
use Rattle.rules_fields.proofs.asking.lists_field.Given as goal

abbrev pub invariant-loop-d : goal.invariant-loop-d
invariant-loop-d l = lists_field l.name (meanings (drop l.d-index l.ds)) (small l.field) ≡ lists_field l.name (meanings l.ds) (small l.field)
