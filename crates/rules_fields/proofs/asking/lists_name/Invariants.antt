use Rattle.std.proofs.Common.{◌≡◌, ◌+◌, false, length}
use Rattle.std.specs.Option.{option_map_or}
use Rattle.rules_fields.specs.Texts.{small}
use Rattle.rules_fields.specs.Asking.{lists_name}
use Rattle.rules_fields.proofs.asking.lists_name.Given as goal

abbrev pub invariant-loop-left : goal.invariant-loop-left
invariant-loop-left l = option_map_or (λ t. lists_name t.now (small l.field)) l.left false ≡ lists_name l.value (small l.field)

abbrev pub decreases-loop-left : goal.decreases-loop-left
decreases-loop-left l = option_map_or (λ t. length t.now + 1) l.left 0
