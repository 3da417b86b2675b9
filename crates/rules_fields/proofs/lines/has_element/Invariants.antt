use Rattle.std.proofs.Common.{◌≡◌, ◌+◌, false, map, length}
use Rattle.std.specs.Prelude.{bytes_eq}
use Rattle.std.specs.List.{list_any}
use Rattle.std.specs.Option.{option_map_or}
use Rattle.rules_fields.specs.Texts.{small}
use Rattle.rules_fields.specs.Fields.{elements_of}
use Rattle.rules_fields.proofs.lines.has_element.Given as goal

abbrev pub invariant-loop-left : goal.invariant-loop-left
invariant-loop-left l = option_map_or (λ t. list_any (λ e. bytes_eq e l.wanted) (map small (elements_of t.now))) l.left false ≡ list_any (λ e. bytes_eq e l.wanted) (map small (elements_of l.value))

abbrev pub decreases-loop-left : goal.decreases-loop-left
decreases-loop-left l = option_map_or (λ t. length t.now + 1) l.left 0
