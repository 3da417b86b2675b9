use Rattle.std.proofs.Common.{◌≡◌, ◌++◌, ◌+◌, [], map, length}
use Rattle.std.specs.Option.{option_map_or}
use Rattle.rules_fields.specs.Fields.{elements_of}
use Rattle.rules_fields.proofs.lines.add_elements.Given as goal

abbrev pub invariant-loop-left : goal.invariant-loop-left
invariant-loop-left l = map (λ e. e.now) l.found.items ++ option_map_or (λ t. elements_of t.now) l.left [] ≡ map (λ e. e.now) l.fn.found.items ++ elements_of l.value

abbrev pub decreases-loop-left : goal.decreases-loop-left
decreases-loop-left l = option_map_or (λ t. length t.now + 1) l.left 0
