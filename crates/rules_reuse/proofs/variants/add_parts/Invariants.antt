use Rattle.std.proofs.Common.{◌≡◌, ◌++◌, ◌+◌, [], map, length}
use Rattle.std.specs.Option.{option_map_or}
use Rattle.rules_fields.specs.Texts.{trimmed}
use Rattle.rules_fields.specs.Fields.{parts}
use Rattle.rules_reuse.proofs.variants.add_parts.Given as goal

abbrev pub invariant-loop-left : goal.invariant-loop-left
invariant-loop-left l = map (λ p. p.now) l.found.items ++ option_map_or (λ t. map trimmed (parts t.now)) l.left [] ≡ map (λ p. p.now) l.fn.found.items ++ map trimmed (parts l.value)

abbrev pub decreases-loop-left : goal.decreases-loop-left
decreases-loop-left l = option_map_or (λ t. length t.now + 1) l.left 0
