use Rattle.std.proofs.Common.{◌≡◌, ◌++◌, map, drop, codes}
use Rattle.std.specs.List.{flat_map}
use Rattle.rules_fields.specs.Types.{chosen}
use Rattle.rules_response.specs.Lines.{status_element}
use Rattle.rules_response.proofs.lines.add_element.Given as goal

abbrev pub invariant-loop-parameter : goal.invariant-loop-parameter
invariant-loop-parameter l = l.text.items ++ flat_map (λ u. codes "; " ++ u) (map (λ h. h.now) (drop l.parameter-index l.how)) ≡ l.fn.text.items ++ status_element (map (λ h. h.now) l.how) (chosen l.options)
