use Rattle.std.proofs.Common.{◌≡◌, ◌++◌, ◌∷◌, [], map, drop, codes}
use Rattle.rules_fields.specs.Types.{chosen}
use Rattle.rules_response.specs.Lines.{joined_by, status_element}
use Rattle.rules_response.proofs.lines.add_cache_status.Given as goal

abbrev pub invariant-loop-value : goal.invariant-loop-value
invariant-loop-value l = l.text.items ++ joined_by (codes ", ") (map (λ v. v.now) (drop l.value-index l.values) ++ (status_element (map (λ h. h.now) l.how) (chosen l.options) ∷ [])) ≡ joined_by (codes ", ") (map (λ v. v.now) l.values ++ (status_element (map (λ h. h.now) l.how) (chosen l.options) ∷ []))
