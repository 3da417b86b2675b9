use Rattle.std.proofs.Common.{◌≡◌, ◌++◌, ◌∷◌, drop, map}
use Rattle.std.specs.List.{flat_map}
use Rattle.rules_fields.specs.Targeted.{joined}
use Rattle.rules_fields.proofs.targeted.joined.Given as goal

abbrev pub invariant-loop-value : goal.invariant-loop-value
invariant-loop-value l = l.text.items ++ flat_map (λ v. 44 ∷ 32 ∷ v) (map (λ v. v.now) (drop l.value-index l.rest)) ≡ joined (map (λ v. v.now) l.values)
