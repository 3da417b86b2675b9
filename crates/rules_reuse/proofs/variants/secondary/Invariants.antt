use Rattle.std.proofs.Common.{◌≡◌, ◌++◌, map, drop}
use Rattle.rules_fields.specs.Texts.{small}
use Rattle.rules_fields.specs.Fields.{fields}
use Rattle.rules_reuse.specs.Variants.{secondary}
use Rattle.rules_reuse.proofs.variants.secondary.Given as goal

abbrev pub invariant-loop-name : goal.invariant-loop-name
invariant-loop-name l = l.key.items ++ secondary (map (λ n. small n.now) (drop l.name-index l.names)) (fields l.lines) ≡ secondary (map (λ n. small n.now) l.names) (fields l.lines)
