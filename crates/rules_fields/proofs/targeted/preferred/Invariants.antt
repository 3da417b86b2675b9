use Rattle.std.proofs.Common.{◌≡◌, drop, map}
use Rattle.rules_fields.specs.Fields.{fields}
use Rattle.rules_fields.specs.Targeted.{preferred}
use Rattle.rules_fields.proofs.targeted.preferred.Given as goal

abbrev pub invariant-loop-name : goal.invariant-loop-name
invariant-loop-name l = preferred (map (λ n. n.now) (drop l.name-index l.names)) (fields l.lines) ≡ preferred (map (λ n. n.now) l.names) (fields l.lines)
