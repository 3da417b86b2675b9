use Rattle.std.proofs.Common.{◌≡◌, drop, map}
use Rattle.rules_fields.specs.Fields.{fields}
use Rattle.rules_storage.specs.Judge.{names_any}
use Rattle.rules_storage.proofs.judging.names_any.Given as goal

abbrev pub invariant-loop-name : goal.invariant-loop-name
invariant-loop-name l = names_any (map (λ n. n.now) (drop l.name-index l.names)) (fields l.lines) ≡ names_any (map (λ n. n.now) l.names) (fields l.lines)
