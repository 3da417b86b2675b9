use Rattle.std.proofs.Common.{◌≡◌, drop, map}
use Rattle.rules_fields.specs.Texts.{small}
use Rattle.rules_fields.specs.Tables.{among}
use Rattle.rules_fields.proofs.tables.among.Given as goal

abbrev pub invariant-loop-n : goal.invariant-loop-n
invariant-loop-n l = among (map (λ n. n.now) (drop l.n-index l.names)) (small l.name) ≡ among (map (λ n. n.now) l.names) (small l.name)
