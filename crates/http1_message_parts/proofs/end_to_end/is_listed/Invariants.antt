use Rattle.std.proofs.Common.{◌≡◌, drop, map}
use Rattle.rules_fields.specs.Texts.{small}
use Rattle.rules_fields.specs.Tables.{among}
use Rattle.http1_message_parts.proofs.end_to_end.is_listed.Given as goal

abbrev pub invariant-loop-n : goal.invariant-loop-n
invariant-loop-n l = among (map small (map (λ n. n.now) (drop l.n-index l.names))) (small l.name) ≡ among (map small (map (λ n. n.now) l.names)) (small l.name)
