use Rattle.std.proofs.Common.{◌≡◌, drop, map}
use Rattle.rules_fields.specs.Tables.{among}
use Rattle.rules_quick.proofs.front.is_among.Given as goal

abbrev pub invariant-loop-m : goal.invariant-loop-m
invariant-loop-m l = among (map (λ m. m.now) (drop l.m-index l.methods)) l.method ≡ among (map (λ m. m.now) l.methods) l.method
