use Rattle.std.proofs.Common.{◌≡◌, drop}
use Rattle.rules_fields.specs.Meaning.{meanings}
use Rattle.rules_fields.specs.Asking.{alone}
use Rattle.rules_fields.proofs.asking.alone.Given as goal

abbrev pub invariant-loop-d : goal.invariant-loop-d
invariant-loop-d l = alone l.name (meanings (drop l.d-index l.ds)) ≡ alone l.name (meanings l.ds)
