use Rattle.std.proofs.Common.{◌≡◌, drop}
use Rattle.rules_fields.specs.Meaning.{meanings}
use Rattle.rules_fields.specs.Asking.{has}
use Rattle.rules_fields.proofs.asking.has.Given as goal

abbrev pub invariant-loop-d : goal.invariant-loop-d
invariant-loop-d l = has l.name (meanings (drop l.d-index l.ds)) ≡ has l.name (meanings l.ds)
