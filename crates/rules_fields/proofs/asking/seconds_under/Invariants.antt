use Rattle.std.proofs.Common.{◌≡◌, drop}
use Rattle.rules_fields.specs.Meaning.{meanings}
use Rattle.rules_fields.specs.Asking.{seconds_under}
use Rattle.rules_fields.proofs.asking.seconds_under.Given as goal

abbrev pub invariant-loop-d : goal.invariant-loop-d
invariant-loop-d l = seconds_under l.name (meanings (drop l.d-index l.ds)) ≡ seconds_under l.name (meanings l.ds)
