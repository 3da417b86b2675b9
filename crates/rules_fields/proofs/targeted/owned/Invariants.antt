use Rattle.std.proofs.Common.{◌≡◌, take}
use Rattle.rules_fields.specs.Meaning.{meanings}
use Rattle.rules_fields.proofs.targeted.owned.Given as goal

abbrev pub invariant-loop-d : goal.invariant-loop-d
invariant-loop-d l = meanings l.copies.items ≡ meanings (take l.d-index l.ds)
