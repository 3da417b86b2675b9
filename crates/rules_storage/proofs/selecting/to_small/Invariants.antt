use Rattle.std.proofs.Common.{◌≡◌, ◌++◌, drop}
use Rattle.rules_fields.specs.Texts.{small}
use Rattle.rules_storage.proofs.selecting.to_small.Given as goal

abbrev pub invariant-loop-b : goal.invariant-loop-b
invariant-loop-b l = l.cased.items ++ small (drop l.b-index l.text) ≡ small l.text
