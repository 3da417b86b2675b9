use Rattle.std.proofs.Common.{◌≡◌, drop, false}
use Rattle.rules_fields.specs.Directives.{quoted}
use Rattle.rules_fields.proofs.Cutting.{behind}
use Rattle.rules_fields.proofs.reading.quoted.Given as goal

abbrev pub invariant-loop-i : goal.invariant-loop-i
invariant-loop-i l = behind l.value.items (quoted l.escaped (drop l.i l.text)) ≡ quoted false l.text
