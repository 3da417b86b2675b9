use Rattle.std.proofs.Common.{◌≡◌, ◌+◌, drop}
use Rattle.rules_fields.specs.Directives.{name_len}
use Rattle.rules_fields.proofs.reading.name_len.Given as goal

abbrev pub invariant-loop-i : goal.invariant-loop-i
invariant-loop-i l = l.i + name_len (drop l.i l.text) ≡ name_len l.text
