use Rattle.std.proofs.Common.{◌≡◌, drop}
use Rattle.std.specs.Prelude.{bytes_eq}
use Rattle.rules_fields.specs.Texts.{small}
use Rattle.rules_fields.proofs.blanks.is_same.Given as goal

abbrev pub invariant-loop-i : goal.invariant-loop-i
invariant-loop-i l = bytes_eq (small (drop l.i l.a)) (small (drop l.i l.b)) ≡ bytes_eq (small l.a) (small l.b)
