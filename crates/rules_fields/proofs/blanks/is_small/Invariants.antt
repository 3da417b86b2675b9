use Rattle.std.proofs.Common.{◌≡◌, drop}
use Rattle.std.specs.Prelude.{bytes_eq}
use Rattle.rules_fields.specs.Texts.{small}
use Rattle.rules_fields.proofs.blanks.is_small.Given as goal

abbrev pub invariant-loop-i : goal.invariant-loop-i
invariant-loop-i l = bytes_eq (small (drop l.i l.text)) (drop l.i l.wanted) ≡ bytes_eq (small l.text) l.wanted
