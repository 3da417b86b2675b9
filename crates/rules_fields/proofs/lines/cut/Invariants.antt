use Rattle.std.proofs.Common.{◌≡◌, drop, take}
use Rattle.rules_fields.specs.Fields.{parts, cut}
use Rattle.rules_fields.proofs.Parts.{onto_front, behind}
use Rattle.rules_fields.proofs.lines.cut.Given as goal

-- what was passed is the front of the first part
abbrev pub invariant-loop-i : goal.invariant-loop-i
invariant-loop-i l = record {
  value : behind (take l.i l.text) (cut (drop l.i l.text)) ≡ cut l.text;
  first : onto_front (take l.i l.text) (parts (drop l.i l.text)) ≡ parts l.text;
}
