use Rattle.std.proofs.Common.{◌≡◌, drop, take, false}
use Rattle.rules_response.specs.Tagged.{unquoted_parts, cut_unquoted}
use Rattle.rules_response.proofs.Unquoted.{onto_front, behind}
use Rattle.rules_response.proofs.tagged.cut_unquoted.Given as goal

-- what was passed is the front of the first part
abbrev pub invariant-loop-i : goal.invariant-loop-i
invariant-loop-i l = record {
  value : behind (take l.i l.text) (cut_unquoted l.quoted (drop l.i l.text)) ≡ cut_unquoted false l.text;
  first : onto_front (take l.i l.text) (unquoted_parts l.quoted (drop l.i l.text)) ≡ unquoted_parts false l.text;
}
