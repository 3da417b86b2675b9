use Rattle.std.proofs.Common.{◌≡◌, drop, take}
use Rattle.rules_response.specs.Ranges.{cut_hyphen}
use Rattle.rules_response.proofs.Unquoted.{behind}
use Rattle.rules_response.proofs.ranges.cut_hyphen.Given as goal

abbrev pub invariant-loop-i : goal.invariant-loop-i
invariant-loop-i l = behind (take l.i l.text) (cut_hyphen (drop l.i l.text)) ≡ cut_hyphen l.text
