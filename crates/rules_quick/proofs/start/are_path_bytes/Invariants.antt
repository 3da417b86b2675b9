use Rattle.std.proofs.Common.{◌≡◌, drop}
use Rattle.std.specs.List.{list_all}
use Rattle.rules_quick.specs.Plain.{is_path_byte}
use Rattle.rules_quick.proofs.start.are_path_bytes.Given as goal

abbrev pub invariant-loop-b : goal.invariant-loop-b
invariant-loop-b l = list_all is_path_byte (drop l.b-index l.text) ≡ list_all is_path_byte l.text
