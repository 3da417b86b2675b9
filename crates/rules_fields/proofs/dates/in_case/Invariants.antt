use Rattle.std.proofs.Common.{◌≡◌, ◌-◌, length, ◌++◌, map, take, false}
use Rattle.std.specs.Char.{to_ascii_uppercase}
use Rattle.rules_fields.specs.Dates.{words_from}
use Rattle.rules_fields.proofs.dates.in_case.Given as goal

abbrev pub invariant-loop-b : goal.invariant-loop-b
invariant-loop-b l = l.cased.items ≡ words_from false (take (length l.text - 3) l.text) ++ map to_ascii_uppercase (take l.b-index l.zone)
