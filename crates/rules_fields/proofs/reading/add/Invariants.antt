use Rattle.std.proofs.Common.{◌≡◌, ◌++◌}
use Rattle.rules_fields.specs.Meaning.{meanings}
use Rattle.rules_fields.specs.Directives.{directives_of}
use Rattle.rules_fields.proofs.Cutting.{to_find, bytes_left}
use Rattle.rules_fields.proofs.reading.add.Given as goal

abbrev pub invariant-loop-left : goal.invariant-loop-left
invariant-loop-left l = meanings l.found.items ++ to_find l.left ≡ meanings l.fn.found.items ++ directives_of l.text

abbrev pub decreases-loop-left : goal.decreases-loop-left
decreases-loop-left l = bytes_left l.left
