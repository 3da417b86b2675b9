use Rattle.std.proofs.Common.{◌≡◌, drop, take}
use Rattle.head_directives.specs.Listed.{parts}
use Rattle.head_directives.specs.Listed.{onto_front}
use Rattle.head_directives.proofs.listed_names.cut.Given as goal

-- what was passed is the front of the first part
abbrev pub invariant-loop-i : goal.invariant-loop-i
invariant-loop-i l = onto_front (take l.i l.bytes) (parts (drop l.i l.bytes)) ≡ parts l.bytes
