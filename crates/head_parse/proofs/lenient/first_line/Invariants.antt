use Rattle.std.proofs.Common.{◌≡◌, ◌++◌, take, drop}
use Rattle.head_parse.specs.Response.{first_line, line_from}
use Rattle.head_parse.proofs.lenient.first_line.Given as goal

abbrev pub invariant-loop-i : goal.invariant-loop-i
invariant-loop-i l = first_line l.bytes ≡ take l.i l.bytes ++ line_from l.text (drop l.i l.bytes)
